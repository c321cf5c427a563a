use Rattle.std.proofs.Common.{ℕ, ◌∙◌, ap, subst}
use Rattle.wb_recovery.specs.Events.{Got}
use Rattle.wb_recovery.specs.Accepted.{Accepts}
use Rattle.wb_keeper.specs.Keeping.{KeeperValue, delay_at}
use Rattle.wb_keeper.proofs.keeper.Keeper.receive.Goals as goal

pub returns-clause-came : goal.returns-clause-came
returns-clause-came c =
    let name = c.args.name in
    let v = c.args.self.now in
    let delay = c.delay-delay.ensures.delay ∙ ap (λ (s : ℕ). delay_at v.delays s) c.source.ensures in
    subst (λ (k : KeeperValue). Accepts (Got name k.moment (delay_at v.delays name.source)) k.recovery c.got.new.self) c.self.view_is
    (subst (λ (d : ℕ). Accepts (Got name c.self.inside.moment d) c.self.inside.recovery c.got.new.self) delay c.in-Ok.ensures.ok)
