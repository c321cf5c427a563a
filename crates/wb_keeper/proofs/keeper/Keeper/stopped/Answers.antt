use Rattle.std.proofs.Common.{◌∙◌, ap, rules}
use Rattle.std.proofs.lemmas.Result.{IfOk-weaker}
use Rattle.wb_keeper.specs.Keeper.{received_of, holds}
use Rattle.wb_keeper.specs.Keeping.{KeeperValue, delay_at}
use Rattle.wb_keeper.specs.Ticks.{stopped_in}
use Rattle.wb_keeper.proofs.keeper.Keeper.stopped.Goals as goal

pub returns : goal.returns
returns c =
    let seen = c.args.desk.now.seen in
    let held = c.in_ok-held.ensures (holds seen) (λ n b told. search rules) ∙ ap (λ (v : KeeperValue). stopped_in seen v.recovery) c.self.view_is in
    IfOk-weaker c.received_from.result _ _ (λ received is. is ∙ ap (received_of (delay_at c.args.self.now.delays)) (c.deref.ensures.value ∙ held)) c.received_from.ensures
