use Rattle.std.proofs.Common.{ap, sym, subst}
use Rattle.std.proofs.lemmas.Result.{on_ok_weaker}
use Rattle.wb_recovery.specs.Accepted as timers
use Rattle.wb_keeper.specs.Keeping.{KeeperValue}
use Rattle.wb_keeper.proofs.KeptCalls.{keeps_constants}
use Rattle.wb_keeper.proofs.keeper.Keeper.set_constants.Goals as goal

pub returns-clause-ok : goal.returns-clause-ok
returns-clause-ok c = on_ok_weaker c.tune.result
    (λ accepts. keeps_constants c.args.constants c.args.self.now _ c.tune.new.self (ap (λ (v : KeeperValue). record v { recovery = c.tune.new.self }) c.self.view_is)
    (λ t events s. accepts t events (subst (λ (v : KeeperValue). timers.StandsFor t events v.recovery) (sym c.self.view_is) s)))
    c.tune.ensures.ok
