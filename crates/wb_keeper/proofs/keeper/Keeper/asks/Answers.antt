use Rattle.std.proofs.Common.{sym, subst}
use Rattle.wb_recovery.specs.Accepted as timers
use Rattle.wb_keeper.specs.Keeper.{events_of}
use Rattle.wb_keeper.specs.Keeping.{KeeperValue}
use Rattle.wb_keeper.proofs.keeper.Keeper.asks.Goals as goal

pub returns-clause-calls : goal.returns-clause-calls
returns-clause-calls c = λ me constants calls s.
    c.asks.ensures.events constants (events_of me calls) (subst (λ (v : KeeperValue). timers.StandsFor constants (events_of me calls) v.recovery) (sym c.self.view_is) s.recovery)
