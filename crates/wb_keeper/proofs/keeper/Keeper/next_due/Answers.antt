use Rattle.std.proofs.Common.{sym, subst}
use Rattle.wb_recovery.specs.Accepted as timers
use Rattle.wb_keeper.specs.Keeper.{events_of}
use Rattle.wb_keeper.specs.Keeping.{KeeperValue}
use Rattle.wb_keeper.proofs.NextDues.{next_by_calls}
use Rattle.wb_keeper.proofs.keeper.Keeper.next_due.Goals as goal

pub returns-clause-calls : goal.returns-clause-calls
returns-clause-calls c = λ me t calls s.
    next_by_calls t (events_of me calls) c.self.inside.recovery c.next_due.result
    (subst (λ (v : KeeperValue). timers.StandsFor t (events_of me calls) v.recovery) (sym c.self.view_is) s.recovery) c.next_due.ensures
