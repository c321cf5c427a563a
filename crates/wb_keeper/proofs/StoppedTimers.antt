-- The request timers that a tick stops, read off the accepted calls.
use Rattle.std.proofs.Common.{refl, ap}
use Rattle.std.specs.Prelude.{filter, is_some}
use Rattle.wb_recovery.specs.declared.timers.Timers.{Timers}
use Rattle.wb_recovery.proofs.NameLists.{listed_same}
use Rattle.wb_keeper.specs.Keeper.{events_of, holds}
use Rattle.wb_keeper.specs.KeeperLaws.{StoppedByCalls}

pub stopped_by_calls : StoppedByCalls
stopped_by_calls me constants calls value s history = ap (filter (holds history)) (listed_same (λ (t : Timers). is_some t.ask) refl constants (events_of me calls) value.recovery s.recovery.rising s.recovery)
