use Rattle.std.proofs.Common.{◌≡◌, List, take}
use Rattle.std.specs.Prelude.{filter}
use Rattle.wb_recovery.specs.Events.{Event}
use Rattle.wb_recovery.specs.Accepted as timers
use Rattle.wb_recovery.specs.Stopping.{receipts}
use Rattle.wb_recovery.specs.declared.tuning.Tuning.{Tuning}
use Rattle.wb_keeper.specs.Keeper.{received_of, holds}
use Rattle.wb_keeper.specs.Keeping.{delay_at}
use Rattle.wb_keeper.proofs.keeper.Keeper.receive_all.Given as goal

abbrev pub invariant-loop-name : goal.invariant-loop-name
invariant-loop-name l = record {
  rest : l.self ≡ record l.initial.self { recovery = l.self.recovery };
  came : (constants : Tuning) (events : List Event) → timers.StandsFor constants events l.initial.self.recovery → timers.StandsFor constants (receipts l.initial.self.moment events (received_of (delay_at l.initial.self.delays) (filter (holds l.desk.seen) (take l.name-index l.names)))) l.self.recovery;
}
