use Rattle.std.proofs.Common.{◌≡◌, List, take}
use Rattle.wb_names.specs.Values.{NameValue}
use Rattle.wb_recovery.specs.Values.{record_in, timers_in}
use Rattle.wb_recovery.specs.Events.{Event, timers_of}
use Rattle.wb_recovery.specs.Accepted.{StandsFor}
use Rattle.wb_recovery.specs.Noticing.{notices, taken_back}
use Rattle.wb_recovery.specs.declared.tuning.Tuning.{Tuning}
use Rattle.wb_recovery.proofs.recovery.Recovery.notice_all.Given as goal

abbrev pub invariant-loop-one : goal.invariant-loop-one
invariant-loop-one l = record {
  events : (constants : Tuning) (events : List Event) → StandsFor constants events l.initial.self → (n : NameValue) → timers_in l.self n ≡ timers_of constants (notices l.now events (take l.one-index l.missed)) n;
  back : (n : NameValue) → taken_back n l.set.items (record_in l.self n) ≡ record_in l.initial.self n;
  tuning : l.self.tuning ≡ l.initial.self.tuning;
  moment : l.self.moment ≡ l.initial.self.moment;
}
