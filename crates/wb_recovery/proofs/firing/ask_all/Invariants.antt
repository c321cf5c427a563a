use Rattle.std.proofs.Common.{◌≡◌, take}
use Rattle.std.specs.Prelude.{map, if◌then◌else◌}
use Rattle.std.specs.BTreeMap.{IsOrdered}
use Rattle.wb_names.specs.Values.{NameValue}
use Rattle.wb_names.specs.Orders.{name_cmp}
use Rattle.wb_recovery.specs.Timing.{ask_due}
use Rattle.wb_recovery.specs.Alarms.{among, Keep}
use Rattle.wb_recovery.specs.Values.{timers_at}
use Rattle.wb_recovery.specs.declared.timers.Timers.{Timers}
use Rattle.wb_recovery.proofs.firing.ask_all.Given as goal

abbrev pub invariant-loop-count : goal.invariant-loop-count
invariant-loop-count l = record {
  written : (f : NameValue → Timers) → l.after ≡ map f l.asking → (n : NameValue) → timers_at l.records.entries n ≡ (if among (take l.count l.asking) n then f n else timers_at l.initial.records.entries n);
  kept : Keep (λ n. ask_due (timers_at l.records.entries n)) l.alarms;
  ordered : IsOrdered name_cmp l.records;
}
