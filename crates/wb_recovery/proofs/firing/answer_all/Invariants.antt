use Rattle.std.proofs.Common.{◌≡◌, take}
use Rattle.std.specs.Prelude.{if◌then◌else◌}
use Rattle.std.specs.BTreeMap.{IsOrdered}
use Rattle.wb_names.specs.Values.{NameValue}
use Rattle.wb_names.specs.Orders.{name_cmp}
use Rattle.wb_recovery.specs.Timing.{AreDelays, answer_due}
use Rattle.wb_recovery.specs.Values.{timers_at}
use Rattle.wb_recovery.specs.Alarms.{among, Keep}
use Rattle.wb_recovery.specs.Firing.{with_answer_fired}
use Rattle.wb_recovery.proofs.firing.answer_all.Given as goal

abbrev pub invariant-loop-name : goal.invariant-loop-name
invariant-loop-name l = record {
  written : (n : NameValue) → timers_at l.records.entries n ≡ (if among (take l.name-index l.answering) n then with_answer_fired l.now (timers_at l.initial.records.entries) n else timers_at l.initial.records.entries n);
  delays : (n : NameValue) → AreDelays (timers_at l.records.entries n);
  kept : Keep (λ n. answer_due (timers_at l.records.entries n)) l.alarms;
  ordered : IsOrdered name_cmp l.records;
}
