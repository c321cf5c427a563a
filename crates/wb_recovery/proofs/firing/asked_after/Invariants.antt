use Rattle.std.proofs.Common.{◌≡◌, take, map}
use Rattle.wb_recovery.specs.Values.{timers_at}
use Rattle.wb_recovery.specs.Firing.{with_ask_fired}
use Rattle.wb_recovery.proofs.firing.asked_after.Given as goal

abbrev pub invariant-loop-count : goal.invariant-loop-count
invariant-loop-count l = l.after.items ≡ map (with_ask_fired l.tuning l.now l.words l.asking (timers_at l.records.entries)) (take l.count l.asking)
