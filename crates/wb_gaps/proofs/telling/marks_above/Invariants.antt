use Rattle.std.proofs.Common.{◌≡◌, ◌++◌, ◌≤◌, ◌-◌, List, length}
use Rattle.std.specs.Prelude.{filter}
use Rattle.wb_names.specs.Ascending.{is_above}
use Rattle.wb_names.specs.Values.{MarkValue}
use Rattle.wb_gaps.specs.LastNumbers.{AreGreatest}
use Rattle.wb_gaps.specs.Starts.{runs_on}
use Rattle.wb_gaps.proofs.telling.marks_above.Given as goal

abbrev pub invariant-loop-source : goal.invariant-loop-source
invariant-loop-source l = record {
  few : length l.marks.items ≤ l.most;
  split : (all : List MarkValue) → AreGreatest (runs_on l.page l.fn.ranges.entries) all → l.marks.items ++ filter (λ (m : MarkValue). is_above l.last m.source) all ≡ filter (λ (m : MarkValue). is_above l.fn.last m.source) all;
}

abbrev pub decreases-loop-source : goal.decreases-loop-source
decreases-loop-source l = l.most - length l.marks.items
