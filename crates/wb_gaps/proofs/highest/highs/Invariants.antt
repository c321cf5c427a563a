use Rattle.std.proofs.Common.{◌≡◌, ◌++◌, length}
use Rattle.wb_gaps.specs.Runs.{AreRuns, runs_left}
use Rattle.wb_gaps.specs.Walk.{ahead}
use Rattle.wb_gaps.proofs.GreatestNumbers.{last_marks}
use Rattle.wb_gaps.proofs.highest.highs.Given as goal

abbrev pub invariant-loop-next : goal.invariant-loop-next
invariant-loop-next l = record {
  lawful : AreRuns (ahead l.next (runs_left l.runs));
  kept : l.marks.items ++ last_marks (ahead l.next (runs_left l.runs)) ≡ last_marks (runs_left l.fn.runs);
}

abbrev pub decreases-loop-next : goal.decreases-loop-next
decreases-loop-next l = length (ahead l.next (runs_left l.runs))
