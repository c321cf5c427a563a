use Rattle.std.proofs.Common.{◌≡◌, ◌++◌, length}
use Rattle.wb_gaps.specs.Merging.{joined}
use Rattle.wb_gaps.proofs.joined.join.Given as goal

abbrev pub invariant-loop-mark : goal.invariant-loop-mark
invariant-loop-mark l = l.marks.items ++ joined l.left.first.now l.left.second.now ≡ joined l.fn.first l.fn.second

abbrev pub decreases-loop-mark : goal.decreases-loop-mark
decreases-loop-mark l = length (joined l.left.first.now l.left.second.now)
