use Rattle.std.proofs.Common.{◌≡◌, ◌≤◌, ◌+◌, length}
use Rattle.wb_gaps.specs.Merging.{joined}
use Rattle.wb_gaps.proofs.joined.count_sources.Given as goal

abbrev pub invariant-loop-count : goal.invariant-loop-count
invariant-loop-count l = record {
  counted : l.count + length (joined l.left.first.now l.left.second.now) ≡ length (joined l.fn.first l.fn.second);
  few : length (joined l.fn.first l.fn.second) ≤ 131070;
}

abbrev pub decreases-loop-count : goal.decreases-loop-count
decreases-loop-count l = length (joined l.left.first.now l.left.second.now)
