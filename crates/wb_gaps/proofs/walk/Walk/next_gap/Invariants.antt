use Rattle.std.proofs.Common.{◌≡◌, length}
use Rattle.wb_gaps.specs.Walk.{gaps_left, spans_left}
use Rattle.wb_gaps.proofs.walk.Walk.next_gap.Given as goal

abbrev pub invariant-loop-span : goal.invariant-loop-span
invariant-loop-span l = gaps_left l.self ≡ gaps_left l.initial.self

abbrev pub decreases-loop-span : goal.decreases-loop-span
decreases-loop-span l = length (spans_left l.self)
