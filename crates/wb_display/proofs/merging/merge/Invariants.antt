use Rattle.std.proofs.Common.{◌+◌, take}
use Rattle.wb_display.proofs.MergeSteps.{Merging}
use Rattle.wb_display.proofs.merging.merge.Given as goal

abbrev pub invariant-loop-right : goal.invariant-loop-right
invariant-loop-right l = Merging (take l.front l.fn.list) l.entering l.list l.left l.right

abbrev pub decreases-loop-right : goal.decreases-loop-right
decreases-loop-right l = l.left + l.right
