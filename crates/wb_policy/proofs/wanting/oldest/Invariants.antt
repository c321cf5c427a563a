use Rattle.std.proofs.Common.{◌≡◌, take}
use Rattle.std.specs.List.{fold}
use Rattle.wb_policy.specs.Wanting.{older}
use Rattle.wb_policy.proofs.wanting.oldest.Given as goal

abbrev pub invariant-loop-other : goal.invariant-loop-other
invariant-loop-other l = l.oldest ≡ fold older l.initial.oldest (take l.other-index l.later)
