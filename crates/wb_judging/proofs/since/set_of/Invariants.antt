use Rattle.std.proofs.Common.{◌≡◌, take}
use Rattle.std.specs.HashSet.{contains}
use Rattle.std.specs.List.{list_any}
use Rattle.wb_names.specs.Same.{same_target}
use Rattle.wb_names.specs.declared.parts.Target.{Target}
use Rattle.wb_judging.proofs.since.set_of.Given as goal

abbrev pub invariant-loop-target : goal.invariant-loop-target
invariant-loop-target l = (t : Target) → contains same_target l.set t ≡ list_any (same_target t) (take l.target-index l.targets)
