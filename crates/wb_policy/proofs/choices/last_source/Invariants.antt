use Rattle.std.proofs.Common.{◌≡◌, None, drop}
use Rattle.wb_policy.specs.Choices.{last_source}
use Rattle.wb_policy.proofs.choices.last_source.Given as goal

abbrev pub invariant-loop-mark : goal.invariant-loop-mark
invariant-loop-mark l = last_source l.last (drop l.mark-index l.marks) ≡ last_source None l.marks
