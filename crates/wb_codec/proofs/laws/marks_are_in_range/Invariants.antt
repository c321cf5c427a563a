use Rattle.std.proofs.Common.{ℕ, ◌<◌, get_or}
use Rattle.wb_names.specs.Values.{MarkValue}
use Rattle.wb_codec.specs.Ranges.{IsMark}
use Rattle.wb_codec.proofs.laws.marks_are_in_range.Given as goal

abbrev pub invariant-loop-mark : goal.invariant-loop-mark
invariant-loop-mark l = (k : ℕ) (d : MarkValue) → k < l.mark-index → IsMark (get_or l.marks k d)
