-- Two lists of marks, merged.
use Rattle.std.specs.Prelude.{ℕ, ◌+◌, List, length, filter, nat_eq}
use Rattle.wb_names.specs.Values.{MarkValue}
use Rattle.wb_names.specs.Marks.{mark_of}

-- how many sources the two have together: those of the first, and those of the second that the first lacks
abbrev pub source_count : List MarkValue → List MarkValue → ℕ
source_count a b = length a + length (filter (λ m. nat_eq (mark_of a m.source) 0) b)
