-- Why two lists of marks are not merged.
use Rattle.std.specs.Prelude.{ℕ, ◌<◌, ◌≤◌, List}
use Rattle.wb_names.specs.Values.{MarkValue}
use Rattle.wb_names.specs.declared.entries.TheConstants.{MAX_ENTRIES}
use Rattle.wb_gaps.specs.Merging.{source_count}
use Rattle.wb_gaps.specs.declared.merged.MergeFault.{MergeFault}
use Rattle.wb_gaps.specs.declared.merged.MergeFault.TheVariants.{TooMany, Memory}

abbrev pub merge_code : MergeFault → ℕ
merge_code TooMany = 1
merge_code Memory = 2

-- a list of marks has at most 65,535 sources, and this is decided before memory is asked for
abbrev pub IsMergeFault : List MarkValue → List MarkValue → MergeFault → Type 0
IsMergeFault a b TooMany = MAX_ENTRIES < source_count a b
IsMergeFault a b Memory = source_count a b ≤ MAX_ENTRIES
