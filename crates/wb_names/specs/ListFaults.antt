-- Why a list of marks or echoes is refused, told by the sources of its members.
use Rattle.std.specs.Prelude.{ℕ, ◌<◌, ◌≤◌, List, length}
use Rattle.wb_names.specs.Ascending.{Descends}
use Rattle.wb_names.specs.declared.entries.TheConstants.{MAX_ENTRIES}
use Rattle.wb_names.specs.declared.fault.ListFault.{ListFault}
use Rattle.wb_names.specs.declared.fault.ListFault.TheVariants.{TooMany, Order}

-- The size is looked at first.
abbrev pub IsListFault : List ℕ → ListFault → Type 0
IsListFault sources TooMany = MAX_ENTRIES < length sources
IsListFault sources Order = (length sources ≤ MAX_ENTRIES) × Descends sources
