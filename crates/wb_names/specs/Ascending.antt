-- Lists of entries, as marks and echoes are: the sources ascend, each once.
use Rattle.std.specs.Prelude.{ℕ, ◌+◌, ◌<◌, ◌≤◌, Bool, true, Option, Some, None, List, length, nat_lt, All, AllPairs, slice_index}
use Rattle.wb_names.specs.Values.{MarkValue}
use Rattle.wb_names.specs.declared.echo.Echo.{Echo}
use Rattle.wb_names.specs.declared.entries.TheConstants.{MAX_ENTRIES}

-- the sources ascend, each number is at least 1, and a count of two bytes can tell how many there are
pub record AreEntries {E : Type 0} (source : E → ℕ) (IsPositive : E → Type 0) (entries : List E) : Type 0 where
  pub ascending : AllPairs (λ a b. source a < source b) entries
  pub positive : All IsPositive entries
  pub few : length entries ≤ MAX_ENTRIES

abbrev pub AreMarks : List MarkValue → Type 0
AreMarks = AreEntries (λ (m : MarkValue). m.source) (λ (m : MarkValue). 1 ≤ m.high)

-- an echo has no number
abbrev pub AreEchoes : List Echo → Type 0
AreEchoes = AreEntries (λ (e : Echo). e.source) (λ (e : Echo). Unit {0})

-- whether a source is above the one before it, if there is one
abbrev pub is_above : Option ℕ → ℕ → Bool
is_above None source = true
is_above (Some before) source = nat_lt before source

-- somewhere the next of these numbers is not above the one before it
abbrev pub Descends : List ℕ → Type 0
Descends sources = (k : ℕ) × (k + 1 < length sources) × (slice_index sources (k + 1) ≤ slice_index sources k)
