-- Marks: for each of some sources, ascending, the greatest number that is known of it.
use Rattle.std.specs.Prelude.{◌≡◌, ℕ, List, [], ◌∷◌, max, nat_eq, if◌then◌else◌}
use Rattle.wb_names.specs.Values.{DrawopValue, MarkValue}
use Rattle.wb_names.specs.Ascending.{AreMarks}
use Rattle.wb_names.specs.History.{highest}
use Rattle.wb_names.specs.declared.name.PageId.{PageId}

-- the number that marks have for a source, or 0
abbrev pub mark_of : List MarkValue → ℕ → ℕ
mark_of [] source = 0
mark_of (m ∷ marks) source = if nat_eq m.source source then m.high else mark_of marks source

-- the greatest number of a source on a page that the history or the marks know, or 0
abbrev pub known : List DrawopValue → PageId → List MarkValue → ℕ → ℕ
known history page marks source = max (highest page source history) (mark_of marks source)

-- the report of a page: each source that has a member there, with its greatest number
abbrev pub IsReport : List DrawopValue → PageId → List MarkValue → Type 0
IsReport history page marks = AreMarks marks × ((source : ℕ) → mark_of marks source ≡ highest page source history)

-- each source of either, with the greater number
abbrev pub IsMerge : List MarkValue → List MarkValue → List MarkValue → Type 0
IsMerge a b marks = AreMarks marks × ((source : ℕ) → mark_of marks source ≡ max (mark_of a source) (mark_of b source))
