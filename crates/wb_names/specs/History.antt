-- A history of drawops: a list in which no name stands twice. A place is a position in it, from 0.
use Rattle.std.specs.Prelude.{◌≡◌, ◌≢◌, ℕ, List, [], ◌∷◌, length, slice_get, Some, Any, AllPairs, max, nat_eq, if◌then◌else◌, ◌&&◌, Bool}
use Rattle.wb_names.specs.Values.{NameValue, DrawopValue}
use Rattle.wb_names.specs.Orders.{same_page}
use Rattle.wb_names.specs.declared.name.PageId.{PageId}

-- no name stands twice
abbrev pub IsHistory : List DrawopValue → Type 0
IsHistory history = AllPairs (λ d e. d.name ≢ e.name) history

-- a member has this name
abbrev pub HoldsName : List DrawopValue → NameValue → Type 0
HoldsName history name = Any (λ d. d.name ≡ name) history

-- The three answers to the arrival of d: it is new, and takes the next place; the same drawop stands at place i;
-- another drawop of its name stands there.
abbrev pub IsNewAt : List DrawopValue → DrawopValue → ℕ → Type 0
IsNewAt history d i = (i ≡ length history) × ¬ HoldsName history d.name

abbrev pub IsAgainAt : List DrawopValue → DrawopValue → ℕ → Type 0
IsAgainAt history d i = slice_get history i ≡ Some d

abbrev pub IsClashAt : List DrawopValue → DrawopValue → ℕ → Type 0
IsClashAt history d i = (e : DrawopValue) × (slice_get history i ≡ Some e) × (e.name ≡ d.name) × (e ≢ d)

-- the name of a source's drawop of this number on a page
abbrev pub name_of : PageId → ℕ → ℕ → NameValue
name_of page source n = record { source = source; page = page; seq = n }

-- a member is this source's drawop of this number on the page
abbrev pub IsHeld : List DrawopValue → PageId → ℕ → ℕ → Type 0
IsHeld history page source n = HoldsName history (name_of page source n)

-- the drawop is of the page and the source
abbrev pub is_of : PageId → ℕ → DrawopValue → Bool
is_of page source d = same_page d.name.page page && nat_eq d.name.source source

-- the greatest number of a source on a page, or 0 where it has no member there
abbrev pub highest : PageId → ℕ → List DrawopValue → ℕ
highest page source [] = 0
highest page source (d ∷ history) = max (if is_of page source d then d.name.seq else 0) (highest page source history)
