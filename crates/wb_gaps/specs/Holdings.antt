-- What is held, as ranges of numbers.
use Rattle.std.specs.Prelude.{◌≡◌, ℕ, Bool, ◌||◌, ◌&&◌, IsTrue, List, nat_eq, nat_le}
use Rattle.std.specs.List.{list_any}
use Rattle.wb_names.specs.Values.{NameValue, DrawopValue}
use Rattle.wb_names.specs.Orders.{same_name, same_page}
use Rattle.wb_names.specs.History.{name_of}
use Rattle.wb_names.specs.declared.name.PageId.{PageId}
use Rattle.wb_gaps.specs.Greatest.{IsGreatest}

-- the numbers of a source on a page from the first to the last
pub record HeldRange : Type 0 where
  pub page : PageId
  pub source : ℕ
  pub first : ℕ
  pub last : ℕ

-- the name lies in the range
abbrev pub has_name : NameValue → HeldRange → Bool
has_name name r = (same_page r.page name.page && nat_eq r.source name.source) && (nat_le r.first name.seq && nat_le name.seq r.last)

-- the name lies in a range
abbrev pub holds : List HeldRange → NameValue → Bool
holds ranges name = list_any (has_name name) ranges

-- the name, and what was held before, and no other
abbrev pub HoldsToo : List HeldRange → NameValue → List HeldRange → Type 0
HoldsToo before name after = (other : NameValue) → holds after other ≡ (same_name name other || holds before other)

-- exactly the names of a list of drawops
abbrev pub HoldNamesOf : List DrawopValue → List HeldRange → Type 0
HoldNamesOf history ranges = (name : NameValue) → holds ranges name ≡ list_any (λ d. same_name d.name name) history

-- the greatest number of the source that is held on the page, or 0
abbrev pub IsHighest : List HeldRange → PageId → ℕ → ℕ → Type 0
IsHighest ranges page source high = IsGreatest (λ n. IsTrue (holds ranges (name_of page source n))) high
