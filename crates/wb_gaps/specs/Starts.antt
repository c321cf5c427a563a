-- The ranges of numbers that are kept, by page, source and first number.
use Rattle.std.specs.Prelude.{◌≡◌, ℕ, ◌+◌, ◌-◌, ◌<◌, ◌≤◌, ◌⊎◌, Bool, false, true, ◌&&◌, List, Option, Some, None, filter, is_some, map, nat_lt, if◌then◌else◌}
use Rattle.std.specs.List.{list_any}
use Rattle.std.specs.List.Sorted.{IsStrictlySortedBy}
use Rattle.std.specs.Map.{keys_of, lookup}
use Rattle.std.specs.BTreeMap.{is_at}
use Rattle.std.specs.Ordering.{is_lt, nat_cmp, ordering_then}
use Rattle.std.specs.declared.cmp.Ordering.{Ordering}
use Rattle.std.specs.declared.cmp.Ordering.TheVariants.{Less}
use Rattle.std.specs.declared.ops.Bound.{Bound}
use Rattle.std.specs.declared.ops.Bound.TheVariants.{Excluded, Included, Unbounded}
use Rattle.wb_names.specs.Ascending.{is_above}
use Rattle.wb_names.specs.Orders.{page_cmp, same_page}
use Rattle.wb_names.specs.Values.{greatest_number}
use Rattle.wb_names.specs.declared.name.PageId.{PageId}
use Rattle.wb_gaps.specs.Holdings.{HeldRange}
use Rattle.wb_gaps.specs.declared.holdings.Start.{Start}
use Rattle.wb_gaps.specs.declared.run.Run.{Run}

-- by page, then by source, then by first number
abbrev pub start_cmp : Start → Start → Ordering
start_cmp s t = ordering_then (page_cmp s.page t.page) (ordering_then (nat_cmp s.source t.source) (nat_cmp s.first t.first))

abbrev pub start : PageId → ℕ → ℕ → Start
start page source first = record { page = page; source = source; first = first }

abbrev pub range_of : Start × ℕ → HeldRange
range_of e = record { page = e.0.page; source = e.0.source; first = e.0.first; last = e.1 }

abbrev pub ranges_of : List (Start × ℕ) → List HeldRange
ranges_of entries = map range_of entries

-- the ranges of a page, as runs
abbrev pub run_of : Start × ℕ → Run
run_of e = record { source = e.0.source; first = e.0.first; last = e.1 }

abbrev pub is_on : PageId → Start × ℕ → Bool
is_on page e = same_page page e.0.page

abbrev pub runs_on : PageId → List (Start × ℕ) → List Run
runs_on page entries = map run_of (filter (is_on page) entries)

-- all places after a page, or all of them
abbrev pub past_page : Option PageId → Bound Start
past_page None = Unbounded
past_page (Some page) = Excluded (start page greatest_number greatest_number)

-- the last number of the range that begins there, if one does
abbrev pub last_at : List (Start × ℕ) → PageId → ℕ → ℕ → Option ℕ
last_at entries page source first = lookup (is_at (start_cmp (start page source first))) entries

-- the page has a range
abbrev pub HasPage : List (Start × ℕ) → PageId → Type 0
HasPage entries page = (source : ℕ) × (first : ℕ) × (last : ℕ) × (last_at entries page source first ≡ Some last)

-- the page is after the last one, where there is one
abbrev pub IsPast : Option PageId → PageId → Type 0
IsPast None page = Unit {0}
IsPast (Some last) page = page_cmp last page ≡ Less

abbrev pub is_past : Option PageId → PageId → Bool
is_past None page = true
is_past (Some last) page = is_lt (page_cmp last page)

-- the first page after the last one that has a range, or none has
abbrev pub IsNextPage : List (Start × ℕ) → Option PageId → Option PageId → Type 0
IsNextPage entries last None = (page : PageId) → HasPage entries page → ¬ IsPast last page
IsNextPage entries last (Some next) = HasPage entries next × IsPast last next × ((page : PageId) → HasPage entries page → IsPast last page → is_lt (page_cmp page next) ≡ false)

-- all places of a page after a source, or all of the page and later ones
abbrev pub past_source : PageId → Option ℕ → Bound Start
past_source page None = Included (start page 0 0)
past_source page (Some last) = Excluded (start page last greatest_number)

-- the source has a range on the page
abbrev pub HasSource : List (Start × ℕ) → PageId → ℕ → Type 0
HasSource entries page source = (first : ℕ) × (last : ℕ) × (last_at entries page source first ≡ Some last)

-- the first source above the last one that has a range on the page, or none has
abbrev pub IsNextSource : List (Start × ℕ) → PageId → Option ℕ → Option ℕ → Type 0
IsNextSource entries page last None = (source : ℕ) → HasSource entries page source → is_above last source ≡ false
IsNextSource entries page last (Some next) = HasSource entries page next × (is_above last next ≡ true) × ((source : ℕ) → HasSource entries page source → is_above last source ≡ true → next ≤ source)

-- the greatest source that has a range on the page, or none has
abbrev pub IsLastSource : List (Start × ℕ) → PageId → Option ℕ → Type 0
IsLastSource entries page None = (source : ℕ) → ¬ HasSource entries page source
IsLastSource entries page (Some last) = HasSource entries page last × ((source : ℕ) → HasSource entries page source → source ≤ last)

-- Of one page and source, by first number: ranges are not empty, begin at 1 or later and end in 32 bits; one ends two or
-- more below the next
pub record AreApart (lasts : ℕ → Option ℕ) : Type 0 where
  pub positive : (first last : ℕ) → lasts first ≡ Some last → 1 ≤ first
  pub filled : (first last : ℕ) → lasts first ≡ Some last → first ≤ last
  pub fits : (first last : ℕ) → lasts first ≡ Some last → last ≤ greatest_number
  pub apart : (first last next end : ℕ) → lasts first ≡ Some last → lasts next ≡ Some end → first < next → last + 1 < next

-- so it is for each page and source, and sources are of 32 bits
pub record AreRanges (entries : List (Start × ℕ)) : Type 0 where
  pub apart : (page : PageId) (source : ℕ) → AreApart (last_at entries page source)
  pub sources : (page : PageId) (source first last : ℕ) → last_at entries page source first ≡ Some last → source ≤ greatest_number

-- a range begins there
abbrev pub begins_at : List (Start × ℕ) → Start → Bool
begins_at entries s = is_some (lookup (is_at (start_cmp s)) entries)

abbrev pub is_among : List Start → Start → Bool
is_among starts s = list_any (is_at (start_cmp s)) starts

-- ranges in order, and where those of them begin that do not begin at 1
pub record AreKept (entries : List (Start × ℕ)) (starts : List Start) : Type 0 where
  pub ordered : IsStrictlySortedBy start_cmp (keys_of entries)
  pub ranges : AreRanges entries
  pub behind : (s : Start) → is_among starts s ≡ (begins_at entries s && nat_lt 1 s.first)

-- one begins at `start` now, none at `next`, if there is one, and the others where they did
abbrev pub is_next : Option Start → Start → Bool
is_next None s = false
is_next (Some next) s = is_at (start_cmp next) s

abbrev pub BeginAsBefore : List (Start × ℕ) → List (Start × ℕ) → Start → Option Start → Type 0
BeginAsBefore old new start next = (s : Start) → begins_at new s ≡ (if is_next next s then false else (if is_at (start_cmp start) s then true else begins_at old s))

-- the number lies in a range
abbrev pub Covers : (ℕ → Option ℕ) → ℕ → Type 0
Covers lasts n = (first : ℕ) × (last : ℕ) × (lasts first ≡ Some last) × (first ≤ n) × (n ≤ last)

-- A number that no range has would begin there: at itself, or with the range that ends right below it. Ranges that begin
-- below that end two or more below it, and those that begin above begin above the number.
pub record Begins (lasts : ℕ → Option ℕ) (n first : ℕ) : Type 0 where
  pub below : (other last : ℕ) → lasts other ≡ Some last → other < first → last + 1 < first
  pub above : (other last : ℕ) → lasts other ≡ Some last → first < other → n < other
  pub here : (last : ℕ) → lasts first ≡ Some last → last + 1 ≡ n
  pub alone : (lasts first ≡ None) → first ≡ n
  pub low : first ≤ n
  pub positive : 1 ≤ first

-- the range of a number ends with the one that begins right above it, or at the number
pub record Ends (lasts : ℕ → Option ℕ) (n last : ℕ) : Type 0 where
  pub joined : (end : ℕ) → lasts (n + 1) ≡ Some end → last ≡ end
  pub alone : lasts (n + 1) ≡ None → last ≡ n

-- the numbers from first to last lie in no range, but the one right above them does, and the one right below them,
-- unless they begin at 1
pub record IsHole (lasts : ℕ → Option ℕ) (first last : ℕ) : Type 0 where
  pub counted : 1 ≤ first
  pub filled : first ≤ last
  pub free : (n : ℕ) → first ≤ n → n ≤ last → ¬ Covers lasts n
  pub below : (first ≡ 1) ⊎ Covers lasts (first - 1)
  pub above : Covers lasts (last + 1)
