-- Which names a keeper would ask for.
use Rattle.std.specs.Prelude.{◌≡◌, ℕ, zero, suc, ◌+◌, ◌-◌, Bool, true, not, List, [], ◌∷◌, length, map, filter, take, is_some}
use Rattle.std.specs.List.{flat_map}
use Rattle.wb_names.specs.Values.{NameValue, DrawopValue, MarkValue}
use Rattle.wb_names.specs.History.{name_of}
use Rattle.wb_names.specs.Listing.{Lists}
use Rattle.wb_names.specs.Orders.{name_cmp}
use Rattle.wb_names.specs.declared.name.PageId.{PageId}
use Rattle.wb_names.specs.declared.gap.Gap.{Gap}
use Rattle.wb_gaps.specs.Answers.{gaps_of}
use Rattle.wb_gaps.specs.Gaps.{AreGaps, IsMissing}
use Rattle.wb_recovery.specs.Events.{Event, asking, names_of, timers_of}
use Rattle.wb_recovery.specs.declared.tuning.Tuning.{Tuning}
use Rattle.wb_recovery.specs.declared.timers.Timers.{Timers}
use Rattle.wb_recovery.specs.declared.limits.TheConstants.{MOST_TIMERS}

-- `count` numbers, from the first on
abbrev pub numbers_from : ℕ → ℕ → List ℕ
numbers_from first zero = []
numbers_from first (suc count) = first ∷ numbers_from (first + 1) count

-- the names of a range, ascending
abbrev pub names_in_gap : PageId → Gap → List NameValue
names_in_gap page gap = map (name_of page gap.source) (numbers_from gap.first (gap.last + 1 - gap.first))

abbrev pub names_in_gaps : PageId → List Gap → List NameValue
names_in_gaps page gaps = flat_map (names_in_gap page) gaps

-- no request timer stands for the name
abbrev pub is_unasked : (NameValue → Timers) → NameValue → Bool
is_unasked timers name = not (is_some (timers name).ask)

-- of the missing names those without a request timer, as many as bring the standing ones to the most
abbrev pub wanted : (NameValue → Timers) → ℕ → List NameValue → List NameValue
wanted timers standing missing = take (MOST_TIMERS - standing) (filter (is_unasked timers) missing)

-- the names of the page that are missing, ascending, as far as they are wanted after these calls of the timers
abbrev pub AreWanted : Tuning → List Event → List DrawopValue → PageId → List MarkValue → List NameValue → Type 0
AreWanted constants events history page marks names = (gaps : List Gap) × AreGaps history page marks gaps × (names ≡ wanted (timers_of constants events) (length (asking (names_of events) (timers_of constants events))) (names_in_gaps page gaps))

-- there is one such list
abbrev pub OneWanted : Type 0
OneWanted = (constants : Tuning) (events : List Event) (history : List DrawopValue) (page : PageId) (marks : List MarkValue) (a b : List NameValue) → AreWanted constants events history page marks a → AreWanted constants events history page marks b → a ≡ b

-- ---- the same as a function

abbrev pub wanted_of : Tuning → List Event → List DrawopValue → PageId → List MarkValue → List NameValue
wanted_of constants events history page marks = wanted (timers_of constants events) (length (asking (names_of events) (timers_of constants events))) (names_in_gaps page (gaps_of history page marks))

-- it is the one such list
abbrev pub WantedOfPage : Type 0
WantedOfPage = (constants : Tuning) (events : List Event) (history : List DrawopValue) (page : PageId) (marks : List MarkValue) → AreWanted constants events history page marks (wanted_of constants events history page marks)

-- ---- what it means

-- a name of the page that is known of and not held, and for which no request timer stands
pub record IsWanted (timers : NameValue → Timers) (history : List DrawopValue) (page : PageId) (marks : List MarkValue) (n : NameValue) : Type 0 where
  pub on_page : n.page ≡ page
  pub missing : IsMissing history page marks n.source n.seq
  pub unasked : is_unasked timers n ≡ true

-- The names that are wanted are the first of all these in their order, as many as bring the standing request timers to the most.
abbrev pub FirstAreWanted : Type 0
FirstAreWanted = (constants : Tuning) (events : List Event) (history : List DrawopValue) (page : PageId) (marks : List MarkValue)
    → (all : List NameValue) × Lists name_cmp (IsWanted (timers_of constants events) history page marks) all × (wanted_of constants events history page marks ≡ take (MOST_TIMERS - length (asking (names_of events) (timers_of constants events))) all)
