-- What a driver asks of a judged member.
use Rattle.std.specs.Prelude.{◌≡◌, ℕ, ◌+◌, List, [], ◌∷◌, IsPermutation, filter, length, map, take, if◌then◌else◌}
use Rattle.std.specs.List.Sorted.{IsSortedBy}
use Rattle.wb_names.specs.Orders.{same_page}
use Rattle.wb_names.specs.Values.{DrawopValue, NameValue}
use Rattle.wb_names.specs.declared.name.PageId.{PageId}
use Rattle.wb_gaps.specs.Answers.{pages_of}
use Rattle.wb_judge.specs.Others.{heard_lately}
use Rattle.wb_judge.specs.Pages.{is_listed_before, rank_of}
use Rattle.wb_judge.specs.declared.others.Other.{Other}
use Rattle.wb_judge.specs.declared.pages.Listed.{Listed}
use Rattle.wb_judge.specs.declared.strange.Given.{Given}
use Rattle.wb_member.specs.Opened.{present}
use Rattle.wb_judging.specs.Judged.{Judged}

-- the numbers that were heard lately
abbrev pub members_of : Judged → List Other
members_of h = heard_lately (present h.kept.host) h.judge.others

-- the names of the drawops of a page
abbrev pub names_on : PageId → List DrawopValue → List NameValue
names_on page held = map (λ d. d.name) (filter (λ d. same_page d.name.page page) held)

-- at which place among these, counted from `place`, the last drawop of a page stands, or `last` if there is none
abbrev pub last_from : PageId → ℕ → ℕ → List DrawopValue → ℕ
last_from page place last [] = last
last_from page place last (d ∷ held) = last_from page (place + 1) (if same_page d.name.page page then place else last) held

abbrev pub last_on : PageId → List DrawopValue → ℕ
last_on page held = last_from page 0 0 held

-- what is listed of a page, by our number, by what is strange and by what is held
abbrev pub listed : ℕ → List Given → List DrawopValue → PageId → Listed
listed me given held page = record {
  page = page;
  rank = rank_of me given (names_on page held);
  last = last_on page held;
  count = length (names_on page held);
}

abbrev pub all_listed : Judged → List Listed
all_listed h = map (listed h.judge.me h.judge.strange.given h.kept.host.is.held) (pages_of h.kept.host.is.held)

-- The first so many of all pages that are drawn on, in the order in which pages are listed. No two of them are drawn on at one place, so there is
-- one such order.
abbrev pub AreListed : ℕ → Judged → List Listed → Type 0
AreListed most h pages = (all : List Listed) × IsPermutation (all_listed h) all × IsSortedBy is_listed_before all × (pages ≡ take most all)
