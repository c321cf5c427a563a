-- The reports, the pages and the missing ranges of a list of drawops, as functions of it.
use Rattle.std.specs.Prelude.{ℕ, zero, suc, ◌+◌, List, [], ◌∷◌, ◌++◌, map, filter, Bool, ◌&&◌, nat_eq, nat_lt, if◌then◌else◌}
use Rattle.std.specs.List.{list_any}
use Rattle.std.specs.Ordering.{nat_cmp}
use Rattle.wb_names.specs.Values.{DrawopValue, MarkValue}
use Rattle.wb_names.specs.Orders.{same_name, same_page, page_cmp}
use Rattle.wb_names.specs.History.{highest, name_of}
use Rattle.wb_names.specs.Marks.{known}
use Rattle.wb_names.specs.declared.gap.Gap.{Gap}
use Rattle.wb_names.specs.declared.name.PageId.{PageId}
use Rattle.wb_gaps.specs.Sorting.{sorted}
use Rattle.wb_gaps.specs.declared.page_reports.PageReport.{PageReport}

-- the sources with a member on the page, ascending, each once
abbrev pub sources_of : List DrawopValue → PageId → List ℕ
sources_of history page = sorted nat_cmp (map (λ d. d.name.source) (filter (λ d. same_page d.name.page page) history))

-- the mark of a source, with its greatest number on the page
abbrev pub top_mark : List DrawopValue → PageId → ℕ → MarkValue
top_mark history page source = record { source = source; high = highest page source history }

-- the marks of a page, one for each source; no mark has the number 0
unfoldable pub report_of : List DrawopValue → PageId → List MarkValue
report_of history page = filter (λ m. nat_lt 0 m.high) (map (top_mark history page) (sources_of history page))

-- the pages of the members, ascending, each once
unfoldable pub pages_of : List DrawopValue → List PageId
pages_of history = sorted page_cmp (map (λ d. d.name.page) history)

-- each page with its report
abbrev pub reports_of : List DrawopValue → List PageReport
reports_of history = map (λ page. record { page = page; marks = report_of history page }) (pages_of history)

-- A missing number of a source comes before the ranges that follow it: a range of the source that begins right after it begins there now.
abbrev pub onto_gaps : ℕ → ℕ → List Gap → List Gap
onto_gaps source n [] = record { source = source; first = n; last = n } ∷ []
onto_gaps source n (g ∷ gaps) =
    if nat_eq g.source source && nat_eq g.first (n + 1)
    then record { source = source; first = n; last = g.last } ∷ gaps
    else record { source = source; first = n; last = n } ∷ g ∷ gaps

-- the missing ones of some numbers of a source, from n on, before the ranges that follow
abbrev pub missing_before : (ℕ → Bool) → ℕ → ℕ → ℕ → List Gap → List Gap
missing_before held source n zero later = later
missing_before held source n (suc count) later =
    if held n then missing_before held source (n + 1) count later else onto_gaps source n (missing_before held source (n + 1) count later)

-- of each of some sources, the missing ones of the numbers from 1 to the greatest that is known of it
abbrev pub missing_of : (ℕ → ℕ → Bool) → (ℕ → ℕ) → List ℕ → List Gap
missing_of held top [] = []
missing_of held top (source ∷ sources) = missing_before (held source) source 1 (top source) (missing_of held top sources)

-- the sources that a page or marks know, ascending, each once
abbrev pub known_sources : List DrawopValue → PageId → List MarkValue → List ℕ
known_sources history page marks = sorted nat_cmp (sources_of history page ++ map (λ m. m.source) marks)

-- a member is this source's drawop of this number on the page
abbrev pub is_held : List DrawopValue → PageId → ℕ → ℕ → Bool
is_held history page source n = list_any (λ d. same_name d.name (name_of page source n)) history

-- the missing ranges of a page, below what the page or marks know
unfoldable pub gaps_of : List DrawopValue → PageId → List MarkValue → List Gap
gaps_of history page marks = missing_of (is_held history page) (known history page marks) (known_sources history page marks)
