-- The report and the pages of a history, as functions: they are those that the relations define.
use Rattle.std.proofs.Common.{◌≡◌, ℕ, ◌<◌, ◌≤◌, true, List, [], ◌∷◌, length, get_or, ap, ◌∙◌, sym, arith, ◌⊎◌, inl, inr, ⊎_elim, eqb-true}
use Rattle.std.specs.Prelude.{Contains, All, AllPairs, Any, map, filter, IsTrue, nat_lt}
use Rattle.std.specs.Cmp.{nat_cmp_total}
use Rattle.std.specs.List.Sorted.{IsStrictlySortedBy}
use Rattle.std.specs.Ordering.{is_eq, nat_cmp}
use Rattle.std.proofs.lemmas.Bool.{ltb-true, ltb-false, eqb-false}
use Rattle.std.proofs.lemmas.List.{length-map, get_or-map}
use Rattle.std.proofs.lemmas.List.Elements.{All-weaker, filter_passes}
use Rattle.std.proofs.lemmas.List.Kept.{AllPairs-filter, AllPairs-from_increasing}
use Rattle.std.proofs.lemmas.List.Sums.{length-filter, count_by-le-length}
use Rattle.std.proofs.lemmas.Map.Keys.{IsStrictlyIncreasing-from_sorted}
use Rattle.std.proofs.lemmas.Grind.{common_steps}
use Rattle.wb_names.specs.Values.{NameValue, DrawopValue, MarkValue}
use Rattle.wb_names.specs.History.{IsHeld, highest}
use Rattle.wb_names.specs.Marks.{mark_of}
use Rattle.wb_names.specs.declared.name.PageId.{PageId}
use Rattle.wb_names.proofs.Listings.{Contains-cases, Contains-none, Contains-filter, Contains-map, Any-from_map, lists_same, one_list}
use Rattle.wb_names.proofs.MarkLists.{Positive, Rises, same_marks}
use Rattle.wb_names.proofs.Orders.{nat_ties, page_total, page_ties, same_page-is}
use Rattle.wb_gaps.specs.Answers.{sources_of, report_of, pages_of}
use Rattle.wb_gaps.specs.Laws.{ReportOfPage, OnlyReport, PagesOfHistory, OnlyPages}
use Rattle.wb_gaps.proofs.HeldNumbers.{is_on, same_page-here}
use Rattle.wb_gaps.proofs.Reports.{greatest_held}
use Rattle.wb_gaps.proofs.Sorting.{sorted_rises, length-sorted-le, Contains-sorted, lists_sorted}

abbrev page_of : DrawopValue → PageId
page_of d = d.name.page

pub pages_of_history : PagesOfHistory
unfolding pages_of
pages_of_history history =
    lists_same page_total (Contains (map page_of history)) (λ page. Any (λ (d : DrawopValue). page_of d ≡ page) history) _
    (Any-from_map page_of history)
    (Contains-map page_of history)
    (lists_sorted page_total (map page_of history) (λ p q _ _ tie. same_page-is p q (page_ties p q ∙ ap is_eq tie)))

pub only_pages : OnlyPages
only_pages history pages listed = one_list page_total _ pages (pages_of history) listed (pages_of_history history)

-- a mark for each of some sources, with its number, unless that is 0
module _ (high : ℕ → ℕ) where
  abbrev mark_at : ℕ → MarkValue
  mark_at source = record { source = source; high = high source }

  abbrev marks_at : List ℕ → List MarkValue
  marks_at sources = filter (λ m. nat_lt 0 m.high) (map mark_at sources)

  marks_at-ascend : (sources : List ℕ) → IsStrictlySortedBy nat_cmp sources → AllPairs (λ m n. m.source < n.source) (marks_at sources)
  marks_at-ascend sources rising = AllPairs-filter (λ (m n : MarkValue). m.source < n.source) (λ m. nat_lt 0 m.high) (map mark_at sources) (λ i j d ij jn.
      let within : j < length sources = omega (arith, length-map sources mark_at) in
      let a : (get_or (map mark_at sources) i d).source ≡ get_or sources i 0 = ap (λ (m : MarkValue). m.source) (get_or-map mark_at sources i 0 d (omega arith)) in
      let b : (get_or (map mark_at sources) j d).source ≡ get_or sources j 0 = ap (λ (m : MarkValue). m.source) (get_or-map mark_at sources j 0 d within) in
      let lt : get_or sources i 0 < get_or sources j 0 = AllPairs-from_increasing sources (IsStrictlyIncreasing-from_sorted sources rising) i j 0 ij within in
      omega arith)

  marks_at-positive : (sources : List ℕ) → All (λ m. 1 ≤ m.high) (marks_at sources)
  marks_at-positive sources = All-weaker (λ (m : MarkValue). nat_lt 0 m.high ≡ true) (λ (m : MarkValue). 1 ≤ m.high) (λ m t. omega (arith, ltb-true 0 m.high t)) (marks_at sources) (filter_passes (λ m. nat_lt 0 m.high) (map mark_at sources))

  marks_at-length-le : (sources : List ℕ) → length (marks_at sources) ≤ length sources
  marks_at-length-le sources = omega (arith, length-filter (λ (m : MarkValue). nat_lt 0 m.high) (map mark_at sources), count_by-le-length (λ (m : MarkValue). nat_lt 0 m.high) (map mark_at sources), length-map sources mark_at)

  -- a source that is not among them is to have the number 0
  mark_of-marks_at : (sources : List ℕ) (s : ℕ) → (high s ≡ 0) ⊎ Contains sources s → mark_of (marks_at sources) s ≡ high s
  mark_of-marks_at [] s has = ⊎_elim (λ (e : high s ≡ 0). sym e) (λ (c : Contains [] s). absurd (Contains-none s c)) has
  mark_of-marks_at (t ∷ ts) s has = grind (arith, common_steps, eqb-true, ltb-false, eqb-false, Contains-cases, mark_of-marks_at ts s)

abbrev source_of : DrawopValue → ℕ
source_of d = d.name.source

-- a source that the page holds is among its sources
pub has_source : (history : List DrawopValue) (page : PageId) (source n : ℕ) → IsHeld history page source n → Contains (sources_of history page) source
has_source history page source n held =
    let d : DrawopValue = held.1 in
    let on : IsTrue (is_on page d) = same_page-here d.name.page page (ap (λ (m : NameValue). m.page) held.4) in
    let c = Contains-filter (is_on page) history d (held.0, held.2, held.3) on in
    let is : source_of d ≡ source = ap (λ (m : NameValue). m.source) held.4 in
    Contains-sorted nat_cmp_total (map source_of (filter (is_on page) history)) (λ a b _ _ tie. eqb-true a b (nat_ties a b ∙ ap is_eq tie)) source
    (Contains-map source_of (filter (is_on page) history) source (c.0, d, c.1, c.2, is))

few_sources : (history : List DrawopValue) (page : PageId) → length (sources_of history page) ≤ length history
few_sources history page = grind (arith, common_steps, length-map, length-filter, count_by-le-length, is_on, length-sorted-le)

-- the marks of a report ascend, and each has the greatest number of its source
pub report_rises : (history : List DrawopValue) (page : PageId) → Rises (report_of history page)
unfolding report_of
report_rises history page = marks_at-ascend (λ source. highest page source history) (sources_of history page) (sorted_rises nat_cmp_total (map source_of (filter (is_on page) history)))

pub report_positive : (history : List DrawopValue) (page : PageId) → Positive (report_of history page)
unfolding report_of
report_positive history page = marks_at-positive (λ source. highest page source history) (sources_of history page)

pub report_marks : (history : List DrawopValue) (page : PageId) (source : ℕ) → mark_of (report_of history page) source ≡ highest page source history
unfolding report_of
report_marks history page source =
    mark_of-marks_at (λ s. highest page s history) (sources_of history page) source
    (⊎_elim (λ (e : highest page source history ≡ 0). inl e) (λ (h : IsHeld history page source (highest page source history)). inr (has_source history page source _ h)) (greatest_held history page source).reached)

-- so ascending marks with these numbers are the report, however many there are
pub are_report : (history : List DrawopValue) (page : PageId) (marks : List MarkValue) → Rises marks → Positive marks → ((source : ℕ) → mark_of marks source ≡ highest page source history) → marks ≡ report_of history page
are_report history page marks rises positive high =
    same_marks marks (report_of history page) rises (report_rises history page) positive (report_positive history page) (λ s. high s ∙ sym (report_marks history page s))

few_marks : (history : List DrawopValue) (page : PageId) → length (report_of history page) ≤ length history
unfolding report_of
few_marks history page = omega (arith, marks_at-length-le (λ source. highest page source history) (sources_of history page), few_sources history page)

pub report_of_page : ReportOfPage
report_of_page history page few = (
  record { ascending = report_rises history page; positive = report_positive history page; few = omega (arith, few_marks history page) },
  report_marks history page,
)

pub only_report : OnlyReport
only_report history page marks few report = are_report history page marks report.0.ascending report.0.positive report.1
