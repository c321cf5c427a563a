-- The reports of all pages of a history: there is one list of them, and a function gives it.
use Rattle.std.proofs.Common.{◌≡◌, ℕ, ◌+◌, ◌<◌, ◌≤◌, List, [], ◌∷◌, get_or, length, take, refl, ap, sym, subst, arith}
use Rattle.std.specs.Prelude.{All, map, ◌++◌}
use Rattle.std.proofs.lemmas.List.{map-append, take_more}
use Rattle.std.proofs.lemmas.List.Elements.{All-cons, All-head, All-push, All-tail}
use Rattle.std.proofs.lemmas.Grind.{common_steps}
use Rattle.wb_names.specs.Values.{DrawopValue, MarkValue}
use Rattle.wb_names.specs.Marks.{IsReport}
use Rattle.wb_names.specs.declared.name.PageId.{PageId}
use Rattle.wb_gaps.specs.Answers.{report_of, reports_of, pages_of}
use Rattle.wb_gaps.specs.Laws.{OneReports, ReportsOfPages, OnlyReports}
use Rattle.wb_gaps.specs.Pages.{ArePages}
use Rattle.wb_gaps.specs.declared.page_reports.PageReport.{PageReport}
use Rattle.wb_gaps.proofs.PageAnswers.{report_of_page, pages_of_history}
use Rattle.wb_gaps.proofs.Rearranged.{one_report, one_pages}
use Rattle.wb_names.specs.declared.entries.TheConstants.{MAX_ENTRIES}

-- ---- there is one list of reports

report_parts : (p q : PageId) (m n : List MarkValue) → p ≡ q → m ≡ n → let r : PageReport = record { page = p; marks = m } in let s : PageReport = record { page = q; marks = n } in r ≡ s
report_parts p q m n e f = cc

abbrev pub AreOf : List DrawopValue → List PageReport → Type 0
AreOf history reports = All (λ r. IsReport history r.page r.marks) reports

-- a walk over the pages adds the report of the next one
pub pages_more : (reports after : List PageReport) (pages : List PageId) (i : ℕ) (d : PageId) (marks : List MarkValue) → i < length pages → after ≡ reports ++ (record { page = get_or pages i d; marks = marks }) ∷ []
    → map (λ (r : PageReport). r.page) reports ≡ take i pages → map (λ (r : PageReport). r.page) after ≡ take (i + 1) pages
pages_more reports after pages i d marks lt more so = grind (arith, common_steps, map-append, take_more)

pub each_more : (history : List DrawopValue) (reports after : List PageReport) (page : PageId) (marks : List MarkValue) → after ≡ reports ++ (record { page = page; marks = marks }) ∷ [] → AreOf history reports → IsReport history page marks → AreOf history after
each_more history reports after page marks more each report =
    subst (AreOf history) (sym more) (All-push (λ (r : PageReport). IsReport history r.page r.marks) reports (record { page = page; marks = marks }) each report)

-- reports of the same pages are the same
same_reports : (history : List DrawopValue) (reports others : List PageReport) → map (λ (r : PageReport). r.page) reports ≡ map (λ (r : PageReport). r.page) others → AreOf history reports → AreOf history others → reports ≡ others
same_reports history [] [] pages each all = refl
same_reports history [] (s ∷ others) pages each all = cc
same_reports history (r ∷ reports) [] pages each all = cc
same_reports history (r ∷ reports) (s ∷ others) pages each all =
    let page : r.page ≡ s.page = cc in
    let marks : r.marks ≡ s.marks = one_report history s.page r.marks s.marks (subst (λ (p : PageId). IsReport history p r.marks) page (All-head (λ (r : PageReport). IsReport history r.page r.marks) r reports each)) (All-head (λ (r : PageReport). IsReport history r.page r.marks) s others all) in
    let rest : reports ≡ others = same_reports history reports others (cc) (All-tail (λ (r : PageReport). IsReport history r.page r.marks) r reports each) (All-tail (λ (r : PageReport). IsReport history r.page r.marks) s others all) in
    cons_parts r s reports others (report_parts r.page s.page r.marks s.marks page marks) rest where
      cons_parts : (r s : PageReport) (reports others : List PageReport) → r ≡ s → reports ≡ others → (r ∷ reports) ≡ (s ∷ others)
      cons_parts r s reports others e f = cc

pub one_reports : OneReports
one_reports history reports others a b = same_reports history reports others (one_pages history _ _ a.pages b.pages) a.each b.each

-- ---- the same as a function

module _ (history : List DrawopValue) where
  abbrev reported : PageId → PageReport
  reported page = record { page = page; marks = report_of history page }

  pages_back : (pages : List PageId) → map (λ (r : PageReport). r.page) (map reported pages) ≡ pages
  pages_back [] = refl
  pages_back (page ∷ pages) = ap (λ (ps : List PageId). page ∷ ps) (pages_back pages)

  each_report : length history ≤ MAX_ENTRIES → (pages : List PageId) → All (λ r. IsReport history r.page r.marks) (map reported pages)
  each_report few [] = λ k d lt. absurd (omega arith)
  each_report few (page ∷ pages) = All-cons (λ (r : PageReport). IsReport history r.page r.marks) (reported page) (map reported pages) (report_of_page history page few) (each_report few pages)

pub reports_of_pages : ReportsOfPages
reports_of_pages history few = record {
  pages = subst (ArePages history) (sym (pages_back history (pages_of history))) (pages_of_history history);
  each = each_report history few (pages_of history);
}

pub only_reports : OnlyReports
only_reports history reports few are = one_reports history reports (reports_of history) are (reports_of_pages history few)
