-- Laws of gaps, reports, page lists and merges.
use Rattle.std.specs.Prelude.{◌≡◌, ℕ, List, [], IsPermutation, length, max, ◌≤◌, ◌⊎◌, ◌↔◌}
use Rattle.wb_names.specs.Values.{DrawopValue, MarkValue}
use Rattle.wb_names.specs.History.{IsHeld}
use Rattle.wb_names.specs.Marks.{mark_of, known, IsReport, IsMerge}
use Rattle.wb_names.specs.Ascending.{AreMarks}
use Rattle.wb_names.specs.declared.entries.TheConstants.{MAX_ENTRIES}
use Rattle.wb_names.specs.declared.gap.Gap.{Gap}
use Rattle.wb_names.specs.declared.name.PageId.{PageId}
use Rattle.wb_gaps.specs.Answers.{gaps_of, report_of, reports_of, pages_of}
use Rattle.wb_gaps.specs.Gaps.{AreGaps}
use Rattle.wb_gaps.specs.Greatest.{IsGreatest}
use Rattle.wb_gaps.specs.Merging.{source_count}
use Rattle.wb_gaps.specs.Pages.{ArePages}
use Rattle.wb_gaps.specs.PageReports.{AreReports}
use Rattle.wb_gaps.specs.declared.page_reports.PageReport.{PageReport}

-- there is one list of gaps
abbrev pub OneGaps : Type 0
OneGaps = (history : List DrawopValue) (page : PageId) (marks : List MarkValue) (gaps others : List Gap) → AreGaps history page marks gaps → AreGaps history page marks others → gaps ≡ others

-- there is one report
abbrev pub OneReport : Type 0
OneReport = (history : List DrawopValue) (page : PageId) (marks others : List MarkValue) → IsReport history page marks → IsReport history page others → marks ≡ others

-- there is one list of pages
abbrev pub OnePages : Type 0
OnePages = (history : List DrawopValue) (pages others : List PageId) → ArePages history pages → ArePages history others → pages ≡ others

-- there is one list of reports
abbrev pub OneReports : Type 0
OneReports = (history : List DrawopValue) (reports others : List PageReport) → AreReports history reports → AreReports history others → reports ≡ others

-- there is one merge, whichever of the two comes first
abbrev pub OneMerge : Type 0
OneMerge = (a b marks others : List MarkValue) → IsMerge a b marks → IsMerge b a others → marks ≡ others

-- a rearranged history has the same gaps
abbrev pub GapsOfRearranged : Type 0
GapsOfRearranged = (history other : List DrawopValue) → IsPermutation history other → (page : PageId) (marks : List MarkValue) (gaps : List Gap) → AreGaps history page marks gaps → AreGaps other page marks gaps

-- and the same report
abbrev pub ReportOfRearranged : Type 0
ReportOfRearranged = (history other : List DrawopValue) → IsPermutation history other → (page : PageId) (marks : List MarkValue) → IsReport history page marks → IsReport other page marks

-- and the same pages
abbrev pub PagesOfRearranged : Type 0
PagesOfRearranged = (history other : List DrawopValue) → IsPermutation history other → (pages : List PageId) → ArePages history pages → ArePages other pages

-- the number that a report has for a source is the greatest that is held
abbrev pub ReportsGreatest : Type 0
ReportsGreatest = (history : List DrawopValue) (page : PageId) (marks : List MarkValue) → IsReport history page marks → (source : ℕ) → IsGreatest (IsHeld history page source) (mark_of marks source)

-- a number is known of exactly where one at least as great is held, or the marks have one
abbrev pub KnownIsReached : Type 0
KnownIsReached = (history : List DrawopValue) (page : PageId) (marks : List MarkValue) (source n : ℕ) → 1 ≤ n → (n ≤ known history page marks source) ↔ (((m : ℕ) × (n ≤ m) × IsHeld history page source m) ⊎ (n ≤ mark_of marks source))

-- the number that a merge has for a source is the greater of the two
abbrev pub MergesGreater : Type 0
MergesGreater = (a b marks : List MarkValue) → IsMerge a b marks → (source : ℕ) → mark_of marks source ≡ max (mark_of a source) (mark_of b source)

-- a merge has as many marks as the two have sources together; so two that have over 65,535 have no merge
abbrev pub MergesAllSources : Type 0
MergesAllSources = (a b marks : List MarkValue) → AreMarks a → AreMarks b → IsMerge a b marks → length marks ≡ source_count a b

-- a list that has no gaps below its own report holds the numbers from 1 up to the mark of each source, and no others
abbrev pub HoldsUpToReport : Type 0
HoldsUpToReport = (history : List DrawopValue) (page : PageId) (marks : List MarkValue) → IsReport history page marks → AreGaps history page marks [] → (source n : ℕ) → 1 ≤ n → IsHeld history page source n ↔ (n ≤ mark_of marks source)

-- so two lists that have one report of a page, and no gaps below it, hold the same numbers there
abbrev pub HoldTheSame : Type 0
HoldTheSame = (one other : List DrawopValue) (page : PageId) (marks : List MarkValue) → IsReport one page marks → IsReport other page marks → AreGaps one page marks [] → AreGaps other page marks [] → (source n : ℕ) → 1 ≤ n → IsHeld one page source n ↔ IsHeld other page source n

-- ---- the answers as functions

-- the function gives the missing ranges of a page, below what the page or marks know
abbrev pub GapsOfPage : Type 0
GapsOfPage = (history : List DrawopValue) (page : PageId) (marks : List MarkValue) → AreGaps history page marks (gaps_of history page marks)

-- and there are no others
abbrev pub OnlyGaps : Type 0
OnlyGaps = (history : List DrawopValue) (page : PageId) (marks : List MarkValue) (gaps : List Gap) → AreGaps history page marks gaps → gaps ≡ gaps_of history page marks

-- the function gives the report of a page; a history of at most 65,535 members has one on each
abbrev pub ReportOfPage : Type 0
ReportOfPage = (history : List DrawopValue) (page : PageId) → length history ≤ MAX_ENTRIES → IsReport history page (report_of history page)

-- and there is no other
abbrev pub OnlyReport : Type 0
OnlyReport = (history : List DrawopValue) (page : PageId) (marks : List MarkValue) → length history ≤ MAX_ENTRIES → IsReport history page marks → marks ≡ report_of history page

-- the function gives the pages of a history
abbrev pub PagesOfHistory : Type 0
PagesOfHistory = (history : List DrawopValue) → ArePages history (pages_of history)

-- and there is no other such list
abbrev pub OnlyPages : Type 0
OnlyPages = (history : List DrawopValue) (pages : List PageId) → ArePages history pages → pages ≡ pages_of history

-- the function gives the reports of all pages of a history of at most 65,535 members
abbrev pub ReportsOfPages : Type 0
ReportsOfPages = (history : List DrawopValue) → length history ≤ MAX_ENTRIES → AreReports history (reports_of history)

-- and there is no other such list
abbrev pub OnlyReports : Type 0
OnlyReports = (history : List DrawopValue) (reports : List PageReport) → length history ≤ MAX_ENTRIES → AreReports history reports → reports ≡ reports_of history
