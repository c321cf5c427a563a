-- The reports of all pages of a history.
use Rattle.std.specs.Prelude.{List, map, All}
use Rattle.wb_names.specs.Values.{DrawopValue}
use Rattle.wb_names.specs.Marks.{IsReport}
use Rattle.wb_gaps.specs.Pages.{ArePages}
use Rattle.wb_gaps.specs.declared.page_reports.PageReport.{PageReport}

-- the pages of the members, ascending, each once and with its report
pub record AreReports (history : List DrawopValue) (reports : List PageReport) : Type 0 where
  pub pages : ArePages history (map (λ r. r.page) reports)
  pub each : All (λ r. IsReport history r.page r.marks) reports
