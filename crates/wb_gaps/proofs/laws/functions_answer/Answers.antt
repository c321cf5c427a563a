use Rattle.wb_gaps.proofs.AllReports.{reports_of_pages, only_reports}
use Rattle.wb_gaps.proofs.MissingRanges.{gaps_of_page, only_gaps}
use Rattle.wb_gaps.proofs.PageAnswers.{report_of_page, only_report, pages_of_history, only_pages}
use Rattle.wb_gaps.proofs.laws.functions_answer.Goals as goal

pub returns : goal.returns
returns c = record {
  gaps = gaps_of_page;
  report = report_of_page;
  pages = pages_of_history;
  reports = reports_of_pages;
  only_gaps = only_gaps;
  only_report = only_report;
  only_pages = only_pages;
  only_reports = only_reports;
}
