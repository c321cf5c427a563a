use Rattle.wb_gaps.proofs.OneGaps.{one_gaps}
use Rattle.wb_gaps.proofs.AllReports.{one_reports}
use Rattle.wb_gaps.proofs.Rearranged.{one_report, one_pages, one_merge}
use Rattle.wb_gaps.proofs.laws.answers_are_one.Goals as goal

pub returns : goal.returns
returns c = record { gaps = one_gaps; report = one_report; pages = one_pages; reports = one_reports; merge = one_merge }
