use Rattle.wb_kept_progress.proofs.SameReports.{same_reports_leave_holes}
use Rattle.wb_kept_progress.proofs.Waking.{holes_are_filled}
use Rattle.wb_kept_progress.proofs.laws.holes_are_filled.Goals as goal

pub returns : goal.returns
returns c = record { whole = holes_are_filled; reports = same_reports_leave_holes }
