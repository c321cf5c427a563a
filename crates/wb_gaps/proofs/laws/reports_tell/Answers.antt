use Rattle.wb_gaps.proofs.NoGaps.{holds_up_to_report, hold_the_same}
use Rattle.wb_gaps.proofs.laws.reports_tell.Goals as goal

pub returns : goal.returns
returns c = record { one = holds_up_to_report; two = hold_the_same }
