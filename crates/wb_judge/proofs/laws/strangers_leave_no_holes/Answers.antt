use Rattle.wb_judge.proofs.Telling.{only_members_tell, strangers_leave_no_holes}
use Rattle.wb_judge.proofs.laws.strangers_leave_no_holes.Goals as goal

pub returns : goal.returns
returns c = record { holes = strangers_leave_no_holes; told = only_members_tell }
