use Rattle.wb_judging.proofs.Unbroken.{strangers_leave_none}
use Rattle.wb_judging.proofs.laws.strangers_leave_no_holes.Goals as goal

pub returns : goal.returns
returns c = strangers_leave_none
