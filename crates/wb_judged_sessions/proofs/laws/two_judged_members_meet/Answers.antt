use Rattle.wb_judged_sessions.proofs.Meeting.{they_have_met}
use Rattle.wb_judged_sessions.proofs.laws.two_judged_members_meet.Goals as goal

pub returns : goal.returns
returns c = they_have_met
