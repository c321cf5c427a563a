use Rattle.wb_judged_sessions.proofs.Acquainted.{is_answered, twins_have_met}
use Rattle.wb_judged_sessions.proofs.laws.two_judged_members_answer.Goals as goal

pub returns : goal.returns
returns c = record { members = is_answered; twins = twins_have_met }
