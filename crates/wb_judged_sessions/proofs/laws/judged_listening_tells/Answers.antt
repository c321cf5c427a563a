use Rattle.wb_judged_sessions.proofs.Listening.{listening_tells}
use Rattle.wb_judged_sessions.proofs.laws.judged_listening_tells.Goals as goal

pub returns : goal.returns
returns c = listening_tells
