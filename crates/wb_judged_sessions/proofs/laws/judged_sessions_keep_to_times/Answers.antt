use Rattle.wb_judged_sessions.proofs.InTime.{judged_always_short, judged_is_timely}
use Rattle.wb_judged_sessions.proofs.laws.judged_sessions_keep_to_times.Goals as goal

pub returns : goal.returns
returns c = record { timely = judged_is_timely; short = judged_always_short }
