use Rattle.wb_host_sessions.proofs.Clocks.{judged_keep_time}
use Rattle.wb_host_sessions.proofs.laws.judged_members_keep_time.Goals as goal

pub returns : goal.returns
returns c = judged_keep_time
