use Rattle.wb_judged_sessions.proofs.Examples.{it_is_shared}
use Rattle.wb_judged_sessions.proofs.laws.two_judged_members_share.Goals as goal

pub returns : goal.returns
returns c = it_is_shared
