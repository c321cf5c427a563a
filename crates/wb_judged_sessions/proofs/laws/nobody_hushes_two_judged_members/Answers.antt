use Rattle.wb_judged_sessions.proofs.Hushing.{it_repairs, it_requests}
use Rattle.wb_judged_sessions.proofs.laws.nobody_hushes_two_judged_members.Goals as goal

pub returns : goal.returns
returns c = record { repair = it_repairs; request = it_requests }
