use Rattle.wb_recovery.proofs.TimerLaws.{request_stays}
use Rattle.wb_recovery.proofs.laws.request_stays.Goals as goal

pub returns : goal.returns
returns c = request_stays
