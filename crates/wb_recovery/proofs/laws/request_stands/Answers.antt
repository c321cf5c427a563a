use Rattle.wb_recovery.proofs.TimerLaws.{request_stands}
use Rattle.wb_recovery.proofs.laws.request_stands.Goals as goal

pub returns : goal.returns
returns c = request_stands
