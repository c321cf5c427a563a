use Rattle.wb_recovery.proofs.TimerLaws.{answer_stands}
use Rattle.wb_recovery.proofs.laws.answer_stands.Goals as goal

pub returns : goal.returns
returns c = answer_stands
