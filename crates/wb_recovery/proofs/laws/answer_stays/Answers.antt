use Rattle.wb_recovery.proofs.TimerLaws.{answer_stays_set}
use Rattle.wb_recovery.proofs.laws.answer_stays.Goals as goal

pub returns : goal.returns
returns c = answer_stays_set
