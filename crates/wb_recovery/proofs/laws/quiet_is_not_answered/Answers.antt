use Rattle.wb_recovery.proofs.TimerLaws.{quiet_is_not_answered}
use Rattle.wb_recovery.proofs.laws.quiet_is_not_answered.Goals as goal

pub returns : goal.returns
returns c = quiet_is_not_answered
