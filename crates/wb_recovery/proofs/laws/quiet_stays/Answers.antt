use Rattle.wb_recovery.proofs.TimerLaws.{quiet_stays_left}
use Rattle.wb_recovery.proofs.laws.quiet_stays.Goals as goal

pub returns : goal.returns
returns c = quiet_stays_left
