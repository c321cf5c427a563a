use Rattle.wb_recovery.proofs.TimerLaws.{deaf_stays}
use Rattle.wb_recovery.proofs.laws.deaf_is_not_backed_off.Goals as goal

pub returns : goal.returns
returns c = deaf_stays
