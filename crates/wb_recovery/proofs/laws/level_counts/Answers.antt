use Rattle.wb_recovery.proofs.TimerLaws.{level_counts}
use Rattle.wb_recovery.proofs.laws.level_counts.Goals as goal

pub returns : goal.returns
returns c = level_counts
