use Rattle.wb_recovery.proofs.TimerLaws.{unnamed}
use Rattle.wb_recovery.proofs.laws.unnamed_has_none.Goals as goal

pub returns : goal.returns
returns c = unnamed
