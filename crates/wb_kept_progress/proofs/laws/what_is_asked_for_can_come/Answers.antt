use Rattle.wb_kept_progress.proofs.Repairs.{asked_can_come}
use Rattle.wb_kept_progress.proofs.laws.what_is_asked_for_can_come.Goals as goal

pub returns : goal.returns
returns c = asked_can_come
