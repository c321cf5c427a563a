use Rattle.wb_kept_progress.proofs.TurnNames.{turns_ask}
use Rattle.wb_kept_progress.proofs.laws.turns_ask.Goals as goal

pub returns : goal.returns
returns c = turns_ask
