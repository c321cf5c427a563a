use Rattle.wb_kept_progress.proofs.Turning.{missing_can_come, missing_is_asked, missing_is_asked_in_turn, missing_is_asked_soon}
use Rattle.wb_kept_progress.proofs.laws.what_is_missing_can_come.Goals as goal

pub returns : goal.returns
returns c = record { asked = missing_is_asked; turn = missing_is_asked_in_turn; soon = missing_is_asked_soon; comes = missing_can_come }
