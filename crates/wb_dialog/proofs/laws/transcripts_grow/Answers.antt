use Rattle.wb_dialog.proofs.DialogLaws.{fronts_are_fronts}
use Rattle.wb_dialog.proofs.laws.transcripts_grow.Goals as goal

pub returns : goal.returns
returns c = fronts_are_fronts
