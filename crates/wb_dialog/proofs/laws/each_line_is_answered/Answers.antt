use Rattle.wb_dialog.proofs.DialogLaws.{each_is_answered}
use Rattle.wb_dialog.proofs.laws.each_line_is_answered.Goals as goal

pub returns : goal.returns
returns c = each_is_answered
