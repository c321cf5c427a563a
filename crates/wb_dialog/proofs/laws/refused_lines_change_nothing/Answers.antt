use Rattle.wb_dialog.proofs.DialogLaws.{refused_stays}
use Rattle.wb_dialog.proofs.laws.refused_lines_change_nothing.Goals as goal

pub returns : goal.returns
returns c = refused_stays
