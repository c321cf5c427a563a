use Rattle.wb_dialog.proofs.DialogLaws.{accepted_alone}
use Rattle.wb_dialog.proofs.laws.accepted_lines_suffice.Goals as goal

pub returns : goal.returns
returns c = accepted_alone
