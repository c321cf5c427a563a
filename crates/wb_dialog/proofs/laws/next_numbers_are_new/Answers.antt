use Rattle.wb_dialog.proofs.OwnNumbers.{next_is_new}
use Rattle.wb_dialog.proofs.laws.next_numbers_are_new.Goals as goal

pub returns : goal.returns
returns c = next_is_new
