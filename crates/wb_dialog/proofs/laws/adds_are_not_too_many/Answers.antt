use Rattle.wb_dialog.proofs.NeverTooMany.{add_is_not_too_many}
use Rattle.wb_dialog.proofs.laws.adds_are_not_too_many.Goals as goal

pub returns : goal.returns
returns c = add_is_not_too_many
