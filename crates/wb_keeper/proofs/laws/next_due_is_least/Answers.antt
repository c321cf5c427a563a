use Rattle.wb_keeper.proofs.NextDues.{next_due_is_least}
use Rattle.wb_keeper.proofs.laws.next_due_is_least.Goals as goal

pub returns : goal.returns
returns c = next_due_is_least
