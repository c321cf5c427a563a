use Rattle.wb_keeping.proofs.KeptHosts.{drawing_is_not_locked}
use Rattle.wb_keeping.proofs.Unlocked.{a_number_is_left}
use Rattle.wb_keeping.proofs.laws.drawing_is_never_locked.Goals as goal

pub returns-clause-numbers : goal.returns-clause-numbers
returns-clause-numbers c = a_number_is_left

pub returns-clause-taken : goal.returns-clause-taken
returns-clause-taken c = drawing_is_not_locked
