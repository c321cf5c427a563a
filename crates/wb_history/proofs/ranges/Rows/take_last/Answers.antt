use Rattle.std.proofs.lemmas.Grind.{common_steps}
use Rattle.std.proofs.Common.{arith}
use Rattle.wb_history.proofs.RowLists.{one_less}
use Rattle.wb_history.proofs.ranges.Rows.take_last.Goals as goal

pub invariant_of-self : goal.invariant_of-self
invariant_of-self c = grind (arith, common_steps, one_less)
