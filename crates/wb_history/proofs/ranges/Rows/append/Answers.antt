use Rattle.std.proofs.lemmas.Grind.{common_steps}
use Rattle.std.proofs.Common.{arith, length-append}
use Rattle.std.proofs.lemmas.List.Elements.{All-append}
use Rattle.wb_history.proofs.RowLists.{rows-append}
use Rattle.wb_history.proofs.ranges.Rows.append.Goals as goal

pub invariant_of-self : goal.invariant_of-self
invariant_of-self c = grind (arith, common_steps, rows-append, length-append, All-append)

pub returns : goal.returns
returns c = grind (arith, common_steps, rows-append)
