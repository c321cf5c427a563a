use Rattle.wb_keeping.proofs.LittleSaid.{little_is_said}
use Rattle.wb_keeping.proofs.PaidStates.{states_are_paid}
use Rattle.wb_keeping.proofs.laws.little_is_said.Goals as goal

pub returns-clause-said : goal.returns-clause-said
returns-clause-said c = little_is_said

pub returns-clause-paid : goal.returns-clause-paid
returns-clause-paid c = states_are_paid
