use Rattle.wb_policy.proofs.Spending.{few_are_asked}
use Rattle.wb_policy.proofs.laws.few_are_asked.Goals as goal

pub returns : goal.returns
returns c = record { few = few_are_asked }
