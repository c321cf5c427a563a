use Rattle.wb_keeping.proofs.LittleSaid.{few_names_are_asked}
use Rattle.wb_keeping.proofs.laws.few_names_are_asked.Goals as goal

pub returns : goal.returns
returns c = few_names_are_asked
