use Rattle.wb_keeping.proofs.OwedStands.{few_are_not_refused, owed_stands}
use Rattle.wb_keeping.proofs.laws.no_more_is_owed_than_stands.Goals as goal

pub returns-clause-owed : goal.returns-clause-owed
returns-clause-owed c = owed_stands

pub returns-clause-asked : goal.returns-clause-asked
returns-clause-asked c = few_are_not_refused
