use Rattle.wb_keeper.proofs.FirstWanted.{first_are_wanted}
use Rattle.wb_keeper.proofs.laws.first_are_wanted.Goals as goal

pub returns : goal.returns
returns c = first_are_wanted
