use Rattle.wb_keeper.proofs.KnownThings.{known_pages_are_known}
use Rattle.wb_keeper.proofs.laws.known_pages_are_known.Goals as goal

pub returns : goal.returns
returns c = known_pages_are_known
