use Rattle.wb_keeping.proofs.SeldomRequested.{names_are_seldom_requested}
use Rattle.wb_keeping.proofs.laws.names_are_seldom_requested.Goals as goal

pub returns : goal.returns
returns c = names_are_seldom_requested
