use Rattle.wb_judging.proofs.Followed.{the_network_refuses_nothing}
use Rattle.wb_judging.proofs.laws.the_network_refuses_nothing.Goals as goal

pub returns : goal.returns
returns c = the_network_refuses_nothing
