use Rattle.wb_keeper.proofs.FreeArrivals.{order_of_arrival_is_free}
use Rattle.wb_keeper.proofs.laws.order_of_arrival_is_free.Goals as goal

pub returns : goal.returns
returns c = order_of_arrival_is_free
