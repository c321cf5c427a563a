use Rattle.wb_keeper.proofs.HeardNumbers.{own_only_moves, drawops_only_move}
use Rattle.wb_keeper.proofs.laws.own_datagrams_only_move.Goals as goal

pub returns : goal.returns
returns c = record { own = own_only_moves; drawops = drawops_only_move }
