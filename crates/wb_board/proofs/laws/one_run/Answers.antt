use Rattle.wb_board.proofs.InOrder.{one_run}
use Rattle.wb_board.proofs.laws.one_run.Goals as goal

pub returns : goal.returns
returns c = one_run
