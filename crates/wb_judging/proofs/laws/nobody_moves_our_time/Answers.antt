use Rattle.wb_judging.proofs.Followed.{nobody_moves_our_time}
use Rattle.wb_judging.proofs.laws.nobody_moves_our_time.Goals as goal

pub returns : goal.returns
returns c = nobody_moves_our_time
