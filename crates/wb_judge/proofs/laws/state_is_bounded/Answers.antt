use Rattle.wb_judge.proofs.Bounds.{state_is_bounded}
use Rattle.wb_judge.proofs.laws.state_is_bounded.Goals as goal

pub returns : goal.returns
returns c = state_is_bounded
