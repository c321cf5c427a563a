use Rattle.wb_judge.proofs.Twins.{replay_is_no_twin}
use Rattle.wb_judge.proofs.laws.a_replay_is_no_twin.Goals as goal

pub returns : goal.returns
returns c = replay_is_no_twin
