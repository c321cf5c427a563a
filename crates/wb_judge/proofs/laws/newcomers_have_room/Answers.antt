use Rattle.wb_judge.proofs.Newcomers.{newcomers_have_room}
use Rattle.wb_judge.proofs.laws.newcomers_have_room.Goals as goal

pub returns : goal.returns
returns c = newcomers_have_room
