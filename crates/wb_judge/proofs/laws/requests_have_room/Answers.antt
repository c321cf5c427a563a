use Rattle.wb_judge.proofs.Room.{requests_are_paid_for, requests_have_room}
use Rattle.wb_judge.proofs.laws.requests_have_room.Goals as goal

pub returns : goal.returns
returns c = record { room = requests_have_room; paid = requests_are_paid_for }
