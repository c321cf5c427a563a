use Rattle.wb_judge.proofs.MembersStay.{known_again, known_beside}
use Rattle.wb_judge.proofs.NumbersBeside.{numbers_beside}
use Rattle.wb_judge.proofs.laws.members_stay.Goals as goal

pub returns : goal.returns
returns c = record { again = known_again; beside = known_beside; numbers = numbers_beside }
