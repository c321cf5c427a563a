use Rattle.wb_judging.proofs.MembersStay.{members_are_known_again, members_stay}
use Rattle.wb_judging.proofs.laws.members_stay.Goals as goal

pub returns : goal.returns
returns c = record { stays = members_stay; again = members_are_known_again }
