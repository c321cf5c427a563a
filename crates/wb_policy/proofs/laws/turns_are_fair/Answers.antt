use Rattle.wb_policy.proofs.FairTurns.{each_hole_has_its_turn, each_number_has_its_turn, each_number_has_its_turn_soon}
use Rattle.wb_policy.proofs.laws.turns_are_fair.Goals as goal

pub returns : goal.returns
returns c = record { holes = each_hole_has_its_turn; numbers = each_number_has_its_turn; soon = each_number_has_its_turn_soon }
