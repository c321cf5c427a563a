use Rattle.wb_policy.proofs.NearNumbers.{near_is_among, numbers_are_near}
use Rattle.wb_policy.proofs.laws.neighbours_are_near.Goals as goal

pub returns : goal.returns
returns c = record { near = numbers_are_near; among = near_is_among }
