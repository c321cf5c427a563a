use Rattle.wb_judging.proofs.AsKept.{judged_members_are_kept, sends_as_kept, the_same_or_a_tick}
use Rattle.wb_judging.proofs.laws.judged_members_are_kept.Goals as goal

pub returns : goal.returns
returns c = record { kept = judged_members_are_kept; lines = the_same_or_a_tick; sends = sends_as_kept }
