use Rattle.wb_judged_sessions.proofs.Days.{held_is_near, ours_are_in_order, ours_lie_above}
use Rattle.wb_judged_sessions.proofs.laws.ours_lie_above.Goals as goal

pub returns : goal.returns
returns c = record { above = ours_lie_above; order = ours_are_in_order; near = held_is_near }
