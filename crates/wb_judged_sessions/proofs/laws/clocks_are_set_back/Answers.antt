use Rattle.wb_judged_sessions.proofs.SetBack.{it_is_given_ahead, it_is_set_back, it_is_set_back_too_far}
use Rattle.wb_judged_sessions.proofs.laws.clocks_are_set_back.Goals as goal

pub returns : goal.returns
returns c = record { less = it_is_set_back; more = it_is_set_back_too_far; given = it_is_given_ahead }
