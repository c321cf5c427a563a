use Rattle.wb_laws_sessions.proofs.Holding.{answers_are_of_held, none_held_is_asked_for}
use Rattle.wb_laws_sessions.proofs.laws.timers_tell_holdings.Goals as goal

pub returns : goal.returns
returns c = record { requests = none_held_is_asked_for; answers = answers_are_of_held }
