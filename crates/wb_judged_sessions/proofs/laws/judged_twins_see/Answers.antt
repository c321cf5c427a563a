use Rattle.wb_judged_sessions.proofs.Twins.{answers_show_twins, twins_are_remembered, twins_see, twins_stay}
use Rattle.wb_judged_sessions.proofs.laws.judged_twins_see.Goals as goal

pub returns : goal.returns
returns c = record { remembered = twins_are_remembered; shown = answers_show_twins; see = twins_see; stays = twins_stay }
