use Rattle.wb_judged_sessions.proofs.Answered.{they_come_to_know}
use Rattle.wb_judged_sessions.proofs.Answering.{answers_are_handed_in, answers_make_known, known_are_handed_in, known_go_on}
use Rattle.wb_judged_sessions.proofs.Echoed.{last_taken_is_echoed}
use Rattle.wb_judged_sessions.proofs.FewEchoed.{few_are_echoed}
use Rattle.wb_judged_sessions.proofs.Spaced.{reports_are_remembered}
use Rattle.wb_judged_sessions.proofs.laws.judged_members_come_to_know.Goals as goal

pub returns : goal.returns
returns c = record { lets = answers_are_handed_in; known = answers_make_known; echoed = last_taken_is_echoed; few = few_are_echoed; remembered = reports_are_remembered; two = they_come_to_know; stays = known_go_on; handed = known_are_handed_in }
