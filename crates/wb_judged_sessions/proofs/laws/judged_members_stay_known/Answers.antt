use Rattle.wb_judged_sessions.proofs.KnownLater.{judged_stay_known, known_become_whole}
use Rattle.wb_judged_sessions.proofs.Staying.{stays_known}
use Rattle.wb_judged_sessions.proofs.laws.judged_members_stay_known.Goals as goal

pub returns : goal.returns
returns c = record { stays = stays_known; known = judged_stay_known; whole = known_become_whole }
