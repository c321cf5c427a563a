use Rattle.wb_judged_sessions.proofs.Judged.{judged_is_map}
use Rattle.wb_judged_sessions.proofs.Drawn.{draws_as_kept}
use Rattle.wb_judged_sessions.proofs.Kept.{judged_is_kept}
use Rattle.wb_judged_sessions.proofs.Plain.{plain_is_the_same}
use Rattle.wb_judged_sessions.proofs.Sent.{sends_as_kept}
use Rattle.wb_judged_sessions.proofs.Terms.{judged_keep_kept_terms}
use Rattle.wb_judged_sessions.proofs.laws.judged_sessions_are_kept.Goals as goal

pub returns : goal.returns
returns c = record { map = judged_is_map; same = judged_is_kept; drawn = draws_as_kept; sent = sends_as_kept; echo = plain_is_the_same; terms = judged_keep_kept_terms }
