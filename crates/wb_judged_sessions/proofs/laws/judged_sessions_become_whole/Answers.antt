use Rattle.wb_judged_sessions.proofs.Soon.{judged_become_whole_anyway, judged_become_whole_soon}
use Rattle.wb_judged_sessions.proofs.Whole.{judged_agree, judged_become_whole, judged_become_whole_by_rounds, judged_become_whole_in_crowds, judged_fill_holes}
use Rattle.wb_judged_sessions.proofs.laws.judged_sessions_become_whole.Goals as goal

pub returns : goal.returns
returns c = record { whole = judged_become_whole; rounds = judged_become_whole_by_rounds; crowded = judged_become_whole_in_crowds; holes = judged_fill_holes; soon = judged_become_whole_soon; anyway = judged_become_whole_anyway; agree = judged_agree }
