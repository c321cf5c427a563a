use Rattle.wb_judged_sessions.proofs.True.{held_once, held_was_drawn, marks_were_drawn, names_mean_one}
use Rattle.wb_judged_sessions.proofs.laws.judged_boards_are_true.Goals as goal

pub returns : goal.returns
returns c = record { held = held_was_drawn; names = names_mean_one; once = held_once; marks = marks_were_drawn }
