use Rattle.wb_kept_progress.proofs.Since.{always_short_since, restarted_become_whole, restarted_become_whole_by_rounds, restarted_become_whole_in_crowds, restarted_fill_holes, since_is_same, since_is_timely}
use Rattle.wb_kept_progress.proofs.laws.starts_begin_sessions.Goals as goal

pub returns : goal.returns
returns c = record { same = since_is_same; timely = since_is_timely; short = always_short_since; whole = restarted_become_whole; rounds = restarted_become_whole_by_rounds; crowded = restarted_become_whole_in_crowds; holes = restarted_fill_holes }
