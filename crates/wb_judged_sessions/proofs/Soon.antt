-- All of a session has come to judged members as soon as it has to self-managing ones.
use Rattle.wb_kept_progress.proofs.LastNumbers.{last_numbers_are_told}
use Rattle.wb_kept_progress.proofs.SoonSince.{restarted_become_whole_anyway, restarted_become_whole_soon}
use Rattle.wb_judged_sessions.specs.Sessions.{kept_calls}
use Rattle.wb_judged_sessions.specs.Soon.{JudgedBecomeWholeAnyway, JudgedBecomeWholeSoon}
use Rattle.wb_judged_sessions.proofs.InTime.{judged_is_timely}
use Rattle.wb_judged_sessions.proofs.Kept.{calls_split}
use Rattle.wb_judged_sessions.proofs.Whole.{holds_there, kept_split, later_than_kept}

pub judged_become_whole_soon : JudgedBecomeWholeSoon
judged_become_whole_soon numbers terms calls newer later from wait slices pause asks windows most crowded i n s waits reports have numbered few enough lack holes_held paid some split late live =
    holds_there numbers calls newer later split i n
    (restarted_become_whole_soon last_numbers_are_told numbers terms (kept_calls numbers calls) (calls_split numbers newer later).0 (kept_calls numbers later) from wait slices pause asks windows most crowded i n
    (judged_is_timely numbers terms calls s) waits reports have numbered few enough lack holes_held paid some
    (kept_split numbers calls newer later split) (later_than_kept numbers calls newer later split _ late) live)

pub judged_become_whole_anyway : JudgedBecomeWholeAnyway
judged_become_whole_anyway numbers terms calls newer later from wait slices pause crowds most crowded i n s waits reports have numbered lack holes_held enough paid some split late live =
    holds_there numbers calls newer later split i n
    (restarted_become_whole_anyway last_numbers_are_told numbers terms (kept_calls numbers calls) (calls_split numbers newer later).0 (kept_calls numbers later) from wait slices pause crowds most crowded i n
    (judged_is_timely numbers terms calls s) waits reports have numbered lack holes_held enough paid some
    (kept_split numbers calls newer later split) (later_than_kept numbers calls newer later split _ late) live)
