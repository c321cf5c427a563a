-- By when sessions become whole in which programs start, and start anew, by how often members ask for names, or by how much they lack.
use Rattle.std.specs.Prelude.{◌≡◌, ℕ, ◌+◌, ◌*◌, ◌<◌, ◌≤◌, true, List, ◌++◌, Contains}
use Rattle.wb_names.specs.Values.{NameValue}
use Rattle.wb_progress.specs.Turns.{Terms}
use Rattle.wb_member.specs.Judged.{holds}
use Rattle.wb_recovery.specs.declared.limits.TheConstants.{MOST_TIMERS}
use Rattle.wb_policy.specs.declared.limits.TheConstants.{COST, PLACES}
use Rattle.wb_laws_kept.specs.Sessions.{At, kept_at}
use Rattle.wb_kept_progress.specs.Crowded.{spent_in}
use Rattle.wb_kept_progress.specs.Filling.{filled_by}
use Rattle.wb_kept_progress.specs.Rounds.{OneLacksAtMost}
use Rattle.wb_kept_progress.specs.Since.{IsTimelyWithStarts, hosts_of, since}
use Rattle.wb_kept_progress.specs.Telling.{HaveSlices}
use Rattle.wb_kept_progress.specs.Topped.{AreNumbered, AskAtMost, gained_by, topped_by, windows_from}
use Rattle.wb_kept_progress.specs.Whole.{HolesAreHeld, IsHeldBySome, ReportWithin, WaitAtMost, request_span, turn_span}
use Rattle.wb_laws_kept.specs.Calls.{Call}
use Rattle.wb_kept_progress.specs.Timed.{time_of}

-- What came since the last start of each member becomes whole by how often they ask.
abbrev pub RestartedBecomeWholeSoon : Type 0
RestartedBecomeWholeSoon = (numbers : ℕ → ℕ) (terms : Terms) (calls newer later : List (At Call)) (from wait slices pause asks windows most crowded i : ℕ) (n : NameValue) → IsTimelyWithStarts numbers terms calls
    → let hosts = hosts_of numbers calls in
    let trace = since numbers calls in
    WaitAtMost hosts terms trace wait → ReportWithin hosts terms trace from pause → HaveSlices hosts terms trace slices → AreNumbered hosts terms trace
    → AskAtMost hosts terms trace (windows_from terms from wait) asks → asks < MOST_TIMERS * windows
    → OneLacksAtMost hosts terms trace most → HolesAreHeld hosts terms trace → spent_in terms most (most + crowded) ≤ crowded * (MOST_TIMERS * COST)
    → IsHeldBySome hosts terms trace n → calls ≡ newer ++ later → filled_by terms (topped_by terms from wait slices pause windows) wait (most + crowded) < time_of later → Contains terms.live i → holds (kept_at numbers later i).host n ≡ true

-- And by how much they lack, however often they ask.
abbrev pub RestartedBecomeWholeAnyway : Type 0
RestartedBecomeWholeAnyway = (numbers : ℕ → ℕ) (terms : Terms) (calls newer later : List (At Call)) (from wait slices pause crowds most crowded i : ℕ) (n : NameValue) → IsTimelyWithStarts numbers terms calls
    → let hosts = hosts_of numbers calls in
    let trace = since numbers calls in
    WaitAtMost hosts terms trace wait → ReportWithin hosts terms trace from pause → HaveSlices hosts terms trace slices → AreNumbered hosts terms trace
    → OneLacksAtMost hosts terms trace most → HolesAreHeld hosts terms trace → PLACES * COST + turn_span terms + crowds * (2 * request_span terms) < crowds * (MOST_TIMERS * COST)
    → spent_in terms most (most + crowded) ≤ crowded * (MOST_TIMERS * COST)
    → IsHeldBySome hosts terms trace n → calls ≡ newer ++ later → filled_by terms (gained_by terms from wait slices pause crowds most) wait (most + crowded) < time_of later → Contains terms.live i → holds (kept_at numbers later i).host n ≡ true
