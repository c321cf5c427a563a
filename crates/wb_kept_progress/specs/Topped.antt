-- By when each live host holds the last number of each source, whatever else comes to it, and whatever it gives up: then it lacks nothing but numbers below one
-- that it holds. Until it does, it hears of such a number in each window of time, and gets it or asks for 64 names in that window.
use Rattle.std.specs.Prelude.{ℕ, ◌+◌, ◌*◌, ◌<◌, ◌≤◌, ◌&&◌, List, [], ◌∷◌, Contains, if◌then◌else◌, max, nat_eq, nat_lt}
use Rattle.wb_names.specs.Values.{NameValue}
use Rattle.wb_progress.specs.InTime.{known_from, repairing}
use Rattle.wb_progress.specs.Turns.{Terms}
use Rattle.wb_names.specs.declared.name.TheConstants.{FIRST_FORGED}
use Rattle.wb_recovery.specs.declared.limits.TheConstants.{MOST_TIMERS}
use Rattle.wb_policy.specs.declared.limits.TheConstants.{COST, PLACES}
use Rattle.wb_keeping.specs.Bounds.{ask_count}
use Rattle.wb_keeping.specs.Laws.{KeptLine, doing_of}
use Rattle.wb_keeping.specs.Performing.{sees}
use Rattle.wb_kept_progress.specs.Crowded.{round_span, spent_in}
use Rattle.wb_kept_progress.specs.Filling.{OnlyHolesAreLacked, filled_by}
use Rattle.wb_kept_progress.specs.Rounds.{OneLacksAtMost, coming}
use Rattle.wb_kept_progress.specs.Sessions.{Opening}
use Rattle.wb_kept_progress.specs.Telling.{HaveSlices}
use Rattle.wb_kept_progress.specs.Timed.{AllKeptHoldBehind, At}
use Rattle.wb_kept_progress.specs.Whole.{HolesAreHeld, IsHeldBySome, IsTimelySession, ReportWithin, WaitAtMost, request_span, there, turn_span}

-- ---- what is asked for

-- how often a call asks for a name, after the older ones
abbrev pub asks_then : (ℕ → Opening) → List (At KeptLine) → At KeptLine → ℕ
asks_then hosts older e = let k = there hosts older e.place in ask_count (doing_of e.event (sees k.host) k.policy).lines

-- how often the host at a place asks for a name, in calls after a time
abbrev pub asks_since : (ℕ → Opening) → (since i : ℕ) → List (At KeptLine) → ℕ
asks_since hosts since i [] = 0
asks_since hosts since i (e ∷ older) = (if nat_lt since e.time && nat_eq e.place i then asks_then hosts older e else 0) + asks_since hosts since i older

-- From a time on a live host asks at most `asks` times, for all names together, and also for one that it gave up.
abbrev pub AskAtMost : (ℕ → Opening) → Terms → List (At KeptLine) → (since asks : ℕ) → Type 0
AskAtMost hosts terms trace since asks = (i : ℕ) → Contains terms.live i → asks_since hosts since i trace ≤ asks

-- ---- spans, in microseconds

-- Of a window: until the credit is that of the window, until a report of the last number of a source is handed in, and until the number comes.
abbrev pub window_span : Terms → (slices pause : ℕ) → ℕ
window_span terms slices pause = PLACES * COST + terms.drift + turn_span terms + 4 * slices * (pause + terms.late) + terms.delivery + round_span terms

-- from then on windows count
abbrev pub windows_from : Terms → (since wait : ℕ) → ℕ
windows_from terms since wait = max (known_from terms + wait + repairing terms) since

abbrev pub topped_by : Terms → (since wait slices pause windows : ℕ) → ℕ
topped_by terms since wait slices pause windows = windows_from terms since wait + windows * window_span terms slices pause + 1

-- Of a window in which something new comes to a host that lacks such a number, whatever hosts ask for: credit does not pay for
-- `crowds` crowds of 64 names, and what is asked for last comes.
abbrev pub gaining_span : Terms → (slices pause crowds : ℕ) → ℕ
gaining_span terms slices pause crowds = window_span terms slices pause + crowds * (2 * request_span terms) + coming terms

abbrev pub gained_by : Terms → (since wait slices pause crowds most : ℕ) → ℕ
gained_by terms since wait slices pause crowds most = windows_from terms since wait + turn_span terms + most * gaining_span terms slices pause crowds + 1

-- ---- laws

-- The numbers that live hosts hold count from 1, and are no forged ones.
abbrev pub AreNumbered : (ℕ → Opening) → Terms → List (At KeptLine) → Type 0
AreNumbered hosts terms trace = (n : NameValue) → IsHeldBySome hosts terms trace n → (1 ≤ n.seq) × (n.seq < FIRST_FORGED)

-- If 64 names in each window are more than a host asks for, each live host holds the last number of each source after these windows.
abbrev pub TopsAreHeldSoon : Type 0
TopsAreHeldSoon = (hosts : ℕ → Opening) (terms : Terms) (trace : List (At KeptLine)) (since wait slices pause asks windows : ℕ)
    → IsTimelySession hosts terms trace → WaitAtMost hosts terms trace wait → ReportWithin hosts terms trace since pause → HaveSlices hosts terms trace slices → AreNumbered hosts terms trace
    → AskAtMost hosts terms trace (windows_from terms since wait) asks → asks < MOST_TIMERS * windows
    → OnlyHolesAreLacked hosts terms trace (topped_by terms since wait slices pause windows)

-- Whatever hosts ask for, a window brings one name at least, if another holds each missing number.
abbrev pub TopsAreHeldAnyway : Type 0
TopsAreHeldAnyway = (hosts : ℕ → Opening) (terms : Terms) (trace : List (At KeptLine)) (since wait slices pause crowds most : ℕ)
    → IsTimelySession hosts terms trace → WaitAtMost hosts terms trace wait → ReportWithin hosts terms trace since pause → HaveSlices hosts terms trace slices → AreNumbered hosts terms trace
    → OneLacksAtMost hosts terms trace most → HolesAreHeld hosts terms trace → PLACES * COST + turn_span terms + crowds * (2 * request_span terms) < crowds * (MOST_TIMERS * COST)
    → OnlyHolesAreLacked hosts terms trace (gained_by terms since wait slices pause crowds most)

-- So if another holds each missing number, each live host then holds what one of them held, after rounds as they are when hosts lack nothing but holes.
abbrev pub SessionsBecomeWholeSoon : Type 0
SessionsBecomeWholeSoon = (hosts : ℕ → Opening) (terms : Terms) (trace : List (At KeptLine)) (since wait slices pause asks windows most crowded : ℕ) (n : NameValue)
    → IsTimelySession hosts terms trace → WaitAtMost hosts terms trace wait → ReportWithin hosts terms trace since pause → HaveSlices hosts terms trace slices → AreNumbered hosts terms trace
    → AskAtMost hosts terms trace (windows_from terms since wait) asks → asks < MOST_TIMERS * windows
    → OneLacksAtMost hosts terms trace most → HolesAreHeld hosts terms trace → spent_in terms most (most + crowded) ≤ crowded * (MOST_TIMERS * COST)
    → IsHeldBySome hosts terms trace n → AllKeptHoldBehind hosts terms trace (filled_by terms (topped_by terms since wait slices pause windows) wait (most + crowded)) n

abbrev pub SessionsBecomeWholeAnyway : Type 0
SessionsBecomeWholeAnyway = (hosts : ℕ → Opening) (terms : Terms) (trace : List (At KeptLine)) (since wait slices pause crowds most crowded : ℕ) (n : NameValue)
    → IsTimelySession hosts terms trace → WaitAtMost hosts terms trace wait → ReportWithin hosts terms trace since pause → HaveSlices hosts terms trace slices → AreNumbered hosts terms trace
    → OneLacksAtMost hosts terms trace most → HolesAreHeld hosts terms trace → PLACES * COST + turn_span terms + crowds * (2 * request_span terms) < crowds * (MOST_TIMERS * COST)
    → spent_in terms most (most + crowded) ≤ crowded * (MOST_TIMERS * COST)
    → IsHeldBySome hosts terms trace n → AllKeptHoldBehind hosts terms trace (filled_by terms (gained_by terms since wait slices pause crowds most) wait (most + crowded)) n
