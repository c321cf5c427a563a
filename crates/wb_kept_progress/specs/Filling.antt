-- By when a session becomes whole whose live hosts know the last number of each source, so that they lack nothing but numbers below one that they hold. Of
-- what they do nothing is asked: what was asked for and came leads on to a missing number, so each of them asks for one until it lacks nothing.
use Rattle.std.specs.Prelude.{◌≡◌, ℕ, ◌+◌, ◌*◌, ◌<◌, ◌≤◌, false, List, [], ◌++◌, Contains, max}
use Rattle.wb_names.specs.Values.{NameValue}
use Rattle.wb_names.specs.declared.name.PageId.{PageId}
use Rattle.wb_gaps.specs.Answers.{report_of}
use Rattle.wb_gaps.specs.Gaps.{IsMissing}
use Rattle.wb_progress.specs.InTime.{known_from, repairing}
use Rattle.wb_progress.specs.Turns.{Terms, settled_by}
use Rattle.wb_recovery.specs.declared.limits.TheConstants.{MOST_TIMERS}
use Rattle.wb_policy.specs.declared.limits.TheConstants.{COST}
use Rattle.wb_member.specs.Judged.{holds}
use Rattle.wb_kept_progress.specs.Crowded.{crowded_by, spent_in}
use Rattle.wb_kept_progress.specs.Rounds.{OneLacksAtMost}
use Rattle.wb_kept_progress.specs.Sessions.{Opening}
use Rattle.wb_kept_progress.specs.Timed.{AllKeptHoldBehind, At, time_of}
use Rattle.wb_kept_progress.specs.Whole.{HolesAreHeld, IsHeldBySome, IsTimelySession, WaitAtMost, there, turn_span}
use Rattle.wb_keeping.specs.Laws.{KeptLine}

-- From a time on, what a live host lacks and another holds is missing at it: it holds a greater number of that source on that page.
abbrev pub OnlyHolesAreLacked : (ℕ → Opening) → Terms → List (At KeptLine) → ℕ → Type 0
OnlyHolesAreLacked hosts terms trace since = (newer older : List (At KeptLine)) (i : ℕ) (n : NameValue) → trace ≡ newer ++ older → Contains terms.live i → since ≤ time_of older
    → IsHeldBySome hosts terms trace n → holds (there hosts older i).host n ≡ false → IsMissing (there hosts older i).host.is.held n.page [] n.source n.seq

-- After some calls any two live hosts report the same of each page.
abbrev pub ReportTheSame : (ℕ → Opening) → Terms → List (At KeptLine) → Type 0
ReportTheSame hosts terms calls = (i j : ℕ) (page : PageId) → Contains terms.live i → Contains terms.live j → report_of (there hosts calls i).host.is.held page ≡ report_of (there hosts calls j).host.is.held page

-- If they do so once, they lack only holes from the next microsecond on: a report has the last number of each source on its page.
abbrev pub SameReportsLeaveHoles : Type 0
SameReportsLeaveHoles = (hosts : ℕ → Opening) (terms : Terms) (trace newer calls : List (At KeptLine)) → IsTimelySession hosts terms trace → trace ≡ newer ++ calls → settled_by terms < time_of calls
    → ReportTheSame hosts terms calls → ((n : NameValue) → IsHeldBySome hosts terms trace n → 1 ≤ n.seq) → OnlyHolesAreLacked hosts terms trace (time_of calls + 1)

-- In three turns of the clock each of them asks for a missing number. From then on a round brings one name to it at least, or a crowd of 64 is asked for.
abbrev pub filled_by : Terms → (since wait rounds : ℕ) → ℕ
filled_by terms since wait rounds = crowded_by terms (max (known_from terms + wait + repairing terms) since + 3 * turn_span terms) wait rounds

-- So if `most` rounds bring all that one of them lacks, and `crowded` crowds cost what it may spend, each holds what one of them held after these rounds.
abbrev pub HolesAreFilled : Type 0
HolesAreFilled = (hosts : ℕ → Opening) (terms : Terms) (trace : List (At KeptLine)) (since wait most crowded : ℕ) (n : NameValue)
    → IsTimelySession hosts terms trace → WaitAtMost hosts terms trace wait → OneLacksAtMost hosts terms trace most → HolesAreHeld hosts terms trace → OnlyHolesAreLacked hosts terms trace since
    → spent_in terms most (most + crowded) ≤ crowded * (MOST_TIMERS * COST)
    → IsHeldBySome hosts terms trace n → AllKeptHoldBehind hosts terms trace (filled_by terms since wait (most + crowded)) n
