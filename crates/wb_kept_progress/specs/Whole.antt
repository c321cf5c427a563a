-- By when all of a session has come to self-managing hosts, if from some time on nobody draws and nothing is lost.
use Rattle.std.specs.Prelude.{◌≡◌, ◌≢◌, ◌⊎◌, ℕ, ◌+◌, ◌*◌, ◌/◌, ◌-◌, ◌<◌, ◌≤◌, false, List, [], ◌∷◌, ◌++◌, Contains, Some, length, max}
use Rattle.wb_names.specs.Values.{DrawopValue, NameValue}
use Rattle.wb_names.specs.declared.name.PageId.{PageId}
use Rattle.wb_names.specs.declared.parts.Op.{Op}
use Rattle.wb_codec.specs.declared.datagram.Datagram.{Datagram}
use Rattle.wb_recovery.specs.declared.timers.AskTimer.{AskTimer}
use Rattle.wb_recovery.specs.declared.tuning.Tuning.{Tuning}
use Rattle.wb_gaps.specs.Gaps.{IsMissing}
use Rattle.wb_gaps.specs.Holes.{holes_of}
use Rattle.wb_gaps.specs.declared.holes.Hole.{Hole}
use Rattle.wb_progress.specs.Bounds.{IsUnder}
use Rattle.wb_progress.specs.InTime.{AreApart, known_from, repairing}
use Rattle.wb_progress.specs.Turns.{Terms, longest, settled_by}
use Rattle.wb_member.specs.Judged.{echoes, holds, is_full}
use Rattle.wb_member.specs.Opened.{present}
use Rattle.wb_member.specs.declared.calls.Call.TheVariants.{Stop}
use Rattle.wb_policy.specs.Fairness.{slices_of, slices_on}
use Rattle.wb_policy.specs.Reports.{mean_time, members_in}
use Rattle.wb_names.specs.declared.name.TheConstants.{FIRST_FORGED}
use Rattle.wb_policy.specs.declared.limits.TheConstants.{HEARD, LONGEST_GAP, LONGEST_PAUSE, MOST_DELAY, MOST_REPORT_BYTES, ROUND_LIMIT, SECOND}
use Rattle.wb_keeping.specs.Kept.{Calls}
use Rattle.wb_keeping.specs.Laws.{Added, Came, KeptLine, Tuned, doing_of}
use Rattle.wb_keeping.specs.Performing.{Keeping, due, sent_by_doing}
use Rattle.wb_judging.specs.Members.{needs}
use Rattle.wb_kept_progress.specs.Sessions.{AreTaken, DoNotGoBack, Opening, kept_at, opened_host}
use Rattle.wb_kept_progress.specs.Timed.{AllKeptHoldBehind, AreInOrder, At, DelaysAreShort, GoByShort, IsAnswerable, TellTimes, host_after, performed, start_of, time_of, timers_after, until}
use Rattle.wb_member.specs.Lines.{Line}
use Rattle.wb_progress.specs.Traces as traces

-- the host at a place, with its policy, after some calls, of which the newest is the first
abbrev pub there : (ℕ → Opening) → List (At KeptLine) → ℕ → Keeping
there hosts calls i = kept_at hosts calls i

-- what a call sends, after the older ones
abbrev pub sends_then : (ℕ → Opening) → List (At KeptLine) → At KeptLine → List Datagram
sends_then hosts older e = sent_by_doing (doing_of e.event) (there hosts older e.place)

-- one of the newer calls hands a datagram in, at a place, and by a time
abbrev pub IsHandedIn : List (At KeptLine) → ℕ → ℕ → Datagram → Type 0
IsHandedIn = traces.IsHandedIn Came

-- by a time, behind some of the newer calls, a host can do without a datagram: it holds the drawop, or lacks what is requested, or the datagram is a
-- question or a page state
pub record IsSpared (hosts : ℕ → Opening) (newer base : List (At KeptLine)) (j by : ℕ) (v : Datagram) : Type 0 where
  pub later : List (At KeptLine)
  pub between : List (At KeptLine)
  pub split : newer ≡ later ++ between
  pub soon : time_of (between ++ base) ≤ by
  pub spared : needs (there hosts (between ++ base) j).host v ≡ false

-- one of these calls sent a datagram, so shortly before a time
pub record WasSentBy (hosts : ℕ → Opening) (older : List (At KeptLine)) (time within : ℕ) (v : Datagram) : Type 0 where
  pub newer : List (At KeptLine)
  pub e : At KeptLine
  pub before : List (At KeptLine)
  pub split : older ≡ newer ++ e ∷ before
  pub soon : time ≤ e.time + within
  pub sent : Contains (sends_then hosts before e) v

-- Drivers and the network keep to the terms. From `quiet` on they alone are called, and in time, each of
-- their boards has a free cell, and nobody draws; what one sends is handed in to each other one in time, unless that one can do without it. What comes
-- once all that was on its way has arrived was sent shortly before. A live host may be handed its first line at any time up to `quiet`. Of delays this is
-- asked.
pub record IsTimelySessionBut (Delays : Type 0) (hosts : ℕ → Opening) (terms : Terms) (trace : List (At KeptLine)) : Type 0 where
  -- moments do not go back; the last before a live host becomes self-managing is one of `quiet` or before
  pub moments : (i : ℕ) → DoNotGoBack 0 (hosts i).moments
  pub begun : (i : ℕ) → Contains terms.live i → present (opened_host (hosts i)) + terms.lag i ≤ terms.quiet
  pub distinct : (i j : ℕ) → (hosts i).number ≡ (hosts j).number → i ≡ j
  pub waits : (i : ℕ) → Contains terms.live i → IsUnder (longest terms) (hosts i).constants
  pub tuned : (newer older : List (At KeptLine)) (e : At KeptLine) (constants : Tuning) → trace ≡ newer ++ e ∷ older → Contains terms.live e.place → e.event ≡ Tuned constants → IsUnder (longest terms) constants
  pub taken : AreTaken hosts trace
  pub order : AreInOrder trace
  -- each line says a moment of its time, and `late` is at least as long as clocks drift
  pub times : TellTimes terms trace
  pub covered : terms.drift ≤ terms.late
  -- from `quiet` on a call of a live host comes at most `late` after the moment at which it has something to do
  pub soon : (newer older : List (At KeptLine)) (e : At KeptLine) (i : ℕ) → trace ≡ newer ++ e ∷ older → Contains terms.live i → terms.quiet < e.time → e.time ≤ due (there hosts older i) + (terms.lag i + terms.late)
  pub delays : Delays
  pub alone : (newer older : List (At KeptLine)) (e : At KeptLine) → trace ≡ newer ++ e ∷ older → terms.quiet < e.time → Contains terms.live e.place
  pub drawn : (newer older : List (At KeptLine)) (e : At KeptLine) (now : ℕ) (page : PageId) (time : ℕ) (op : Op) → trace ≡ newer ++ e ∷ older → terms.quiet < e.time → e.event ≢ Added now page time op
  pub room : (newer older : List (At KeptLine)) (i : ℕ) → trace ≡ newer ++ older → Contains terms.live i → terms.quiet < time_of older → is_full (there hosts older i).host ≡ false
  pub delivered : (newer older : List (At KeptLine)) (e : At KeptLine) (j : ℕ) (v : Datagram) → trace ≡ newer ++ e ∷ older → Contains terms.live j → e.place ≢ j → terms.quiet < e.time → Contains (sends_then hosts older e) v → e.time + terms.delivery < time_of trace
      → IsHandedIn newer j (e.time + terms.delivery) v ⊎ IsSpared hosts newer (e ∷ older) j (e.time + terms.delivery) v
  pub fresh : (newer older : List (At KeptLine)) (e : At KeptLine) (now : ℕ) (v : Datagram) → trace ≡ newer ++ e ∷ older → settled_by terms < e.time → e.event ≡ Came now v → WasSentBy hosts older e.time terms.delivery v

-- Of delays nothing is asked if `far` is a second or more, and with a smaller one nothing of what came long before `quiet`.
abbrev pub IsTimelySession : (ℕ → Opening) → Terms → List (At KeptLine) → Type 0
IsTimelySession hosts terms trace = IsTimelySessionBut ((MOST_DELAY ≤ terms.far) ⊎ DelaysAreShort (λ j. start_of (hosts j)) terms (performed hosts trace)) hosts terms trace

-- So it is if none is above `far` from the openings on.
abbrev pub AlwaysShort : Type 0
AlwaysShort = (hosts : ℕ → Opening) (terms : Terms) (trace : List (At KeptLine)) → IsTimelySessionBut (GoByShort (λ j. start_of (hosts j)) terms (performed hosts trace)) hosts terms trace → IsTimelySession hosts terms trace

-- The most that the board of a live host has from `quiet` on: slices of marks, counted with those of the page that it reported last in turn, holes,
-- and numbers in a hole. The most names that it gives up one after the other. And from `since` on, in microseconds, the most from a call to its
-- next report, and until its turns come to a missing number that is held.
pub record Sizes : Type 0 where
  pub slices : ℕ
  pub holes : ℕ
  pub numbers : ℕ
  pub gives : ℕ
  pub turning : ℕ
  pub pause : ℕ
  pub since : ℕ

-- Rounds stay below 2^32. No number that is held is 0, or 2^31 or more.

pub record AreWithin (hosts : ℕ → Opening) (terms : Terms) (trace : List (At KeptLine)) (sizes : Sizes) : Type 0 where
  pub slices : (newer older : List (At KeptLine)) (i : ℕ) → trace ≡ newer ++ older → Contains terms.live i → terms.quiet < time_of older → let k = there hosts older i in slices_of k.host.is.held + slices_on k.host.is.held k.policy.told.page ≤ sizes.slices
  pub holes : (newer older : List (At KeptLine)) (i : ℕ) → trace ≡ newer ++ older → Contains terms.live i → terms.quiet < time_of older → length (holes_of (there hosts older i).host.is.held) ≤ sizes.holes
  pub numbers : (newer older : List (At KeptLine)) (i : ℕ) (hole : Hole) → trace ≡ newer ++ older → Contains terms.live i → terms.quiet < time_of older → Contains (holes_of (there hosts older i).host.is.held) hole → hole.gap.last + 1 - hole.gap.first ≤ sizes.numbers
  pub rounds : (newer older : List (At KeptLine)) (i : ℕ) → trace ≡ newer ++ older → Contains terms.live i → terms.quiet < time_of older → (there hosts older i).policy.turns.round + 2 * sizes.numbers < ROUND_LIMIT
  pub named : (newer older : List (At KeptLine)) (i : ℕ) (d : DrawopValue) → trace ≡ newer ++ older → Contains terms.live i → terms.quiet < time_of older → Contains (there hosts older i).host.is.held d → (1 ≤ d.name.seq) × (d.name.seq < FIRST_FORGED)

-- ---- how often live hosts report

-- After each call the next report of a live host is due within `pause` of it, or of `since`.
abbrev pub ReportWithin : (ℕ → Opening) → Terms → List (At KeptLine) → (since pause : ℕ) → Type 0
ReportWithin hosts terms trace since pause = (newer older : List (At KeptLine)) (i : ℕ) → trace ≡ newer ++ older → Contains terms.live i → (there hosts older i).policy.reports.due + terms.lag i ≤ max (time_of older) since + pause

-- It is due within 96 seconds, whatever comes in.
abbrev pub ReportsAreDue : Type 0
ReportsAreDue = (hosts : ℕ → Opening) (terms : Terms) (trace : List (At KeptLine)) → IsTimelySession hosts terms trace → ReportWithin hosts terms trace terms.quiet LONGEST_PAUSE

-- A live host counts itself, and those of whom it heard a report within 192 seconds. Once its clock is so long after what was on its way has arrived,
-- these are live hosts.
abbrev pub LiveHostsAreCounted : Type 0
LiveHostsAreCounted = (hosts : ℕ → Opening) (terms : Terms) (trace newer older : List (At KeptLine)) (i : ℕ) → IsTimelySession hosts terms trace → trace ≡ newer ++ older → Contains terms.live i
    → (let host = (there hosts older i).host in settled_by terms + HEARD ≤ present host + terms.lag i → members_in (echoes host) ≤ length terms.live)

-- one and a half of the mean time between two reports
abbrev pub pause_of : (rate members : ℕ) → ℕ
pause_of rate members = 3 * mean_time rate members MOST_REPORT_BYTES / 2

-- Live hosts report with `rate` bytes a second or more.
abbrev pub AreNoSlower : (ℕ → Opening) → Terms → ℕ → Type 0
AreNoSlower hosts terms rate = (i : ℕ) → Contains terms.live i → rate ≤ (hosts i).rate

-- from then on live hosts count live hosts alone, and the reports have come that were due before
abbrev pub counted_from : Terms → ℕ
counted_from terms = settled_by terms + HEARD + terms.drift + LONGEST_PAUSE

-- So it is due as soon as the rate says for as many members as there are live hosts.
abbrev pub ReportsGoByRates : Type 0
ReportsGoByRates = (hosts : ℕ → Opening) (terms : Terms) (trace : List (At KeptLine)) (rate : ℕ) → IsTimelySession hosts terms trace → 1 ≤ rate → AreNoSlower hosts terms rate
    → ReportWithin hosts terms trace (counted_from terms) (pause_of rate (length terms.live))

-- ---- what is lacked

-- a live host held the name once what was on its way had arrived
abbrev pub IsHeldBySome : (ℕ → Opening) → Terms → List (At KeptLine) → NameValue → Type 0
IsHeldBySome hosts terms trace n = IsAnswerable (λ j. start_of (hosts j)) terms (performed hosts trace) n

-- a host, by its place, and a name that it lacks
pub record Lack : Type 0 where
  pub place : ℕ
  pub name : NameValue

-- After lines that were performed a live host lacks the name, and one of them held it.
abbrev pub IsLackedAt : (ℕ → Opening) → Terms → List (At KeptLine) → List (At Line) → Lack → Type 0
IsLackedAt hosts terms trace back x = Contains terms.live x.place × IsHeldBySome hosts terms trace x.name × (holds (host_after (λ j. start_of (hosts j)) back x.place) x.name ≡ false)

-- Once what was on its way has arrived, all live hosts together lack at most `most`: a name counts once for each that lacks it.
abbrev pub LackAtMost : (ℕ → Opening) → Terms → List (At KeptLine) → ℕ → Type 0
LackAtMost hosts terms trace most = (lacks : List Lack) → AreApart lacks → ((x : Lack) → Contains lacks x → IsLackedAt hosts terms trace (until (settled_by terms) (performed hosts trace)) x) → length lacks ≤ most

-- When requests begin to be answered, no request timer for what some live host held is due later than so long after.
abbrev pub WaitAtMost : (ℕ → Opening) → Terms → List (At KeptLine) → ℕ → Type 0
WaitAtMost hosts terms trace wait = (i : ℕ) (n : NameValue) (ask : AskTimer) → Contains terms.live i → IsHeldBySome hosts terms trace n
    → (timers_after (λ j. start_of (hosts j)) (until (known_from terms) (performed hosts trace)) i n).ask ≡ Some ask → ask.due + terms.lag i ≤ known_from terms + wait

-- ---- how soon what is lacked is asked for, and comes

-- Each number that a live host lacks below one that it holds is held by one of them.
abbrev pub HolesAreHeld : (ℕ → Opening) → Terms → List (At KeptLine) → Type 0
HolesAreHeld hosts terms trace = (newer older : List (At KeptLine)) (i : ℕ) (n : NameValue) → trace ≡ newer ++ older → Contains terms.live i → settled_by terms < time_of older
    → IsMissing (there hosts older i).host.is.held n.page [] n.source n.seq → IsHeldBySome hosts terms trace n

-- From a time on a live host gives up no name before its request timer was backed off.
abbrev pub NewAreKept : (ℕ → Opening) → Terms → List (At KeptLine) → ℕ → Type 0
NewAreKept hosts terms trace from = (front back : List (At Line)) (x : At Line) (n : NameValue) (ask : AskTimer) → performed hosts trace ≡ front ++ x ∷ back → Contains terms.live x.place → from < x.time → x.event ≡ Calls (Stop n)
    → (timers_after (λ j. start_of (hosts j)) back x.place n).ask ≡ Some ask → 1 ≤ ask.level

-- the longest from one report to the next
abbrev pub report_span : Terms → Sizes → ℕ
report_span terms sizes = sizes.pause + terms.late

-- the longest from one turn to the next: one is due within 16 seconds, whatever is reported
abbrev pub turn_span : Terms → ℕ
turn_span terms = LONGEST_GAP + terms.late

-- Live hosts report so soon. Each number has its turn within twice as many turns as all holes may have numbers, or the next turn is enough
-- since any number is held. At most all names that are lacked are given up one after the other, or one if none is before its timer was backed off.
pub record AreSoon (hosts : ℕ → Opening) (terms : Terms) (trace : List (At KeptLine)) (sizes : Sizes) (most : ℕ) : Type 0 where
  pub reports : ReportWithin hosts terms trace sizes.since sizes.pause
  pub turns : (2 * sizes.numbers * sizes.holes * turn_span terms ≤ sizes.turning) ⊎ ((turn_span terms ≤ sizes.turning) × HolesAreHeld hosts terms trace)
  pub gives : (most ≤ sizes.gives) ⊎ ((1 ≤ sizes.gives) × NewAreKept hosts terms trace sizes.since)

-- the sizes of a session in which nothing more is known of that
abbrev pub slowest : Terms → (slices holes numbers most : ℕ) → Sizes
slowest terms slices holes numbers most = record {
  slices = slices;
  holes = holes;
  numbers = numbers;
  gives = most;
  turning = 2 * numbers * holes * (LONGEST_GAP + terms.late);
  pause = LONGEST_PAUSE;
  since = terms.quiet;
}

-- Live hosts are always as soon as that.
abbrev pub AllAreSoon : Type 0
AllAreSoon = (hosts : ℕ → Opening) (terms : Terms) (trace : List (At KeptLine)) (slices holes numbers most : ℕ) → IsTimelySession hosts terms trace → AreSoon hosts terms trace (slowest terms slices holes numbers most) most

-- with reports that go by a rate
abbrev pub by_rate : Terms → ℕ → Sizes → Sizes
by_rate terms rate sizes = record sizes { pause = pause_of rate (length terms.live); since = counted_from terms }

-- And they are as soon as that, if none reports with less.
abbrev pub AllAreSoonByRates : Type 0
AllAreSoonByRates = (hosts : ℕ → Opening) (terms : Terms) (trace : List (At KeptLine)) (rate slices holes numbers most : ℕ) → IsTimelySession hosts terms trace → 1 ≤ rate → AreNoSlower hosts terms rate
    → AreSoon hosts terms trace (by_rate terms rate (slowest terms slices holes numbers most)) most

-- ---- spans, in microseconds

abbrev pub minute : ℕ
minute = 60 * SECOND

-- the longest from where a name is asked for to its first request
abbrev pub request_span : Terms → ℕ
request_span terms = terms.asking * terms.far + terms.late

-- until a report tells it the greatest number of a source, or a missing number has its turn
abbrev pub wanting : Terms → Sizes → ℕ
wanting terms sizes = 2 * sizes.slices * report_span terms sizes + sizes.turning + terms.delivery

-- credit that is used up was used for what is held within this time
abbrev pub credit_span : Terms → ℕ
credit_span terms = 21000000 + terms.drift

-- until it asks for something that another holds
abbrev pub asked_within : Terms → Sizes → ℕ
asked_within terms sizes = credit_span terms + request_span terms + wanting terms sizes

-- While a live host lacks what another holds, something new comes to one of them within this time.
abbrev pub step : Terms → Sizes → ℕ
step terms sizes =
    report_span terms sizes + asked_within terms sizes
    + sizes.gives * request_span terms + repairing terms

-- the time at which each holds what one of them held
abbrev pub whole_by : Terms → Sizes → ℕ → ℕ → ℕ
whole_by terms sizes wait most = max (known_from terms + wait + repairing terms) sizes.since + (most + 1) * step terms sizes

-- After that time each live host holds what one of them held, if a first request follows within a minute.
abbrev pub SessionsBecomeWhole : Type 0
SessionsBecomeWhole = (hosts : ℕ → Opening) (terms : Terms) (trace : List (At KeptLine)) (sizes : Sizes) (wait most : ℕ) (n : NameValue)
    → IsTimelySession hosts terms trace → AreWithin hosts terms trace sizes → AreSoon hosts terms trace sizes most → WaitAtMost hosts terms trace wait → LackAtMost hosts terms trace most → request_span terms + terms.drift ≤ minute
    → IsHeldBySome hosts terms trace n → AllKeptHoldBehind hosts terms trace (whole_by terms sizes wait most) n
