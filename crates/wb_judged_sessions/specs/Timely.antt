-- By when all of a session has come to judged members, if from some time on nobody draws or starts, and nothing is lost.
use Rattle.std.specs.Prelude.{◌≡◌, ◌≢◌, ◌⊎◌, ℕ, ◌+◌, ◌<◌, ◌≤◌, ◌*◌, Bool, true, false, List, [], ◌∷◌, ◌++◌, Contains, nat_eq}
use Rattle.wb_names.specs.Values.{NameValue}
use Rattle.wb_names.specs.declared.name.PageId.{PageId}
use Rattle.wb_names.specs.declared.parts.Op.{Op}
use Rattle.wb_codec.specs.declared.datagram.Datagram.{Datagram}
use Rattle.wb_judge.specs.declared.origin.Origin.{Origin}
use Rattle.wb_progress.specs.Bounds.{IsUnder}
use Rattle.wb_progress.specs.Turns.{IsNowAt, Terms, longest, settled_by}
use Rattle.wb_member.specs.Judged.{holds, is_full}
use Rattle.wb_member.specs.Opened.{present}
use Rattle.wb_recovery.specs.declared.limits.TheConstants.{MOST_TIMERS}
use Rattle.wb_policy.specs.declared.limits.TheConstants.{COST, MOST_DELAY}
use Rattle.wb_keeping.specs.Laws.{Came}
use Rattle.wb_keeping.specs.Performing.{due}
use Rattle.wb_judging.specs.Handing.{handed}
use Rattle.wb_judging.specs.Judged.{Judged, moment_of}
use Rattle.wb_judging.specs.declared.call.Call.{Call}
use Rattle.wb_judging.specs.declared.call.Call.TheVariants.{CameFrom, Held, UserDrew}
use Rattle.wb_judging.specs.Laws.{sends_in}
use Rattle.wb_judging.specs.Members.{IsOfMember}
use Rattle.wb_judging.specs.Performing.{events_of}
use Rattle.wb_judging.specs.declared.record.RecordLine.{RecordLine}
use Rattle.wb_laws_kept.specs.Openings.{opened_host}
use Rattle.wb_laws_machines.specs.Honest.{AreApart}
use Rattle.wb_kept_progress.specs.Agreement.{LookAlike}
use Rattle.wb_kept_progress.specs.Crowded.{crowded_by, spent_in}
use Rattle.wb_kept_progress.specs.Filling.{OnlyHolesAreLacked, filled_by}
use Rattle.wb_kept_progress.specs.Rounds.{OneLacksAtMost, PlacesAreFilled, rounds_by}
use Rattle.wb_kept_progress.specs.Since.{DelaysAreShortSince, GoByShortSince, IsTimelyWithStarts, hosts_of, since}
use Rattle.wb_kept_progress.specs.Whole.{AreSoon, AreWithin, HolesAreHeld, IsHeldBySome, LackAtMost, NewAreKept, ReportWithin, Sizes, WaitAtMost, minute, request_span, whole_by}
use Rattle.wb_judged_sessions.specs.Calls.{JudgedCall, Starts, Takes, Tunes}
use Rattle.wb_judged_sessions.specs.Sessions.{At, judged_at, kept_calls}
use Rattle.wb_judged_sessions.specs.Terms.{AreTaken, IsSession}
use Rattle.wb_kept_progress.specs.Timed.{AreInOrder, time_of}

-- ---- what they keep to

-- The last start was at `quiet` or before, at a moment that the clock may tell then, and with such constants. Each line since then says a moment of
-- its time, and constants that are set have no longer waits than the terms say.
abbrev pub IsFittingSince : Terms → ℕ → ℕ → Bool → ℕ → JudgedCall → Judged → Type 0 → Type 0
IsFittingSince terms number place false time call h before = before
IsFittingSince terms number place true time (Starts start given) h before =
    (time ≤ terms.quiet) × IsNowAt terms time place (present (opened_host number start.opening)) × IsUnder (longest terms) start.opening.constants
IsFittingSince terms number place true time (Takes line) h before = IsNowAt terms time place (moment_of line h) × before
IsFittingSince terms number place true time (Tunes constants) h before = IsUnder (longest terms) constants × before

-- The program does not start by a call.
abbrev pub IsNoStart : JudgedCall → Type 0
IsNoStart (Starts start given) = ⊥
IsNoStart (Takes line) = Unit {0}
IsNoStart (Tunes constants) = Unit {0}

abbrev pub AreFittingSince : Terms → (ℕ → ℕ) → ℕ → List (At JudgedCall) → Type 0
AreFittingSince terms numbers place [] = ⊥
AreFittingSince terms numbers place (e ∷ older) =
    IsFittingSince terms (numbers place) place (nat_eq e.place place) e.time e.event (judged_at numbers older e.place) (AreFittingSince terms numbers place older)

-- A datagram comes to a place by a time, as a member's: its sender is known there at the origin from which it comes, and speaks from there, and it is
-- fit, as a judge has it. A drawop is so if it is no more than a day ahead of the time of day there, and there is a cell for it besides a thirty-second.
pub record Arrives (numbers : ℕ → ℕ) (newer base : List (At JudgedCall)) (j by : ℕ) (v : Datagram) : Type 0 where
  pub later : List (At JudgedCall)
  pub call : At JudgedCall
  pub between : List (At JudgedCall)
  pub split : newer ≡ later ++ call ∷ between
  pub place : call.place ≡ j
  pub soon : call.time ≤ by
  pub now : ℕ
  pub origin : Origin
  pub is : call.event ≡ Takes (CameFrom now origin v)
  pub member : IsOfMember now origin v (judged_at numbers (between ++ base) j)

-- one of these lines sent a datagram, so shortly before a time
pub record WasSentBy (numbers : ℕ → ℕ) (older : List (At JudgedCall)) (time within : ℕ) (v : Datagram) : Type 0 where
  pub newer : List (At JudgedCall)
  pub e : At JudgedCall
  pub before : List (At JudgedCall)
  pub split : older ≡ newer ++ e ∷ before
  pub soon : time ≤ e.time + within
  pub line : Call
  pub call : e.event ≡ Takes line
  pub sent : Contains (sends_in (events_of line (judged_at numbers before e.place))) v

-- Before `quiet` programs start and end as they like, and the network does what it likes. From then on live members alone are called, and in time, each
-- of their boards has a free cell, nobody draws, and no line of a record is handed in. What the one at a place sends comes to each other one in time, in a
-- way that is stated, among newer calls over the older ones. What a judge lets in once all that was on its way has arrived was sent shortly before; what it
-- drops may be anything. Of delays something is asked that is stated.
pub record IsTimelyBut (Arrived : (newer base : List (At JudgedCall)) (i j by : ℕ) → Datagram → Type 0) (Delays : Type 0) (numbers : ℕ → ℕ) (terms : Terms) (calls : List (At JudgedCall)) : Type 0 where
  pub apart : AreApart numbers
  pub taken : AreTaken numbers calls
  pub order : AreInOrder calls
  pub covered : terms.drift ≤ terms.late
  pub delays : Delays
  pub fitting : (i : ℕ) → Contains terms.live i → AreFittingSince terms numbers i calls
  pub alone : (newer older : List (At JudgedCall)) (e : At JudgedCall) → calls ≡ newer ++ e ∷ older → terms.quiet < e.time → Contains terms.live e.place × IsNoStart e.event
  pub drawn : (newer older : List (At JudgedCall)) (e : At JudgedCall) (now : ℕ) (page : PageId) (op : Op) → calls ≡ newer ++ e ∷ older → terms.quiet < e.time → e.event ≢ Takes (UserDrew now page op)
  pub recalled : (newer older : List (At JudgedCall)) (e : At JudgedCall) (line : RecordLine) → calls ≡ newer ++ e ∷ older → terms.quiet < e.time → e.event ≢ Takes (Held line)
  pub soon : (newer older : List (At JudgedCall)) (e : At JudgedCall) (i : ℕ) → calls ≡ newer ++ e ∷ older → Contains terms.live i → terms.quiet < e.time
      → e.time ≤ due (judged_at numbers older i).kept + (terms.lag i + terms.late)
  pub room : (newer older : List (At JudgedCall)) (i : ℕ) → calls ≡ newer ++ older → Contains terms.live i → terms.quiet < time_of older → is_full (judged_at numbers older i).kept.host ≡ false
  pub delivered : (newer older : List (At JudgedCall)) (e : At JudgedCall) (line : Call) (j : ℕ) (v : Datagram) → calls ≡ newer ++ e ∷ older → e.event ≡ Takes line → Contains terms.live j
      → e.place ≢ j → terms.quiet < e.time
      → Contains (sends_in (events_of line (judged_at numbers older e.place))) v → e.time + terms.delivery < time_of calls → Arrived newer (e ∷ older) e.place j (e.time + terms.delivery) v
  pub fresh : (newer older : List (At JudgedCall)) (e : At JudgedCall) (now : ℕ) (o : Origin) (v : Datagram) → calls ≡ newer ++ e ∷ older → settled_by terms < e.time → e.event ≡ Takes (CameFrom now o v)
      → handed (CameFrom now o v) (judged_at numbers older e.place) ≡ Came now v → WasSentBy numbers older e.time terms.delivery v

-- It is what a session of self-managing members is asked.
abbrev pub IsTimelyBy : ((newer base : List (At JudgedCall)) (i j by : ℕ) → Datagram → Type 0) → (ℕ → ℕ) → Terms → List (At JudgedCall) → Type 0
IsTimelyBy Arrived numbers terms calls = IsTimelyBut Arrived ((MOST_DELAY ≤ terms.far) ⊎ DelaysAreShortSince numbers terms (kept_calls numbers calls)) numbers terms calls

-- It comes as a member's.
abbrev pub IsTimely : (ℕ → ℕ) → Terms → List (At JudgedCall) → Type 0
IsTimely numbers terms calls = IsTimelyBy (λ newer base i j by v. Arrives numbers newer base j by v) numbers terms calls

-- ---- laws

-- As a session of self-managing members it keeps to times.
abbrev pub JudgedIsTimely : Type 0
JudgedIsTimely = (numbers : ℕ → ℕ) (terms : Terms) (calls : List (At JudgedCall)) → IsTimely numbers terms calls → IsTimelyWithStarts numbers terms (kept_calls numbers calls)

-- Of delays it is enough that none is above `far` since the last starts.
abbrev pub JudgedAlwaysShort : Type 0
JudgedAlwaysShort = (numbers : ℕ → ℕ) (terms : Terms) (calls : List (At JudgedCall))
    → IsTimelyBut (λ newer base i j by v. Arrives numbers newer base j by v) (GoByShortSince numbers terms (kept_calls numbers calls)) numbers terms calls → IsTimely numbers terms calls

-- It becomes whole, whoever started anew before: after a stated time each live member holds what one of them held. The sizes are those of the boards
-- and policies of the members, since the last start of each.
abbrev pub JudgedBecomeWhole : Type 0
JudgedBecomeWhole = (numbers : ℕ → ℕ) (terms : Terms) (calls newer later : List (At JudgedCall)) (sizes : Sizes) (wait most i : ℕ) (n : NameValue) → IsTimely numbers terms calls
    → let hosts = hosts_of numbers (kept_calls numbers calls) in
    let trace = since numbers (kept_calls numbers calls) in
    AreWithin hosts terms trace sizes → AreSoon hosts terms trace sizes most → WaitAtMost hosts terms trace wait → LackAtMost hosts terms trace most
    → request_span terms + terms.drift ≤ minute → IsHeldBySome hosts terms trace n
    → calls ≡ newer ++ later → whole_by terms sizes wait most < time_of later → Contains terms.live i → holds (judged_at numbers later i).kept.host n ≡ true

-- So it does by rounds.
abbrev pub JudgedBecomeWholeByRounds : Type 0
JudgedBecomeWholeByRounds = (numbers : ℕ → ℕ) (terms : Terms) (calls newer later : List (At JudgedCall)) (from pause wait most places rounds i : ℕ) (n : NameValue) → IsTimely numbers terms calls
    → let hosts = hosts_of numbers (kept_calls numbers calls) in
    let trace = since numbers (kept_calls numbers calls) in
    ReportWithin hosts terms trace from pause → WaitAtMost hosts terms trace wait → OneLacksAtMost hosts terms trace most → NewAreKept hosts terms trace from
    → PlacesAreFilled hosts terms trace from places → most ≤ rounds * places
    → IsHeldBySome hosts terms trace n → calls ≡ newer ++ later → rounds_by terms from pause wait rounds < time_of later → Contains terms.live i
    → holds (judged_at numbers later i).kept.host n ≡ true

-- And though names are given up in crowds.
abbrev pub JudgedBecomeWholeInCrowds : Type 0
JudgedBecomeWholeInCrowds = (numbers : ℕ → ℕ) (terms : Terms) (calls newer later : List (At JudgedCall)) (from wait most places bringing crowded i : ℕ) (n : NameValue) → IsTimely numbers terms calls
    → let hosts = hosts_of numbers (kept_calls numbers calls) in
    let trace = since numbers (kept_calls numbers calls) in
    WaitAtMost hosts terms trace wait → OneLacksAtMost hosts terms trace most → PlacesAreFilled hosts terms trace from places
    → most ≤ bringing * places → spent_in terms most (bringing + crowded) ≤ crowded * (MOST_TIMERS * COST)
    → IsHeldBySome hosts terms trace n → calls ≡ newer ++ later → crowded_by terms from wait (bringing + crowded) < time_of later → Contains terms.live i
    → holds (judged_at numbers later i).kept.host n ≡ true

-- And where members lack nothing but numbers below one that they hold.
abbrev pub JudgedFillHoles : Type 0
JudgedFillHoles = (numbers : ℕ → ℕ) (terms : Terms) (calls newer later : List (At JudgedCall)) (from wait most crowded i : ℕ) (n : NameValue) → IsTimely numbers terms calls
    → let hosts = hosts_of numbers (kept_calls numbers calls) in
    let trace = since numbers (kept_calls numbers calls) in
    WaitAtMost hosts terms trace wait → OneLacksAtMost hosts terms trace most → HolesAreHeld hosts terms trace → OnlyHolesAreLacked hosts terms trace from
    → spent_in terms most (most + crowded) ≤ crowded * (MOST_TIMERS * COST)
    → IsHeldBySome hosts terms trace n → calls ≡ newer ++ later → filled_by terms from wait (most + crowded) < time_of later → Contains terms.live i
    → holds (judged_at numbers later i).kept.host n ≡ true

-- After that time the boards of any two live members look alike, at the end of the session, if it is one of those in which each drawop that is let in
-- was held before.
abbrev pub JudgedAgree : Type 0
JudgedAgree = (numbers : ℕ → ℕ) (terms : Terms) (calls : List (At JudgedCall)) (sizes : Sizes) (wait most i j : ℕ) → IsTimely numbers terms calls → IsSession numbers calls
    → let hosts = hosts_of numbers (kept_calls numbers calls) in
    let trace = since numbers (kept_calls numbers calls) in
    AreWithin hosts terms trace sizes → AreSoon hosts terms trace sizes most → WaitAtMost hosts terms trace wait → LackAtMost hosts terms trace most → request_span terms + terms.drift ≤ minute
    → whole_by terms sizes wait most < time_of calls → Contains terms.live i → Contains terms.live j
    → LookAlike (judged_at numbers calls i).kept.host.is.held (judged_at numbers calls j).kept.host.is.held
