-- Sessions in which programs start, and start anew. What came since the last start of each member is a session of hosts: by when it becomes
-- whole is said of that.
use Rattle.std.specs.Prelude.{◌≡◌, ◌≢◌, ◌⊎◌, ℕ, ◌+◌, ◌*◌, ◌<◌, ◌≤◌, Bool, true, false, List, [], ◌∷◌, ◌++◌, Contains, nat_eq, if◌then◌else◌}
use Rattle.wb_names.specs.Values.{NameValue}
use Rattle.wb_names.specs.declared.name.PageId.{PageId}
use Rattle.wb_names.specs.declared.parts.Op.{Op}
use Rattle.wb_codec.specs.declared.datagram.Datagram.{Datagram}
use Rattle.wb_recovery.specs.declared.tuning.Tuning.{Tuning}
use Rattle.wb_progress.specs.Bounds.{IsUnder}
use Rattle.wb_progress.specs.Turns.{IsNowAt, Terms, longest, settled_by}
use Rattle.wb_member.specs.Judged.{holds, is_full}
use Rattle.wb_member.specs.Opened.{present}
use Rattle.wb_recovery.specs.declared.limits.TheConstants.{MOST_TIMERS}
use Rattle.wb_policy.specs.declared.limits.TheConstants.{COST, MOST_DELAY}
use Rattle.wb_keeping.specs.Laws.{KeptLine, Added, Came, Tuned, doing_of}
use Rattle.wb_keeping.specs.Performing.{due, sent_by_doing}
use Rattle.wb_judging.specs.Members.{needs}
use Rattle.wb_laws_machines.specs.Honest.{AreApart}
use Rattle.wb_laws_kept.specs.Openings as starts
use Rattle.wb_laws_kept.specs.Openings.{opened, opened_host}
use Rattle.wb_laws_kept.specs.Sessions.{AreTaken, At, kept_at}
use Rattle.wb_kept_progress.specs.Sessions.{Opening}
use Rattle.wb_kept_progress.specs.Timed.{AreInOrder, DelaysAreShort, GoByShort, performed, SaysNow, start_of, time_of}
use Rattle.wb_kept_progress.specs.Crowded.{crowded_by, spent_in}
use Rattle.wb_kept_progress.specs.Filling.{OnlyHolesAreLacked, filled_by}
use Rattle.wb_kept_progress.specs.Rounds.{OneLacksAtMost, PlacesAreFilled, rounds_by}
use Rattle.wb_kept_progress.specs.Whole.{AreSoon, AreWithin, HolesAreHeld, IsHeldBySome, IsTimelySession, LackAtMost, NewAreKept, ReportWithin, Sizes, WaitAtMost, minute, request_span, there, whole_by}
use Rattle.wb_laws_kept.specs.Calls.{Begins, Call, Handed, given_lines}
use Rattle.wb_progress.specs.Traces as traces

-- ---- the last start of each member, and the lines since then

abbrev pub with_number : ℕ → starts.Opening → Opening
with_number number o = record { constants = o.constants; number = number; cells = o.cells; seed = o.seed; moments = o.moments; rate = o.rate; listen = o.listen }

-- the opening of a program that never started
abbrev pub unborn : starts.Opening
unborn = record { constants = record { c1 = 2; c2 = 2; d1 = 1; d2 = 1 }; cells = 0; seed = 0; moments = []; rate = 1; listen = 0 }

abbrev pub opening_by : Call → starts.Opening → starts.Opening
opening_by (Begins o given) before = o
opening_by (Handed line) before = before

abbrev pub opening_at : List (At Call) → ℕ → starts.Opening
opening_at [] i = unborn
opening_at (e ∷ older) i = if nat_eq e.place i then opening_by e.event (opening_at older i) else opening_at older i

abbrev pub hosts_of : (ℕ → ℕ) → List (At Call) → ℕ → Opening
hosts_of numbers calls i = with_number (numbers i) (opening_at calls i)

-- lines at other places
abbrev pub elsewhere : ℕ → List (At KeptLine) → List (At KeptLine)
elsewhere p [] = []
elsewhere p (e ∷ lines) = if nat_eq e.place p then elsewhere p lines else e ∷ elsewhere p lines

-- more lines that are handed in at a time, one after the other
abbrev pub handed_at : ℕ → ℕ → List KeptLine → List (At KeptLine) → List (At KeptLine)
handed_at time p [] lines = lines
handed_at time p (line ∷ more) lines = handed_at time p more (record { time = time; place = p; event = line } ∷ lines)

-- A start ends what came before at its place, and hands in what the record has.
abbrev pub since_by : ℕ → ℕ → ℕ → Call → List (At KeptLine) → List (At KeptLine)
since_by number time p (Begins o given) lines = handed_at time p (given_lines (opened number o) given) (elsewhere p lines)
since_by number time p (Handed line) lines = record { time = time; place = p; event = line } ∷ lines

abbrev pub since : (ℕ → ℕ) → List (At Call) → List (At KeptLine)
since numbers [] = []
since numbers (e ∷ older) = since_by (numbers e.place) e.time e.place e.event (since numbers older)

-- ---- what they keep to

-- if it says a moment, the clock of its place may tell it at the time, and constants that it sets have no longer waits than the terms say
pub record IsFitting (terms : Terms) (time place : ℕ) (line : KeptLine) : Type 0 where
  pub says : SaysNow terms time place line
  pub tuned : (constants : Tuning) → line ≡ Tuned constants → IsUnder (longest terms) constants

-- The last start was at `quiet` or before, at a moment that the clock may tell then, with such constants. Each line since then is fitting.
abbrev pub IsFittingSince : Terms → ℕ → ℕ → Bool → ℕ → Call → Type 0 → Type 0
IsFittingSince terms number place false time call before = before
IsFittingSince terms number place true time (Begins o given) before = (time ≤ terms.quiet) × IsNowAt terms time place (present (opened_host number o)) × IsUnder (longest terms) o.constants
IsFittingSince terms number place true time (Handed line) before = IsFitting terms time place line × before

abbrev pub AreFittingSince : Terms → ℕ → ℕ → List (At Call) → Type 0
AreFittingSince terms number place [] = ⊥
AreFittingSince terms number place (e ∷ older) = IsFittingSince terms number place (nat_eq e.place place) e.time e.event (AreFittingSince terms number place older)

-- one of the newer calls hands a datagram in, at a place and by a time
abbrev pub IsHandedIn : List (At Call) → ℕ → ℕ → Datagram → Type 0
IsHandedIn = traces.IsHandedIn (λ now v. Handed (Came now v))

-- by a time, behind some of the newer calls, a member can do without a datagram
pub record IsSpared (numbers : ℕ → ℕ) (newer base : List (At Call)) (j by : ℕ) (v : Datagram) : Type 0 where
  pub later : List (At Call)
  pub between : List (At Call)
  pub split : newer ≡ later ++ between
  pub soon : time_of (between ++ base) ≤ by
  pub spared : needs (kept_at numbers (between ++ base) j).host v ≡ false

-- one of these lines sent a datagram, so shortly before a time
pub record WasSentBy (numbers : ℕ → ℕ) (older : List (At Call)) (time within : ℕ) (v : Datagram) : Type 0 where
  pub newer : List (At Call)
  pub e : At Call
  pub before : List (At Call)
  pub split : older ≡ newer ++ e ∷ before
  pub soon : time ≤ e.time + within
  pub line : KeptLine
  pub call : e.event ≡ Handed line
  pub sent : Contains (sent_by_doing (doing_of line) (kept_at numbers before e.place)) v

-- No line since the last start of a live member goes by a delay above `far`; or none does from `quiet` on, and what stands then ends as soon.
abbrev pub GoByShortSince : (ℕ → ℕ) → Terms → List (At Call) → Type 0
GoByShortSince numbers terms calls = let hosts = hosts_of numbers calls in GoByShort (λ j. start_of (hosts j)) terms (performed hosts (since numbers calls))

abbrev pub DelaysAreShortSince : (ℕ → ℕ) → Terms → List (At Call) → Type 0
DelaysAreShortSince numbers terms calls = let hosts = hosts_of numbers calls in DelaysAreShort (λ j. start_of (hosts j)) terms (performed hosts (since numbers calls))

-- The premises of `IsTimelySessionBut`. Before `quiet` programs start and end as they like; nothing is asked of what came before the last start.
pub record IsTimelyWithStartsBut (Delays : Type 0) (numbers : ℕ → ℕ) (terms : Terms) (calls : List (At Call)) : Type 0 where
  pub apart : AreApart numbers
  pub taken : AreTaken numbers calls
  pub order : AreInOrder calls
  pub covered : terms.drift ≤ terms.late
  pub delays : Delays
  pub fitting : (i : ℕ) → Contains terms.live i → AreFittingSince terms (numbers i) i calls
  -- from `quiet` on
  pub alone : (newer older : List (At Call)) (e : At Call) → calls ≡ newer ++ e ∷ older → terms.quiet < e.time → Contains terms.live e.place × ((line : KeptLine) × (e.event ≡ Handed line))
  pub drawn : (newer older : List (At Call)) (e : At Call) (now : ℕ) (page : PageId) (time : ℕ) (op : Op) → calls ≡ newer ++ e ∷ older → terms.quiet < e.time → e.event ≢ Handed (Added now page time op)
  pub soon : (newer older : List (At Call)) (e : At Call) (i : ℕ) → calls ≡ newer ++ e ∷ older → Contains terms.live i → terms.quiet < e.time → e.time ≤ due (kept_at numbers older i) + (terms.lag i + terms.late)
  pub room : (newer older : List (At Call)) (i : ℕ) → calls ≡ newer ++ older → Contains terms.live i → terms.quiet < time_of older → is_full (kept_at numbers older i).host ≡ false
  pub delivered : (newer older : List (At Call)) (e : At Call) (line : KeptLine) (j : ℕ) (v : Datagram) → calls ≡ newer ++ e ∷ older → e.event ≡ Handed line → Contains terms.live j → e.place ≢ j → terms.quiet < e.time
      → Contains (sent_by_doing (doing_of line) (kept_at numbers older e.place)) v → e.time + terms.delivery < time_of calls → IsHandedIn newer j (e.time + terms.delivery) v ⊎ IsSpared numbers newer (e ∷ older) j (e.time + terms.delivery) v
  pub fresh : (newer older : List (At Call)) (e : At Call) (now : ℕ) (v : Datagram) → calls ≡ newer ++ e ∷ older → settled_by terms < e.time → e.event ≡ Handed (Came now v) → WasSentBy numbers older e.time terms.delivery v

-- and those of `IsTimelySession`
abbrev pub IsTimelyWithStarts : (ℕ → ℕ) → Terms → List (At Call) → Type 0
IsTimelyWithStarts numbers terms calls = IsTimelyWithStartsBut ((MOST_DELAY ≤ terms.far) ⊎ DelaysAreShortSince numbers terms calls) numbers terms calls

-- ---- laws

-- The hosts since the last starts are the members.
abbrev pub SinceIsSame : Type 0
SinceIsSame = (numbers : ℕ → ℕ) (calls : List (At Call)) (i : ℕ) → there (hosts_of numbers calls) (since numbers calls) i ≡ kept_at numbers calls i

-- So with such starts before `quiet` a session keeps to times.
abbrev pub SinceIsTimely : Type 0
SinceIsTimely = (numbers : ℕ → ℕ) (terms : Terms) (calls : List (At Call)) → IsTimelyWithStarts numbers terms calls → IsTimelySession (hosts_of numbers calls) terms (since numbers calls)

-- Of delays it is enough that none is above `far` since the last starts.
abbrev pub AlwaysShortSince : Type 0
AlwaysShortSince = (numbers : ℕ → ℕ) (terms : Terms) (calls : List (At Call)) → IsTimelyWithStartsBut (GoByShortSince numbers terms calls) numbers terms calls → IsTimelyWithStarts numbers terms calls

-- It becomes whole, whoever started anew before.
abbrev pub RestartedBecomeWhole : Type 0
RestartedBecomeWhole = (numbers : ℕ → ℕ) (terms : Terms) (calls newer later : List (At Call)) (sizes : Sizes) (wait most i : ℕ) (n : NameValue) → IsTimelyWithStarts numbers terms calls
    → let hosts = hosts_of numbers calls in
    let trace = since numbers calls in
    AreWithin hosts terms trace sizes → AreSoon hosts terms trace sizes most → WaitAtMost hosts terms trace wait → LackAtMost hosts terms trace most → request_span terms + terms.drift ≤ minute → IsHeldBySome hosts terms trace n
    → calls ≡ newer ++ later → whole_by terms sizes wait most < time_of later → Contains terms.live i → holds (kept_at numbers later i).host n ≡ true

-- So it does by rounds.
abbrev pub RestartedBecomeWholeByRounds : Type 0
RestartedBecomeWholeByRounds = (numbers : ℕ → ℕ) (terms : Terms) (calls newer later : List (At Call)) (from pause wait most places rounds i : ℕ) (n : NameValue) → IsTimelyWithStarts numbers terms calls
    → let hosts = hosts_of numbers calls in
    let trace = since numbers calls in
    ReportWithin hosts terms trace from pause → WaitAtMost hosts terms trace wait → OneLacksAtMost hosts terms trace most → NewAreKept hosts terms trace from → PlacesAreFilled hosts terms trace from places → most ≤ rounds * places
    → IsHeldBySome hosts terms trace n → calls ≡ newer ++ later → rounds_by terms from pause wait rounds < time_of later → Contains terms.live i → holds (kept_at numbers later i).host n ≡ true

-- And though names are given up in crowds.
abbrev pub RestartedBecomeWholeInCrowds : Type 0
RestartedBecomeWholeInCrowds = (numbers : ℕ → ℕ) (terms : Terms) (calls newer later : List (At Call)) (from wait most places bringing crowded i : ℕ) (n : NameValue) → IsTimelyWithStarts numbers terms calls
    → let hosts = hosts_of numbers calls in
    let trace = since numbers calls in
    WaitAtMost hosts terms trace wait → OneLacksAtMost hosts terms trace most → PlacesAreFilled hosts terms trace from places → most ≤ bringing * places → spent_in terms most (bringing + crowded) ≤ crowded * (MOST_TIMERS * COST)
    → IsHeldBySome hosts terms trace n → calls ≡ newer ++ later → crowded_by terms from wait (bringing + crowded) < time_of later → Contains terms.live i → holds (kept_at numbers later i).host n ≡ true

-- And where hosts lack nothing but numbers below one that they hold.
abbrev pub RestartedFillHoles : Type 0
RestartedFillHoles = (numbers : ℕ → ℕ) (terms : Terms) (calls newer later : List (At Call)) (from wait most crowded i : ℕ) (n : NameValue) → IsTimelyWithStarts numbers terms calls
    → let hosts = hosts_of numbers calls in
    let trace = since numbers calls in
    WaitAtMost hosts terms trace wait → OneLacksAtMost hosts terms trace most → HolesAreHeld hosts terms trace → OnlyHolesAreLacked hosts terms trace from → spent_in terms most (most + crowded) ≤ crowded * (MOST_TIMERS * COST)
    → IsHeldBySome hosts terms trace n → calls ≡ newer ++ later → filled_by terms from wait (most + crowded) < time_of later → Contains terms.live i → holds (kept_at numbers later i).host n ≡ true
