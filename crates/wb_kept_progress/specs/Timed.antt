-- Hosts in real time, by the lines that they perform. A self-managing host performs such lines, one after the other.
use Rattle.std.specs.Prelude.{◌≡◌, ◌≢◌, ◌⊎◌, ℕ, ◌+◌, ◌*◌, ◌-◌, ◌<◌, ◌≤◌, Bool, true, false, max, List, [], ◌∷◌, ◌++◌, Contains, Some, nat_eq, if◌then◌else◌}
use Rattle.wb_names.specs.Values.{DrawopValue, NameValue}
use Rattle.wb_codec.specs.declared.datagram.Datagram.{Datagram}
use Rattle.wb_codec.specs.declared.datagram.Datagram.TheVariants.{Draw, Session, Request, AskPages, PageState}
use Rattle.wb_recovery.specs.Events.{constants_after, timers_of}
use Rattle.wb_recovery.specs.declared.timers.AskTimer.{AskTimer}
use Rattle.wb_recovery.specs.declared.timers.Timers.{Timers}
use Rattle.wb_recovery.specs.declared.tuning.Tuning.{Tuning}
use Rattle.wb_progress.specs.InTime.{answering_by, known_from, repairing}
use Rattle.wb_progress.specs.Bounds.{AreAnswersNear, IsUnder}
use Rattle.wb_progress.specs.Keepers.{is_request}
use Rattle.wb_progress.specs.Turns.{AreNotOverdue, IsNowAt, Terms, longest, quiet_span, settled_by}
use Rattle.wb_member.specs.Judged.{delay, holds, is_full}
use Rattle.wb_member.specs.Opened.{Opened, events, opened_with, present}
use Rattle.wb_member.specs.declared.calls.Call.TheVariants.{Tick, Hear, Look, Ask, Stop}
use Rattle.wb_policy.specs.declared.limits.TheConstants.{MOST_DELAY}
use Rattle.wb_keeping.specs.Kept.{Line, Arrives, Says, Calls, ticks_at}
use Rattle.wb_keeping.specs.Laws.{KeptLine, Came, Ticked, Added, Tuned, doing_of}
use Rattle.wb_keeping.specs.Performing.{after_line, after_lines, sees, sent_by_doing, sent_by_line}
use Rattle.wb_kept_progress.specs.Sessions.{AreTaken, Opening, kept_at}
pub use Rattle.wb_progress.specs.Traces.{AreInOrder, At, time_of, until}

-- ---- a trace

-- how the host at a place is opened, and the moments that it took in before its first line
pub record Start : Type 0 where
  pub constants : Tuning
  pub number : ℕ
  pub cells : ℕ
  pub seed : ℕ
  pub moments : List ℕ

-- the host at a place after lines, of which the newest is the first
abbrev pub host_after : (ℕ → Start) → List (At Line) → ℕ → Opened
host_after hosts [] i = after_lines (ticks_at (hosts i).moments) (opened_with (hosts i).constants (hosts i).number (hosts i).cells (hosts i).seed)
host_after hosts (e ∷ older) i = if nat_eq e.place i then after_line e.event (host_after hosts older i) else host_after hosts older i

abbrev pub timers_after : (ℕ → Start) → List (At Line) → ℕ → NameValue → Timers
timers_after hosts trace i n = let host = host_after hosts trace i in timers_of host.is.constants (events host) n

-- what a line sends that comes after the older ones
abbrev pub sends : (ℕ → Start) → List (At Line) → At Line → List Datagram
sends hosts older e = sent_by_line e.event (host_after hosts older e.place)

-- ---- what drivers and the network keep to

-- from `quiet` on nothing is drawn, and no request is said
pub record IsQuietLine (line : Line) : Type 0 where
  pub drawn : (d : DrawopValue) → line ≢ Says (Draw d)
  pub said : (asker : ℕ) (m : NameValue) → line ≢ Says (Request asker m)

-- one of the newer lines is this one, at a place and soon enough
pub record ComesTo (newer : List (At Line)) (j by : ℕ) (line : Line) : Type 0 where
  pub later : List (At Line)
  pub arrival : At Line
  pub between : List (At Line)
  pub split : newer ≡ later ++ arrival ∷ between
  pub place : arrival.place ≡ j
  pub soon : arrival.time ≤ by
  pub is : arrival.event ≡ line

-- a name is held at a place behind some of the newer lines, and soon enough
pub record IsHeldBy (hosts : ℕ → Start) (newer base : List (At Line)) (j by : ℕ) (n : NameValue) : Type 0 where
  pub later : List (At Line)
  pub between : List (At Line)
  pub split : newer ≡ later ++ between
  pub soon : time_of (between ++ base) ≤ by
  pub held : holds (host_after hosts (between ++ base) j) n ≡ true

-- a datagram was sent by one of these lines so shortly before a time
pub record WasSent (hosts : ℕ → Start) (older : List (At Line)) (time within : ℕ) (v : Datagram) : Type 0 where
  pub newer : List (At Line)
  pub e : At Line
  pub before : List (At Line)
  pub split : older ≡ newer ++ e ∷ before
  pub soon : time ≤ e.time + within
  pub sent : Contains (sends hosts before e) v

-- A line goes by delays if timers are set by them or names are quiet for them: as it ticks, takes a drawop, hears a request or asks for names.
abbrev pub is_drawop : Datagram → Bool
is_drawop (Draw d) = true
is_drawop (Session sender sent page marks echoes) = false
is_drawop (Request asker name) = false
is_drawop (AskPages asker) = false
is_drawop (PageState sender page marks) = false

abbrev pub goes_by_delays : Line → Bool
goes_by_delays (Calls (Tick now)) = true
goes_by_delays (Arrives d) = true
goes_by_delays (Calls (Hear v)) = is_request v
goes_by_delays (Calls (Look page)) = true
goes_by_delays (Calls (Ask name)) = true
goes_by_delays (Says v) = is_drawop v
goes_by_delays (Calls call) = false

-- no line at a live place goes by a delay above `far`, from the opening of its host on
abbrev pub GoByShort : (ℕ → Start) → Terms → List (At Line) → Type 0
GoByShort hosts terms trace = (newer older : List (At Line)) (e : At Line) (source : ℕ) → trace ≡ newer ++ e ∷ older → Contains terms.live e.place → goes_by_delays e.event ≡ true → delay (host_after hosts older e.place) source ≤ terms.far

-- From `quiet` on no line at a live place goes by a delay above `far`, and what stands there at `quiet` ends as soon as if none had before: a request timer
-- that was not backed off, an answer timer, and that a name is quiet.
pub record DelaysAreShort (hosts : ℕ → Start) (terms : Terms) (trace : List (At Line)) : Type 0 where
  pub goes : (newer older : List (At Line)) (e : At Line) (source : ℕ) → trace ≡ newer ++ e ∷ older → Contains terms.live e.place → terms.quiet < e.time → goes_by_delays e.event ≡ true → delay (host_after hosts older e.place) source ≤ terms.far
  pub asks : (i : ℕ) (n : NameValue) (ask : AskTimer) → Contains terms.live i → (timers_after hosts (until terms.quiet trace) i n).ask ≡ Some ask → ask.level ≡ 0 → ask.due + terms.lag i ≤ terms.quiet + terms.asking * terms.far
  pub answers : (i : ℕ) (n : NameValue) → Contains terms.live i → AreAnswersNear (longest terms) terms.far (terms.quiet - terms.lag i) (timers_after hosts (until terms.quiet trace) i n)

-- The terms are those of wb_progress: nothing is asked of reports, and of what is asked for and given up.
pub record IsTimely (hosts : ℕ → Start) (terms : Terms) (trace : List (At Line)) : Type 0 where
  pub distinct : (i j : ℕ) → (hosts i).number ≡ (hosts j).number → i ≡ j
  pub waits : (i : ℕ) → Contains terms.live i → IsUnder (longest terms) (hosts i).constants
  pub tuned : (newer older : List (At Line)) (i : ℕ) → trace ≡ newer ++ older → Contains terms.live i → let host = host_after hosts older i in IsUnder (longest terms) (constants_after host.is.constants (events host))
  pub order : AreInOrder trace
  -- the last moment before the first line of a live place is one of `quiet` or before
  pub begun : (i : ℕ) → Contains terms.live i → present (host_after hosts [] i) + terms.lag i ≤ terms.quiet
  -- a tick makes it a moment of its time, and a datagram is heard at such a moment
  pub times : (newer older : List (At Line)) (e : At Line) (now : ℕ) → trace ≡ newer ++ e ∷ older → Contains terms.live e.place → e.event ≡ Calls (Tick now) → IsNowAt terms e.time e.place now
  pub behind : (newer older : List (At Line)) (e : At Line) (v : Datagram) → trace ≡ newer ++ e ∷ older → Contains terms.live e.place → e.event ≡ Calls (Hear v) → IsNowAt terms e.time e.place (present (host_after hosts older e.place))
  -- from `quiet` on a tick comes once a timer is due: until a line comes, no timer that stands at a live place is overdue
  pub soon : (newer older : List (At Line)) (e : At Line) (i : ℕ) (m : NameValue) → trace ≡ newer ++ e ∷ older → Contains terms.live i → terms.quiet < e.time → AreNotOverdue (timers_after hosts older i m) e.time (terms.lag i + terms.late)
  pub delays : DelaysAreShort hosts terms trace
  -- from `quiet` on
  pub alone : (newer older : List (At Line)) (e : At Line) → trace ≡ newer ++ e ∷ older → terms.quiet < e.time → Contains terms.live e.place
  pub quiet : (newer older : List (At Line)) (e : At Line) → trace ≡ newer ++ e ∷ older → terms.quiet < e.time → IsQuietLine e.event
  pub room : (newer older : List (At Line)) (e : At Line) (d : DrawopValue) → trace ≡ newer ++ e ∷ older → terms.quiet < e.time → e.event ≡ Arrives d → (holds (host_after hosts older e.place) d.name ≡ true) ⊎ (is_full (host_after hosts older e.place) ≡ false)
  -- A drawop that a live place sends comes to each other one in time, unless that one holds it by then, and a request to each that holds what it asks
  -- for. What comes was sent shortly before.
  pub drawops : (newer older : List (At Line)) (e : At Line) (j : ℕ) (d : DrawopValue) → trace ≡ newer ++ e ∷ older → Contains terms.live j → e.place ≢ j → terms.quiet < e.time → Contains (sends hosts older e) (Draw d) → e.time + terms.delivery < time_of trace → ComesTo newer j (e.time + terms.delivery) (Arrives d) ⊎ IsHeldBy hosts newer (e ∷ older) j (e.time + terms.delivery) d.name
  pub requests : (newer older : List (At Line)) (e : At Line) (j asker : ℕ) (m : NameValue) → trace ≡ newer ++ e ∷ older → Contains terms.live j → e.place ≢ j → terms.quiet < e.time → Contains (sends hosts older e) (Request asker m) → holds (host_after hosts older j) m ≡ true → e.time + terms.delivery < time_of trace → ComesTo newer j (e.time + terms.delivery) (Calls (Hear (Request asker m)))
  pub fresh_drawops : (newer older : List (At Line)) (e : At Line) (d : DrawopValue) → trace ≡ newer ++ e ∷ older → settled_by terms < e.time → e.event ≡ Arrives d → WasSent hosts older e.time terms.delivery (Draw d)
  pub fresh_requests : (newer older : List (At Line)) (e : At Line) (asker : ℕ) (m : NameValue) → trace ≡ newer ++ e ∷ older → settled_by terms < e.time → e.event ≡ Calls (Hear (Request asker m)) → WasSent hosts older e.time terms.delivery (Request asker m)

-- ---- by when it comes

-- a live place held the name once what was on its way had arrived
abbrev pub IsAnswerable : (ℕ → Start) → Terms → List (At Line) → NameValue → Type 0
IsAnswerable hosts terms trace n = (j : ℕ) × Contains terms.live j × (holds (host_after hosts (until (settled_by terms) trace) j) n ≡ true)

-- each live place has it once the trace has gone on after a time
abbrev pub AllHoldBehind : (ℕ → Start) → Terms → List (At Line) → ℕ → NameValue → Type 0
AllHoldBehind hosts terms trace time n = (newer later : List (At Line)) (i : ℕ) → trace ≡ newer ++ later → time < time_of later → Contains terms.live i → holds (host_after hosts later i) n ≡ true

-- A request for what a live place held, once it is sent late enough, brings it to all, whatever names are given up or asked for.
abbrev pub RequestIsAnswered : Type 0
RequestIsAnswered = (hosts : ℕ → Start) (terms : Terms) (trace newer older : List (At Line)) (e : At Line) (asker : ℕ) (n : NameValue) → IsTimely hosts terms trace → trace ≡ newer ++ e ∷ older → settled_by terms < e.time → settled_by terms + quiet_span terms ≤ e.time
    → Contains (sends hosts older e) (Request asker n) → IsAnswerable hosts terms trace n → AllHoldBehind hosts terms trace (e.time + answering_by terms) n

-- a name is given up at a place after a part, while its timer stands as it was
pub record IsGivenUp (hosts : ℕ → Start) (trace base : List (At Line)) (i : ℕ) (n : NameValue) (ask : AskTimer) (by : ℕ) : Type 0 where
  pub front : List (At Line)
  pub e : At Line
  pub between : List (At Line)
  pub split : trace ≡ front ++ e ∷ (between ++ base)
  pub place : e.place ≡ i
  pub line : e.event ≡ Calls (Stop n)
  pub stands : (timers_after hosts (between ++ base) i n).ask ≡ Some ask
  pub soon : e.time ≤ by

-- A request timer that stands late enough leads to such a request, or its name is given up there before. So if it is not, all come to hold the name.
abbrev pub TimerLeadsOrIsGivenUp : Type 0
TimerLeadsOrIsGivenUp = (hosts : ℕ → Start) (terms : Terms) (trace newer older : List (At Line)) (i : ℕ) (n : NameValue) (ask : AskTimer) (due : ℕ) → IsTimely hosts terms trace → trace ≡ newer ++ older → Contains terms.live i → known_from terms ≤ time_of older
    → (timers_after hosts older i n).ask ≡ Some ask → ask.due + terms.lag i ≤ due → IsAnswerable hosts terms trace n
    → AllHoldBehind hosts terms trace (max (time_of older) due + repairing terms) n ⊎ IsGivenUp hosts trace older i n ask (max (time_of older) due + terms.late)

-- ---- self-managing hosts

-- its lines, one after the other
abbrev pub performed_then : ℕ → ℕ → List Line → List (At Line) → List (At Line)
performed_then time place [] older = older
performed_then time place (line ∷ lines) older = performed_then time place lines (record { time = time; place = place; event = line } ∷ older)

-- what self-managing hosts perform: each the lines of its policy, at the time of the line that it was handed
abbrev pub performed : (ℕ → Opening) → List (At KeptLine) → List (At Line)
performed hosts [] = []
performed hosts (e ∷ older) = let k = kept_at hosts older e.place in performed_then e.time e.place (doing_of e.event (sees k.host) k.policy).lines (performed hosts older)

abbrev pub start_of : Opening → Start
start_of o = record { constants = o.constants; number = o.number; cells = o.cells; seed = o.seed; moments = o.moments }

-- if a line says a moment, the clock of its place may tell it at the time
abbrev pub SaysNow : Terms → ℕ → ℕ → KeptLine → Type 0
SaysNow terms time place (Came now v) = IsNowAt terms time place now
SaysNow terms time place (Ticked now) = IsNowAt terms time place now
SaysNow terms time place (Added now page t op) = IsNowAt terms time place now
SaysNow terms time place (Tuned constants) = Unit {0}

-- So each of them is the host that performed these lines, after the moments of its opening. If each line says a moment of its time, so does
-- each tick that is performed, and each datagram is heard at such a moment.
pub record IsPerformed (hosts : ℕ → Opening) (trace : List (At KeptLine)) : Type 0 where
  pub same : (i : ℕ) → host_after (λ j. start_of (hosts j)) (performed hosts trace) i ≡ (kept_at hosts trace i).host

pub record KeepsMoments (hosts : ℕ → Opening) (terms : Terms) (trace : List (At KeptLine)) : Type 0 where
  pub times : (newer older : List (At Line)) (e : At Line) (now : ℕ) → performed hosts trace ≡ newer ++ e ∷ older → Contains terms.live e.place → e.event ≡ Calls (Tick now) → IsNowAt terms e.time e.place now
  pub behind : (newer older : List (At Line)) (e : At Line) (v : Datagram) → performed hosts trace ≡ newer ++ e ∷ older → Contains terms.live e.place → e.event ≡ Calls (Hear v) → IsNowAt terms e.time e.place (present (host_after (λ j. start_of (hosts j)) older e.place))

abbrev pub TellTimes : Terms → List (At KeptLine) → Type 0
TellTimes terms [] = Unit {0}
TellTimes terms (e ∷ older) = (Contains terms.live e.place → SaysNow terms e.time e.place e.event) × TellTimes terms older

abbrev pub KeptIsPerformed : Type 0
KeptIsPerformed = (hosts : ℕ → Opening) (trace : List (At KeptLine)) → IsPerformed hosts trace

abbrev pub KeptKeepsMoments : Type 0
KeptKeepsMoments = (hosts : ℕ → Opening) (terms : Terms) (trace : List (At KeptLine)) → TellTimes terms trace → KeepsMoments hosts terms trace

-- A self-managing host goes by no greater delay than MOST_DELAY: it limits what echoes tell before it goes by that.
abbrev pub KeptGoByShort : Type 0
KeptGoByShort = (hosts : ℕ → Opening) (terms : Terms) (trace : List (At KeptLine)) → AreTaken hosts trace → MOST_DELAY ≤ terms.far → GoByShort (λ j. start_of (hosts j)) terms (performed hosts trace)

-- ---- by when it comes to self-managing hosts

-- What they perform keeps to the terms.
abbrev pub IsKeptTimely : (ℕ → Opening) → Terms → List (At KeptLine) → Type 0
IsKeptTimely hosts terms trace = IsTimely (λ j. start_of (hosts j)) terms (performed hosts trace)

-- a live host held the name once what was on its way had arrived
abbrev pub IsKeptAnswerable : (ℕ → Opening) → Terms → List (At KeptLine) → NameValue → Type 0
IsKeptAnswerable hosts terms trace n = IsAnswerable (λ j. start_of (hosts j)) terms (performed hosts trace) n

-- each live host has it once the calls have gone on after a time
abbrev pub AllKeptHoldBehind : (ℕ → Opening) → Terms → List (At KeptLine) → ℕ → NameValue → Type 0
AllKeptHoldBehind hosts terms trace time n = (newer later : List (At KeptLine)) (i : ℕ) → trace ≡ newer ++ later → time < time_of later → Contains terms.live i → holds (kept_at hosts later i).host n ≡ true

-- A request that a call sends late enough brings the name to all.
abbrev pub KeptRequestIsAnswered : Type 0
KeptRequestIsAnswered = (hosts : ℕ → Opening) (terms : Terms) (trace newer older : List (At KeptLine)) (e : At KeptLine) (asker : ℕ) (n : NameValue) → IsKeptTimely hosts terms trace → trace ≡ newer ++ e ∷ older → settled_by terms < e.time → settled_by terms + quiet_span terms ≤ e.time
    → Contains (sent_by_doing (doing_of e.event) (kept_at hosts older e.place)) (Request asker n) → IsKeptAnswerable hosts terms trace n → AllKeptHoldBehind hosts terms trace (e.time + answering_by terms) n

-- A request timer that stands after a call late enough does so, or its name is given up there before.
abbrev pub KeptTimerLeadsOrIsGivenUp : Type 0
KeptTimerLeadsOrIsGivenUp = (hosts : ℕ → Opening) (terms : Terms) (trace newer older : List (At KeptLine)) (i : ℕ) (n : NameValue) (ask : AskTimer) (due : ℕ) → IsKeptTimely hosts terms trace → trace ≡ newer ++ older → Contains terms.live i → known_from terms ≤ time_of older
    → (let host = (kept_at hosts older i).host in (timers_of host.is.constants (events host) n).ask) ≡ Some ask → ask.due + terms.lag i ≤ due → IsKeptAnswerable hosts terms trace n
    → AllKeptHoldBehind hosts terms trace (max (time_of older) due + repairing terms) n ⊎ IsGivenUp (λ j. start_of (hosts j)) (performed hosts trace) (performed hosts older) i n ask (max (time_of older) due + terms.late)
