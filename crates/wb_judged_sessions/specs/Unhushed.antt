-- Nothing is hushed of a name while it is firm: a repair for which a timer stands is sent, and so is a request, whatever others send.
use Rattle.std.specs.Prelude.{◌≡◌, ◌⊎◌, ◌≤◌, ◌<◌, ℕ, ◌+◌, ◌*◌, true, false, All, Contains, List, [], ◌∷◌, ◌++◌, Some}
use Rattle.wb_names.specs.Orders.{same_name}
use Rattle.wb_names.specs.Values.{DrawopValue, NameValue}
use Rattle.wb_codec.specs.declared.datagram.Datagram.{Datagram}
use Rattle.wb_codec.specs.declared.datagram.Datagram.TheVariants.{Draw, Request}
use Rattle.wb_recovery.specs.Events.{timers_of}
use Rattle.wb_recovery.specs.declared.timers.AnswerTimer.{AnswerTimer}
use Rattle.wb_recovery.specs.declared.timers.AskTimer.{AskTimer}
use Rattle.wb_recovery.specs.declared.timers.Timers.{Timers}
use Rattle.wb_judge.specs.Firm.{is_firm_beside, present as others_present, turn_at, turns}
use Rattle.wb_judge.specs.Judge.{is_firm}
use Rattle.wb_judge.specs.declared.limits.TheConstants.{FIRM_TIME}
use Rattle.wb_member.specs.Judged.{holds, is_full}
use Rattle.wb_member.specs.Opened.{events, present}
use Rattle.wb_member.specs.declared.calls.Call.TheVariants.{Stop}
use Rattle.wb_recovery.specs.declared.limits.TheConstants.{MOST_TIMERS}
use Rattle.wb_policy.specs.declared.limits.TheConstants.{OLD_LEVEL}
use Rattle.wb_keeping.specs.Bounds.{timer_count}
use Rattle.wb_keeping.specs.Kept.{Calls, Line}
use Rattle.wb_keeping.specs.Laws.{doing_of}
use Rattle.wb_keeping.specs.Performing.{after_lines, sees}
use Rattle.wb_judging.specs.Handing.{handed}
use Rattle.wb_judging.specs.Judged.{Judged}
use Rattle.wb_judging.specs.declared.call.Call.{Call}
use Rattle.wb_judging.specs.declared.call.Call.TheVariants.{CameFrom, Held, Passed, UserDrew}
use Rattle.wb_judging.specs.Laws.{drawops_in, sends_in}
use Rattle.wb_judging.specs.Performing.{after_judged, events_of}
use Rattle.wb_judged_sessions.specs.Calls.{JudgedCall, Starts, Takes, Tunes}
use Rattle.wb_judged_sessions.specs.Sessions.{At, judged_at}
use Rattle.wb_judged_sessions.specs.Terms.{AreTaken}

-- ---- calls of one member

-- Each of some newer calls at a place is such.
abbrev pub AllAre : (JudgedCall → Judged → Type 0) → (ℕ → ℕ) → (place : ℕ) → (newer older : List (At JudgedCall)) → Type 0
AllAre Is numbers place [] older = Unit {0}
AllAre Is numbers place (e ∷ newer) older = (e.place ≡ place → Is e.event (judged_at numbers (newer ++ older) place)) × AllAre Is numbers place newer older

-- One of them is a line that is such.
pub record OneIs (Is : Call → Judged → Type 0) (numbers : ℕ → ℕ) (place : ℕ) (newer older : List (At JudgedCall)) : Type 0 where
  pub later : List (At JudgedCall)
  pub call : At JudgedCall
  pub earlier : List (At JudgedCall)
  pub split : newer ≡ later ++ call ∷ earlier
  pub here : call.place ≡ place
  pub line : Call
  pub takes : call.event ≡ Takes line
  pub is : Is line (judged_at numbers (earlier ++ older) place)

-- What comes before a moment comes at such moments. The program does not start, and no line of a record has a drawop of the name.
abbrev pub ComesWhen : (ℕ → Judged → Type 0) → (until : ℕ) → NameValue → JudgedCall → Judged → Type 0
ComesWhen When until name (Starts start given) h = ⊥
ComesWhen When until name (Takes (CameFrom now o v)) h = now < until → When now h
ComesWhen When until name (Takes (Passed now news)) h = Unit {0}
ComesWhen When until name (Takes (UserDrew now page op)) h = Unit {0}
ComesWhen When until name (Takes (Held line)) h = All (λ d. same_name d.name name ≡ false) (drawops_in line)
ComesWhen When until name (Tunes constants) h = Unit {0}

-- The name is firm then.
abbrev pub IsFirmAt : NameValue → ℕ → Judged → Type 0
IsFirmAt name now h = is_firm name now h.judge ≡ true

-- What comes before a moment comes while a name is firm.
abbrev pub StaysFirm : (until : ℕ) → NameValue → (ℕ → ℕ) → (place : ℕ) → (newer older : List (At JudgedCall)) → Type 0
StaysFirm until name = AllAre (ComesWhen (IsFirmAt name) until name)

abbrev pub Sends : Datagram → Call → Judged → Type 0
Sends v line h = Contains (sends_in (events_of line h)) v

abbrev pub timers_at : Judged → NameValue → Timers
timers_at h name = timers_of h.kept.host.is.constants (events h.kept.host) name

-- ---- a repair

-- It holds a drawop, and a timer stands to send it at a moment to come.
pub record IsToRepair (d : DrawopValue) (answer : AnswerTimer) (h : Judged) : Type 0 where
  pub held : Contains h.kept.host.is.held d
  pub timer : (timers_at h d.name).answer ≡ Some answer
  pub ahead : present h.kept.host < answer.due

-- While the name is firm, whatever comes: it has sent the drawop, or the timer stands as it was, and its moment is still to come. So the first call at
-- that moment or later sends it.
abbrev pub RepairsAreSent : Type 0
RepairsAreSent = (numbers : ℕ → ℕ) (newer older : List (At JudgedCall)) (place : ℕ) (d : DrawopValue) (answer : AnswerTimer)
    → IsToRepair d answer (judged_at numbers older place) → StaysFirm answer.due d.name numbers place newer older
    → OneIs (Sends (Draw d)) numbers place newer older ⊎ IsToRepair d answer (judged_at numbers (newer ++ older) place)

-- ---- a request

-- It lacks a drawop, and a timer stands to request it at a moment to come.
pub record IsToRequest (name : NameValue) (ask : AskTimer) (h : Judged) : Type 0 where
  pub lacks : holds h.kept.host name ≡ false
  pub timer : (timers_at h name).ask ≡ Some ask
  pub ahead : present h.kept.host < ask.due

-- the lines that its kept member performs
abbrev pub kept_lines : Call → Judged → List Line
kept_lines line h = (doing_of (handed line h) (sees h.kept.host) h.kept.policy).lines

-- One of them gives the name up: its timer is old or 64 stand, so that it starts anew or gives way to another name; or the board is full.
pub record GivesUp (name : NameValue) (ask : AskTimer) (line : Call) (h : Judged) : Type 0 where
  pub before : List Line
  pub later : List Line
  pub split : kept_lines line h ≡ before ++ Calls (Stop name) ∷ later
  pub why : (OLD_LEVEL ≤ ask.level) ⊎ (MOST_TIMERS ≤ timer_count (after_lines before h.kept.host)) ⊎ (is_full (after_judged line h).kept.host ≡ true)

-- The request is sent, the drawop is held then, or the name is given up.
abbrev pub EndsRequest : NameValue → AskTimer → Call → Judged → Type 0
EndsRequest name ask line h = Sends (Request h.kept.host.is.number name) line h ⊎ (holds (after_judged line h).kept.host name ≡ true) ⊎ GivesUp name ask line h

-- While the name is firm, whatever comes: one call ended it so, or the timer stands as it was, and its moment is still to come. No request of others
-- puts it off.
abbrev pub RequestsAreSent : Type 0
RequestsAreSent = (numbers : ℕ → ℕ) (newer older : List (At JudgedCall)) (place : ℕ) (name : NameValue) (ask : AskTimer) → AreTaken numbers (newer ++ older)
    → IsToRequest name ask (judged_at numbers older place) → StaysFirm ask.due name numbers place newer older
    → OneIs (EndsRequest name ask) numbers place newer older ⊎ IsToRequest name ask (judged_at numbers (newer ++ older) place)

-- ---- turns

-- The number of others that are here is this one.
abbrev pub AreBeside : (others : ℕ) → ℕ → Judged → Type 0
AreBeside others now h = others_present now h.judge.others ≡ others

-- It is this turn, and the number of others is this one.
abbrev pub IsInTurn : (turn others : ℕ) → ℕ → Judged → Type 0
IsInTurn turn others now h = (turn_at now ≡ turn) × AreBeside others now h

-- Each name has its turn at a member: while the number of others stays, it is firm for all of one of the next turns, of two seconds each.
abbrev pub TurnsAreFirm : Type 0
TurnsAreFirm = (numbers : ℕ → ℕ) (place : ℕ) (name : NameValue) (others now : ℕ)
    → (wait : ℕ) × (wait < turns others)
    × ((newer older : List (At JudgedCall)) (until : ℕ) → AllAre (ComesWhen (IsInTurn (turn_at now + wait) others) until name) numbers place newer older → StaysFirm until name numbers place newer older)

-- What is firm stays firm to the end of its turn, while the number of others stays.
abbrev pub FirmForItsTurn : Type 0
FirmForItsTurn = (numbers : ℕ → ℕ) (newer older : List (At JudgedCall)) (place : ℕ) (name : NameValue) (others until : ℕ) → AreTaken numbers (newer ++ older)
    → let now = present (judged_at numbers older place).kept.host in
    is_firm_beside others (numbers place) name now ≡ true → until ≤ (turn_at now + 1) * FIRM_TIME
    → AllAre (ComesWhen (AreBeside others) until name) numbers place newer older → StaysFirm until name numbers place newer older
