-- What follows one after the other, from what a call asks for and gives up to where a session is whole.
use Rattle.std.specs.Prelude.{◌≡◌, ◌≢◌, ◌⊎◌, ℕ, ◌+◌, ◌*◌, ◌<◌, ◌≤◌, true, false, List, ◌∷◌, ◌++◌, Contains, Some, length}
use Rattle.wb_names.specs.Values.{NameValue}
use Rattle.wb_recovery.specs.declared.timers.AskTimer.{AskTimer}
use Rattle.wb_progress.specs.InTime.{known_from, repairing}
use Rattle.wb_progress.specs.Turns.{IsNowAt, Terms, settled_by}
use Rattle.wb_member.specs.Judged.{holds}
use Rattle.wb_member.specs.Opened.{present}
use Rattle.wb_member.specs.declared.calls.Call.TheVariants.{Ask, Stop}
use Rattle.wb_policy.specs.Credit.{has_credit, spent}
use Rattle.wb_policy.specs.Fairness.{name_in_turn}
use Rattle.wb_keeping.specs.Kept.{Line, Calls}
use Rattle.wb_keeping.specs.Laws.{KeptLine, doing_of}
use Rattle.wb_keeping.specs.Performing.{Keeping, sees, view_of}
use Rattle.wb_policy.specs.Wanting.{oldest}
use Rattle.wb_policy.specs.declared.wanting.AskedName.{AskedName}
use Rattle.wb_kept_progress.specs.Sessions.{Opening}
use Rattle.wb_kept_progress.specs.Timed.{At, IsTimely, performed, performed_then, start_of, time_of}
pub use Rattle.wb_kept_progress.specs.Promises.{Holds, IsAsking, IsForAnother, IsLate, IsStill, host_then, timer_then}
use Rattle.wb_kept_progress.proofs.Moments.{moment_of}
use Rattle.wb_kept_progress.specs.Whole.{IsHeldBySome, IsTimelySession, Sizes, WaitAtMost, request_span, there, wanting}

-- ---- calls and their lines

-- the lines that a call performs
abbrev pub does : (ℕ → Opening) → At KeptLine → List (At KeptLine) → List Line
does hosts e older = let k = there hosts older e.place in (doing_of e.event (sees k.host) k.policy).lines

-- the call of a line
pub record IsOfCall (hosts : ℕ → Opening) (trace : List (At KeptLine)) (x : At Line) (back : List (At Line)) : Type 0 where
  pub newer : List (At KeptLine)
  pub e : At KeptLine
  pub older : List (At KeptLine)
  pub split : trace ≡ newer ++ e ∷ older
  pub before : List Line
  pub later : List Line
  pub lines : does hosts e older ≡ before ++ x.event ∷ later
  pub place : x.place ≡ e.place
  pub time : x.time ≡ e.time
  pub back_is : back ≡ performed_then e.time e.place before (performed hosts older)

abbrev pub LinesHaveCalls : Type 0
LinesHaveCalls = (hosts : ℕ → Opening) (trace : List (At KeptLine)) (front : List (At Line)) (x : At Line) (back : List (At Line)) → performed hosts trace ≡ front ++ x ∷ back → IsOfCall hosts trace x back

-- Of a session that keeps to times, the lines that are performed do.
abbrev pub PerformedIsTimely : Type 0
PerformedIsTimely = (hosts : ℕ → Opening) (terms : Terms) (trace : List (At KeptLine)) → IsTimelySession hosts terms trace → IsTimely (λ j. start_of (hosts j)) terms (performed hosts trace)

-- Nothing new comes: what a live host holds, one of them held once what was on its way had arrived.
abbrev pub HeldWasHeld : Type 0
HeldWasHeld = (hosts : ℕ → Opening) (terms : Terms) (trace newer older : List (At KeptLine)) (i : ℕ) (n : NameValue) → IsTimelySession hosts terms trace → trace ≡ newer ++ older → Contains terms.live i → holds (there hosts older i).host n ≡ true → IsHeldBySome hosts terms trace n

-- ---- why a name is asked for, and why it is given up

-- a turn is due by the clock, and it is the name that has it
pub record HasTurn (k : Keeping) (now : ℕ) (n : NameValue) : Type 0 where
  pub due : k.policy.pace.due ≤ now
  pub named : name_in_turn k.host.is.held k.policy.turns ≡ Some n

-- Some live host holds it, or it has its turn, or a drawop came that was new.
abbrev pub AsksHaveCause : Type 0
AsksHaveCause = (hosts : ℕ → Opening) (terms : Terms) (trace newer older : List (At KeptLine)) (e : At KeptLine) (n : NameValue) → IsTimelySession hosts terms trace → trace ≡ newer ++ e ∷ older → settled_by terms < e.time → Contains (does hosts e older) (Calls (Ask n))
    → IsHeldBySome hosts terms trace n ⊎ (HasTurn (there hosts older e.place) (moment_of e.event) n ⊎ ((there hosts (e ∷ older) e.place).host.is.held ≢ (there hosts older e.place).host.is.held))

-- It was backed off four times or more, or of 64 or more that are asked for it was backed off most and is the first of these.
abbrev pub StopsHaveCause : Type 0
StopsHaveCause = (hosts : ℕ → Opening) (terms : Terms) (trace : List (At KeptLine)) (front : List (At Line)) (x : At Line) (back : List (At Line)) (n : NameValue) → IsTimelySession hosts terms trace → Contains terms.live x.place → terms.quiet < x.time
    → performed hosts trace ≡ front ++ x ∷ back → x.event ≡ Calls (Stop n)
    → ((ask : AskTimer) × (timer_then hosts back x.place n ≡ Some ask) × (4 ≤ ask.level))
    ⊎ ((64 ≤ length (view_of (host_then hosts back x.place)).asked) × (a : AskedName) × (oldest (view_of (host_then hosts back x.place)).asked ≡ Some a) × (a.name ≡ n))

-- What a call spends of the credit: something for what some live host holds, nothing, or one ask in turn; or a drawop came that was new.
abbrev pub CreditIsSpent : Type 0
CreditIsSpent = (hosts : ℕ → Opening) (terms : Terms) (trace newer older : List (At KeptLine)) (e : At KeptLine) → IsTimelySession hosts terms trace → trace ≡ newer ++ e ∷ older → settled_by terms < e.time
    → let k = there hosts older e.place in
    let next = there hosts (e ∷ older) e.place in
    ((n : NameValue) × Contains (does hosts e older) (Calls (Ask n)) × IsHeldBySome hosts terms trace n)
    ⊎ ((next.host.is.held ≢ k.host.is.held)
    ⊎ ((next.policy.owed ≤ k.policy.owed)
    ⊎ ((k.policy.pace.due ≤ moment_of e.event) × (next.policy.owed ≤ spent k.policy.owed (moment_of e.event)))))

-- ---- timers

-- A request timer for what some hold was not backed off since requests are answered, or they are answered soon.
abbrev pub TimersAreYoung : Type 0
TimersAreYoung = (hosts : ℕ → Opening) (terms : Terms) (trace : List (At KeptLine)) (front back : List (At Line)) (i wait : ℕ) (n : NameValue) (ask : AskTimer) → IsTimely (λ j. start_of (hosts j)) terms (performed hosts trace) → WaitAtMost hosts terms trace wait
    → performed hosts trace ≡ front ++ back → Contains terms.live i → known_from terms + wait + terms.late < time_of back → IsHeldBySome hosts terms trace n → timer_then hosts back i n ≡ Some ask
    → (ask.level ≡ 0) ⊎ ((newer later : List (At Line)) (j : ℕ) → performed hosts trace ≡ newer ++ later → time_of back + repairing terms < time_of later → Contains terms.live j → holds (host_then hosts later j) n ≡ true)

-- ---- while nothing new comes

-- It does not go on for long where a live host asks for what another holds.
abbrev pub StillnessEnds : Type 0
StillnessEnds = (hosts : ℕ → Opening) (terms : Terms) (trace newest window base : List (At KeptLine)) (sizes : Sizes) (wait most i : ℕ) (back : List (At Line)) → Holds hosts terms trace sizes wait most → IsStill hosts terms trace newest window base → IsLate terms sizes wait base
    → Contains terms.live i → IsAsking hosts terms trace (window ++ base) i back → time_of base + request_span terms < time_of back
    → time_of (window ++ base) ≤ time_of back + sizes.gives * request_span terms + repairing terms

-- There is no credit behind the newest call, which is one of this host.
abbrev pub HasNoCredit : (ℕ → Opening) → Terms → List (At KeptLine) → ℕ → Type 0
HasNoCredit hosts terms calls i = let k = there hosts calls i in IsNowAt terms (time_of calls) i (present k.host) × (has_credit k.policy.owed (present k.host) ≡ false)

-- Where there is no credit behind a call, what another holds was asked for lately.
abbrev pub NoCreditIsAsked : Type 0
NoCreditIsAsked = (hosts : ℕ → Opening) (terms : Terms) (trace newest window base front part : List (At KeptLine)) (sizes : Sizes) (wait most i : ℕ) → Holds hosts terms trace sizes wait most → IsStill hosts terms trace newest window base
    → known_from terms + wait + repairing terms ≤ time_of base → Contains terms.live i → window ≡ front ++ part → time_of base + 21000000 + terms.drift < time_of (part ++ base)
    → HasNoCredit hosts terms (part ++ base) i
    → (back : List (At Line)) × IsAsking hosts terms trace (window ++ base) i back × (time_of (part ++ base) ≤ time_of back + 21000000 + terms.drift)

-- behind a call a live host asks for what another holds, or has no credit
pub record IsWanting (hosts : ℕ → Opening) (terms : Terms) (trace window base : List (At KeptLine)) (i from by : ℕ) : Type 0 where
  pub front : List (At KeptLine)
  pub part : List (At KeptLine)
  pub split : window ≡ front ++ part
  pub behind : from < time_of (part ++ base)
  pub soon : time_of (part ++ base) ≤ by
  pub wants : ((back : List (At Line)) × IsAsking hosts terms trace (window ++ base) i back × (time_of back ≡ time_of (part ++ base))) ⊎ HasNoCredit hosts terms (part ++ base) i

-- What a live host lacks is wanted in time.
abbrev pub LackIsWanted : Type 0
LackIsWanted = (hosts : ℕ → Opening) (terms : Terms) (trace newest window base : List (At KeptLine)) (sizes : Sizes) (wait most i from : ℕ) (n : NameValue) → Holds hosts terms trace sizes wait most → IsStill hosts terms trace newest window base
    → IsLate terms sizes wait base → Contains terms.live i → IsHeldBySome hosts terms trace n → holds (there hosts base i).host n ≡ false → time_of base ≤ from
    → (let by = from + wanting terms sizes in by < time_of (window ++ base) → IsWanting hosts terms trace window base i from by)
