-- Keepers at places, in real time: what a network and drivers keep to, so that what is lost comes by a stated time.
use Rattle.std.specs.Prelude.{◌≡◌, ◌≢◌, ◌⊎◌, ℕ, ◌+◌, ◌*◌, ◌-◌, ◌<◌, ◌≤◌, Bool, true, false, List, [], ◌∷◌, ◌++◌, Contains, max, nat_eq, IfSome, None, if◌then◌else◌}
use Rattle.wb_names.specs.Values.{NameValue, DrawopValue}
use Rattle.wb_names.specs.History.{IsHistory}
use Rattle.wb_codec.specs.declared.datagram.Datagram.{Datagram}
use Rattle.wb_codec.specs.declared.datagram.Datagram.TheVariants.{Draw, Request}
use Rattle.wb_recovery.specs.declared.tuning.Tuning.{Tuning}
use Rattle.wb_recovery.specs.declared.timers.AskTimer.{AskTimer}
use Rattle.wb_recovery.specs.declared.timers.AnswerTimer.{AnswerTimer}
use Rattle.wb_recovery.specs.declared.timers.Timers.{Timers}
use Rattle.wb_keeper.specs.Keeper.{KeeperCall, Hear, Arrive, GoOn, GiveUp, moment_at, holds}
use Rattle.wb_keeper.specs.Ticks.{sent_by_tick, stopped_after}
use Rattle.wb_progress.specs.Bounds.{AreAnswersNear}
use Rattle.wb_progress.specs.Keepers.{IsWithin}
use Rattle.wb_progress.specs.Repairs.{timers_at}
pub use Rattle.wb_progress.specs.Traces.{AreInOrder, At, time_of, until}

-- ---- the terms

-- Times in microseconds: from `quiet` on nobody draws; what is printed arrives within `delivery`; a tick is at most `late`; no delay is above
-- `far`. No request waits for more than `asking` delays at first, and no answer for more than `answering`. The clock of a place is behind the time by its `lag`, and by at most
-- `drift` more: so clocks need not go alike, and a place may begin at any time.
pub record Terms : Type 0 where
  pub live : List ℕ
  pub quiet : ℕ
  pub delivery : ℕ
  pub late : ℕ
  pub far : ℕ
  pub asking : ℕ
  pub answering : ℕ
  pub drift : ℕ
  pub lag : ℕ → ℕ

-- constants that wait as long as the terms say
abbrev pub longest : Terms → Tuning
longest terms = record { c1 = terms.asking; c2 = 0; d1 = terms.answering; d2 = 0 }

-- what was printed before `quiet` has arrived by then
abbrev pub settled_by : Terms → ℕ
settled_by terms = terms.quiet + terms.delivery

-- a moment that the clock of a place may tell at a time
pub record IsNowAt (terms : Terms) (time place moment : ℕ) : Type 0 where
  pub not_ahead : moment + terms.lag place ≤ time
  pub not_behind : time ≤ moment + terms.lag place + terms.drift

-- for so long a name may be quiet at a place
abbrev pub quiet_span : Terms → ℕ
quiet_span terms = 3 * terms.far + terms.drift

-- ---- turns

-- what a keeper accepted, the newest first, and what its member holds
pub record Desk : Type 0 where
  pub calls : List KeeperCall
  pub held : List DrawopValue

-- It is the turn of the keeper at a place: it accepts a call or none, and sends datagrams. This is its desk after it.
pub record Turn : Type 0 where
  pub desk : Desk
  pub sent : List Datagram

-- the members at the places, the constants of their timers at first, and their desks before the first turn
pub record Places : Type 0 where
  pub me : ℕ → ℕ
  pub constants : ℕ → Tuning
  pub first : ℕ → Desk

-- the desk at a place after some turns, of which the newest is the first
abbrev pub desk_at : Places → List (At Turn) → ℕ → Desk
desk_at places [] i = places.first i
desk_at places (e ∷ older) i = if nat_eq e.place i then e.event.desk else desk_at places older i

-- a name is held there
abbrev pub has : Places → List (At Turn) → ℕ → NameValue → Bool
has places turns i n = holds (desk_at places turns i).held n

-- its timers there
abbrev pub timers_there : Places → List (At Turn) → ℕ → NameValue → Timers
timers_there places turns i n = timers_at (places.me i) (places.constants i) (desk_at places turns i).calls n

-- a live place held the name once what was on its way had arrived
abbrev pub IsAnswerable : Places → Terms → List (At Turn) → NameValue → Type 0
IsAnswerable places terms turns n = (j : ℕ) × Contains terms.live j × (has places (until (settled_by terms) turns) j n ≡ true)

-- each live place has the name once the turns have gone on after a time
abbrev pub AllHoldBehind : Places → Terms → List (At Turn) → ℕ → NameValue → Type 0
AllHoldBehind places terms turns time n = (newer later : List (At Turn)) (i : ℕ) → turns ≡ newer ++ later → time < time_of later → Contains terms.live i → has places later i n ≡ true

-- ---- one turn of a live place

-- its keeper accepts this
abbrev pub Accepts : Places → List (At Turn) → At Turn → KeeperCall → Type 0
Accepts places older e call = e.event.desk.calls ≡ call ∷ (desk_at places older e.place).calls

pub record IsTurn (places : Places) (terms : Terms) (older : List (At Turn)) (e : At Turn) : Type 0 where
  -- it accepts one call at most, and what is held stays
  pub called : (e.event.desk.calls ≡ (desk_at places older e.place).calls) ⊎ ((call : KeeperCall) × Accepts places older e call)
  pub kept : (n : NameValue) → has places older e.place n ≡ true → holds e.event.desk.held n ≡ true
  -- a request is heard at a moment of its time, with what is held then
  pub heard : (now asker word : ℕ) (n : NameValue) (held : Bool) → Accepts places older e (Hear now (Request asker n) word held) → IsNowAt terms e.time e.place now × (held ≡ has places older e.place n)
  -- a tick stops what is held, and sends what is due
  pub stops : (now : ℕ) (words : List ℕ) (stopped : List NameValue) → Accepts places older e (GoOn now words stopped) → stopped ≡ stopped_after (places.me e.place) (places.constants e.place) (desk_at places older e.place).calls (desk_at places older e.place).held
  pub sends : (now : ℕ) (words : List ℕ) (stopped : List NameValue) → Accepts places older e (GoOn now words stopped)
      → (v : Datagram) → Contains (sent_by_tick (places.me e.place) (places.constants e.place) (desk_at places older e.place).calls (desk_at places older e.place).held now) v → Contains e.event.sent v

-- From `quiet` on a name with a request timer is given up only if it may be; what is sent is held, and what is asked for is not.
pub record IsQuietBut (MayStop : List (At Turn) → At Turn → NameValue → Type 0) (places : Places) (older : List (At Turn)) (e : At Turn) : Type 0 where
  pub goes_on : (now : ℕ) (n : NameValue) → Accepts places older e (GiveUp now n true) → MayStop older e n
  pub held : (d : DrawopValue) → Contains e.event.sent (Draw d) → has places older e.place d.name ≡ true
  pub asked : (asker : ℕ) (n : NameValue) → Contains e.event.sent (Request asker n) → (asker ≡ places.me e.place) × (has places older e.place n ≡ false)

-- any other name, and this one if it is not held
abbrev pub IsOtherOrLacked : Places → NameValue → List (At Turn) → At Turn → NameValue → Type 0
IsOtherOrLacked places n older e m = m ≡ n → has places older e.place n ≡ false

-- ---- the network

-- a datagram was sent so shortly before a time
pub record WasSent (turns : List (At Turn)) (time within : ℕ) (v : Datagram) : Type 0 where
  pub newer : List (At Turn)
  pub e : At Turn
  pub older : List (At Turn)
  pub split : turns ≡ newer ++ e ∷ older
  pub soon : time ≤ e.time + within
  pub sent : Contains e.event.sent v

-- a request that was sent is heard at a place
pub record IsHeardAt (places : Places) (newer : List (At Turn)) (e : At Turn) (older : List (At Turn)) (j within asker : ℕ) (n : NameValue) : Type 0 where
  pub later : List (At Turn)
  pub arrival : At Turn
  pub between : List (At Turn)
  pub split : newer ≡ later ++ arrival ∷ between
  pub place : arrival.place ≡ j
  pub soon : arrival.time ≤ e.time + within
  pub now : ℕ
  pub word : ℕ
  pub held : Bool
  pub heard : Accepts places (between ++ e ∷ older) arrival (Hear now (Request asker n) word held)

pub record IsDelivered (places : Places) (terms : Terms) (turns : List (At Turn)) : Type 0 where
  -- a drawop that is sent is held at each live place in time
  pub drawops : (newer older : List (At Turn)) (e : At Turn) (d : DrawopValue) → turns ≡ newer ++ e ∷ older → terms.quiet < e.time → Contains e.event.sent (Draw d) → AllHoldBehind places terms turns (e.time + terms.delivery) d.name
  -- a request is heard at each other live place that holds the name
  pub requests : (newer older : List (At Turn)) (e : At Turn) (asker : ℕ) (n : NameValue) (j : ℕ) → turns ≡ newer ++ e ∷ older → terms.quiet < e.time → Contains e.event.sent (Request asker n) → Contains terms.live j → e.place ≢ j → has places older j n ≡ true → e.time + terms.delivery < time_of turns
      → IsHeardAt places newer e older j terms.delivery asker n

-- What comes was sent within the time of delivery.
pub record IsFresh (places : Places) (terms : Terms) (turns : List (At Turn)) : Type 0 where
  pub drawops : (newer older : List (At Turn)) (e : At Turn) (now : ℕ) (names : List NameValue) (n : NameValue) → turns ≡ newer ++ e ∷ older → settled_by terms < e.time → Accepts places older e (Arrive now names) → Contains names n
      → (d : DrawopValue) × (d.name ≡ n) × WasSent (e ∷ older) e.time terms.delivery (Draw d)
  pub requests : (newer older : List (At Turn)) (e : At Turn) (now asker word : ℕ) (held : Bool) (n : NameValue) → turns ≡ newer ++ e ∷ older → settled_by terms < e.time → Accepts places older e (Hear now (Request asker n) word held)
      → WasSent (e ∷ older) e.time terms.delivery (Request asker n)

-- ---- drivers

-- no timer is overdue by more than this
pub record AreNotOverdue (s : Timers) (now late : ℕ) : Type 0 where
  pub ask : IfSome s.ask (λ (ask : AskTimer). now ≤ ask.due + late)
  pub answer : IfSome s.answer (λ (answer : AnswerTimer). now ≤ answer.due + late)

-- ---- all of it

-- What live places do, each by itself.
pub record AreTurns (places : Places) (terms : Terms) (turns : List (At Turn)) : Type 0 where
  pub apart : (i j : ℕ) → Contains terms.live i → Contains terms.live j → places.me i ≡ places.me j → i ≡ j
  pub turn : (newer older : List (At Turn)) (e : At Turn) → turns ≡ newer ++ e ∷ older → Contains terms.live e.place → IsTurn places terms older e
  -- from `quiet` on no call goes by a delay above `far`; the answers that stand at `quiet` end as soon as if none had before
  pub within : (newer older : List (At Turn)) (e : At Turn) (call : KeeperCall) → turns ≡ newer ++ e ∷ older → Contains terms.live e.place → terms.quiet < e.time → Accepts places older e call
      → IsWithin terms.far (longest terms) (places.me e.place) (places.constants e.place) call (desk_at places older e.place).calls
  pub near : (i : ℕ) (n : NameValue) → Contains terms.live i → AreAnswersNear (longest terms) terms.far (terms.quiet - terms.lag i) (timers_there places (until terms.quiet turns) i n)
  -- at first no clock is ahead of `quiet`, nor later of the time
  pub clock : (newer older : List (At Turn)) (i : ℕ) → turns ≡ newer ++ older → Contains terms.live i → moment_at (desk_at places older i).calls + terms.lag i ≤ max (time_of older) terms.quiet
  pub history : (newer older : List (At Turn)) (i : ℕ) → turns ≡ newer ++ older → Contains terms.live i → IsHistory (desk_at places older i).held
  pub lacking : (newer older : List (At Turn)) (i : ℕ) (n : NameValue) → turns ≡ newer ++ older → Contains terms.live i → has places older i n ≡ true → (timers_there places older i n).ask ≡ None

-- They keep to the terms, and give up names only if they may.
pub record KeepTimeBut (MayStop : List (At Turn) → At Turn → NameValue → Type 0) (places : Places) (terms : Terms) (turns : List (At Turn)) : Type 0 where
  pub order : AreInOrder turns
  pub are : AreTurns places terms turns
  pub alone : (newer older : List (At Turn)) (e : At Turn) → turns ≡ newer ++ e ∷ older → terms.quiet < e.time → Contains terms.live e.place
  pub quiet : (newer older : List (At Turn)) (e : At Turn) → turns ≡ newer ++ e ∷ older → terms.quiet < e.time → IsQuietBut MayStop places older e
  pub delivered : IsDelivered places terms turns
  pub fresh : IsFresh places terms turns
  -- from `quiet` on a tick comes once a timer is due: until a turn comes, no timer that stands is overdue
  pub soon : (newer older : List (At Turn)) (e : At Turn) (i : ℕ) (n : NameValue) → turns ≡ newer ++ e ∷ older → Contains terms.live i → terms.quiet < e.time → AreNotOverdue (timers_there places older i n) e.time (terms.lag i + terms.late)
