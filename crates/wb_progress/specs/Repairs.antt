-- How a keeper comes to ask for a name, and how one that holds it comes to answer.
use Rattle.std.specs.Prelude.{◌≡◌, ℕ, ◌+◌, ◌^◌, ◌≤◌, true, false, IfSome, is_some, List, [], ◌∷◌, Contains, Some, None}
use Rattle.wb_names.specs.Values.{NameValue, DrawopValue}
use Rattle.wb_names.specs.History.{IsHistory}
use Rattle.wb_codec.specs.declared.datagram.Datagram.TheVariants.{Draw, Request}
use Rattle.wb_recovery.specs.Events.{timers_of}
use Rattle.wb_recovery.specs.Timing.{are_constants, is_ask_due, is_answer_due, new_answer}
use Rattle.wb_recovery.specs.declared.tuning.Tuning.{Tuning}
use Rattle.wb_recovery.specs.declared.timers.Timers.{Timers}
use Rattle.wb_keeper.specs.GivingUp.{is_asked}
use Rattle.wb_keeper.specs.Keeper.{KeeperCall, Hear, Miss, GoOn, GiveUp, moment_at, delay_to, events_of, holds}
use Rattle.wb_keeper.specs.Ticks.{sent_by_tick, stopped_after}
use Rattle.wb_progress.specs.Keepers.{AreOrderly, constants_at}

-- the timers of a name at a keeper
abbrev pub timers_at : ℕ → Tuning → List KeeperCall → NameValue → Timers
timers_at me t calls n = timers_of t (events_of me calls) n

-- the calls once time went on to a moment
abbrev pub gone_on : ℕ → Tuning → List KeeperCall → List DrawopValue → ℕ → List ℕ → List KeeperCall
gone_on me t calls history now words = GoOn now words (stopped_after me t calls history) ∷ calls

-- the calls once a name is given up
abbrev pub gave_up : ℕ → Tuning → List KeeperCall → ℕ → NameValue → List KeeperCall
gave_up me t calls now n = GiveUp now n (is_asked (timers_of t (events_of me calls)) n) ∷ calls

-- ---- one call

-- A tick asks for a name that is not held, once its request timer is due.
abbrev pub TicksAsk : Type 0
TicksAsk = (me : ℕ) (t : Tuning) (calls : List KeeperCall) (history : List DrawopValue) (now : ℕ) (n : NameValue) → is_ask_due now (timers_at me t calls n).ask ≡ true → holds history n ≡ false
    → Contains (sent_by_tick me t calls history now) (Request me n)

-- A tick sends a drawop that is held, once its answer timer is due, if no request timer stands for its name.
abbrev pub TicksAnswer : Type 0
TicksAnswer = (me : ℕ) (t : Tuning) (calls : List KeeperCall) (history : List DrawopValue) (now : ℕ) (d : DrawopValue) → IsHistory history → Contains history d → (timers_at me t calls d.name).ask ≡ None → is_answer_due now (timers_at me t calls d.name).answer ≡ true
    → Contains (sent_by_tick me t calls history now) (Draw d)

-- no timer of the name stands
pub record IsIdle (s : Timers) : Type 0 where
  pub ask : s.ask ≡ None
  pub answer : s.answer ≡ None

-- After a tick no timer stands for a name that is held, but an answer timer that is not due.
abbrev pub TicksClear : Type 0
TicksClear = (me : ℕ) (t : Tuning) (calls : List KeeperCall) (history : List DrawopValue) (now : ℕ) (words : List ℕ) (n : NameValue) → holds history n ≡ true → IfSome (timers_at me t calls n).answer (λ answer. answer.due ≤ now)
    → IsIdle (timers_at me t (gone_on me t calls history now words) n)

-- After a tick no answer timer stands that was due.
abbrev pub TicksEnd : Type 0
TicksEnd = (me : ℕ) (t : Tuning) (calls : List KeeperCall) (history : List DrawopValue) (now : ℕ) (words : List ℕ) (n : NameValue) → IfSome (timers_at me t calls n).answer (λ answer. answer.due ≤ now)
    → (timers_at me t (gone_on me t calls history now words) n).answer ≡ None

-- A tick leaves a name for which no timer stands.
abbrev pub TicksLeave : Type 0
TicksLeave = (me : ℕ) (t : Tuning) (calls : List KeeperCall) (history : List DrawopValue) (now : ℕ) (words : List ℕ) (n : NameValue) → IsIdle (timers_at me t calls n)
    → timers_at me t (gone_on me t calls history now words) n ≡ timers_at me t calls n

-- A request of another member for a held name that is not quiet sets an answer timer, if no timer stands.
abbrev pub RequestsSet : Type 0
RequestsSet = (me : ℕ) (t : Tuning) (calls : List KeeperCall) (now asker word : ℕ) (n : NameValue) → (asker ≡ me → ⊥) → IsIdle (timers_at me t calls n) → (timers_at me t calls n).quiet ≤ now
    → timers_at me t (Hear now (Request asker n) word true ∷ calls) n ≡ record { ask = None; answer = Some (new_answer (constants_at me t calls) now (delay_to me calls asker) word); quiet = (timers_at me t calls n).quiet }

-- A name that is missed has a request timer.
abbrev pub MissesStand : Type 0
MissesStand = (me : ℕ) (t : Tuning) (calls : List KeeperCall) (now word : ℕ) (n : NameValue) → is_some (timers_at me t (Miss now (n ∷ []) (word ∷ []) ∷ calls) n).ask ≡ true

-- ---- a repair

-- in microseconds: no request timer stands further ahead, no answer timer does, and no name is quiet for longer
abbrev pub asking_wait : ℕ
asking_wait = 2 ^ 45

abbrev pub answering_wait : ℕ
answering_wait = 2 ^ 29

abbrev pub quiet_wait : ℕ
quiet_wait = 2 ^ 26

-- A request timer that was just set stands no further ahead than an answer timer.
abbrev pub first_wait : ℕ
first_wait = answering_wait

-- A keeper with a request timer for a name that is not held asks for it, once time went on for that long.
abbrev pub AskerAsks : Type 0
AskerAsks = (me : ℕ) (t : Tuning) (calls : List KeeperCall) (history : List DrawopValue) (n : NameValue) → are_constants t ≡ true → AreOrderly calls → holds history n ≡ false → is_some (timers_at me t calls n).ask ≡ true
    → Contains (sent_by_tick me t calls history (moment_at calls + asking_wait)) (Request me n)

-- A name that is given up has no timer, if no answer timer stood.
abbrev pub GivenUpIsIdle : Type 0
GivenUpIsIdle = (me : ℕ) (t : Tuning) (calls : List KeeperCall) (now : ℕ) (n : NameValue) → (timers_at me t calls n).answer ≡ None → IsIdle (timers_at me t (gave_up me t calls now n) n)

-- One that is then missed anew is asked for soon.
abbrev pub AskedAnewIsSoon : Type 0
AskedAnewIsSoon = (me : ℕ) (t : Tuning) (calls : List KeeperCall) (history : List DrawopValue) (n : NameValue) (word : ℕ) → are_constants t ≡ true → AreOrderly calls → holds history n ≡ false → (timers_at me t calls n).answer ≡ None
    → let anew = Miss (moment_at calls) (n ∷ []) (word ∷ []) ∷ gave_up me t calls (moment_at calls) n in
    Contains (sent_by_tick me t anew history (moment_at calls + first_wait)) (Request me n)

-- No answer timer stands further ahead.
abbrev pub AnswersAreSoon : Type 0
AnswersAreSoon = (me : ℕ) (t : Tuning) (calls : List KeeperCall) (n : NameValue) → are_constants t ≡ true → AreOrderly calls → IfSome (timers_at me t calls n).answer (λ answer. answer.due ≤ moment_at calls + answering_wait)

-- The holder of a drawop gets two ticks, so that no timer of its name stands and it is not quiet; it hears a request of another;
-- and once time went on again it sends the drawop.
abbrev pub HolderAnswers : Type 0
HolderAnswers = (me : ℕ) (t : Tuning) (calls : List KeeperCall) (history : List DrawopValue) (d : DrawopValue) (asker : ℕ) (words more : List ℕ) (word : ℕ) → are_constants t ≡ true → AreOrderly calls → IsHistory history → Contains history d → (asker ≡ me → ⊥)
    → let first = moment_at calls + answering_wait in
    let second = first + quiet_wait in
    let cleared = gone_on me t calls history first words in
    let quiet = gone_on me t cleared history second more in
    Contains (sent_by_tick me t (Hear second (Request asker d.name) word true ∷ quiet) history (second + answering_wait)) (Draw d)
