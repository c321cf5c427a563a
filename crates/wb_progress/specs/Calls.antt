-- What one call of a keeper makes of the timers of a name.
use Rattle.std.specs.Prelude.{◌≡◌, ◌≢◌, ◌⊎◌, ℕ, ◌+◌, ◌*◌, ◌≤◌, ◌<◌, Bool, true, List, ◌∷◌, Contains, Some, None}
use Rattle.wb_names.specs.Values.{NameValue}
use Rattle.wb_codec.specs.declared.datagram.Datagram.TheVariants.{Request}
use Rattle.wb_recovery.specs.declared.tuning.Tuning.{Tuning}
use Rattle.wb_recovery.specs.declared.timers.AskTimer.{AskTimer}
use Rattle.wb_recovery.specs.declared.timers.AnswerTimer.{AnswerTimer}
use Rattle.wb_keeper.specs.Keeper.{KeeperCall, SetDelay, SetConstants, Hear, Arrive, Miss, GoOn, Report, GiveUp, moment_at}
use Rattle.wb_progress.specs.Bounds.{AreAnswersNear}
use Rattle.wb_progress.specs.Keepers.{IsWithin}
use Rattle.wb_progress.specs.Repairs.{timers_at}

-- the name comes by the call: it arrives, a tick finds it held, or it is given up while a request timer stood for it
abbrev pub Brings : NameValue → KeeperCall → Type 0
Brings n (SetDelay source micros) = ⊥
Brings n (SetConstants constants) = ⊥
Brings n (Hear now datagram word held) = ⊥
Brings n (Arrive now held) = Contains held n
Brings n (Miss now names words) = ⊥
Brings n (GoOn now words stopped) = Contains stopped n
Brings n (Report now) = ⊥
Brings n (GiveUp now name asked) = (name ≡ n) × (asked ≡ true)

-- a tick to a moment at which a timer is due
pub record Fires (due : ℕ) (call : KeeperCall) : Type 0 where
  pub now : ℕ
  pub words : List ℕ
  pub stopped : List NameValue
  pub is : call ≡ GoOn now words stopped
  pub due_by : due ≤ now

-- another member asks for the name
pub record Requests (me : ℕ) (n : NameValue) (call : KeeperCall) : Type 0 where
  pub now : ℕ
  pub asker : ℕ
  pub word : ℕ
  pub held : Bool
  pub is : call ≡ Hear now (Request asker n) word held
  pub other : asker ≢ me

-- the name begins to be missed
pub record Misses (n : NameValue) (call : KeeperCall) : Type 0 where
  pub now : ℕ
  pub names : List NameValue
  pub words : List ℕ
  pub is : call ≡ Miss now names words
  pub named : Contains names n

-- An answer timer stands as it was set, until its name comes or it fires.
abbrev pub AnswersGoOn : Type 0
AnswersGoOn = (me : ℕ) (t : Tuning) (call : KeeperCall) (calls : List KeeperCall) (n : NameValue) (answer : AnswerTimer) → (timers_at me t calls n).answer ≡ Some answer
    → ((timers_at me t (call ∷ calls) n).answer ≡ Some answer) ⊎ (Brings n call ⊎ Fires answer.due call)

-- A request timer stands as it was set, until its name comes, and then none does; or it fires, or another member asks for the name.
abbrev pub RequestsGoOn : Type 0
RequestsGoOn = (me : ℕ) (t : Tuning) (call : KeeperCall) (calls : List KeeperCall) (n : NameValue) (ask : AskTimer) → (timers_at me t calls n).ask ≡ Some ask
    → ((timers_at me t (call ∷ calls) n).ask ≡ Some ask) ⊎ ((Brings n call × ((timers_at me t (call ∷ calls) n).ask ≡ None)) ⊎ (Fires ask.due call ⊎ Requests me n call))

-- an answer timer of the name fires
abbrev pub Answers : ℕ → Tuning → List KeeperCall → NameValue → KeeperCall → Type 0
Answers me t calls n call = (answer : AnswerTimer) × ((timers_at me t calls n).answer ≡ Some answer) × Fires answer.due call

-- A name is quiet as it was, unless it comes or is answered; then it is so for three of the greatest delays at most, from the call, or from a later moment
-- that answers were near.
abbrev pub QuietBegins : Type 0
QuietBegins = (far me : ℕ) (bound t : Tuning) (call : KeeperCall) (calls : List KeeperCall) (moment : ℕ) (n : NameValue) → IsWithin far bound me t call calls → moment_at (call ∷ calls) ≤ moment
    → AreAnswersNear bound far moment (timers_at me t calls n)
    → ((timers_at me t (call ∷ calls) n).quiet ≡ (timers_at me t calls n).quiet) ⊎ ((Brings n call ⊎ Answers me t calls n call) × ((timers_at me t (call ∷ calls) n).quiet ≤ moment + 3 * far))

-- A request timer begins to stand as the name is missed, of the lowest level; for one wait of that level at most, if the call goes by no greater delay
-- and constants.
abbrev pub RequestsBegin : Type 0
RequestsBegin = (far me : ℕ) (bound t : Tuning) (call : KeeperCall) (calls : List KeeperCall) (n : NameValue) (ask : AskTimer) → (timers_at me t calls n).ask ≡ None → (timers_at me t (call ∷ calls) n).ask ≡ Some ask
    → Misses n call × (IsWithin far bound me t call calls → ask.due ≤ moment_at (call ∷ calls) + (bound.c1 + bound.c2) * far) × (ask.level ≡ 0)

-- A request for a held name finds it quiet, or an answer timer stands after it, due within the waits of an answer from the request, or from a later
-- moment that answers were near.
abbrev pub RequestsAreHeard : Type 0
RequestsAreHeard = (far me : ℕ) (bound t : Tuning) (calls : List KeeperCall) (now asker word moment : ℕ) (n : NameValue) → asker ≢ me
    → let call = Hear now (Request asker n) word true in
    IsWithin far bound me t call calls → now ≤ moment → AreAnswersNear bound far moment (timers_at me t calls n)
    → (now < (timers_at me t calls n).quiet) ⊎ ((answer : AnswerTimer) × ((timers_at me t (call ∷ calls) n).answer ≡ Some answer) × (answer.due ≤ moment + (bound.d1 + bound.d2) * far))
