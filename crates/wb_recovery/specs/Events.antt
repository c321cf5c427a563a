-- Timers, read off the list of accepted calls, the newest first.
use Rattle.std.specs.Prelude.{◌≡◌, ℕ, ◌≤◌, Bool, true, false, ◌||◌, Option, Some, None, List, [], ◌∷◌, ◌++◌, map, filter, count_by, slice_index, is_some, if◌then◌else◌}
use Rattle.std.specs.BTreeSet.{insert_key}
use Rattle.std.specs.Ordering.{is_lt}
use Rattle.wb_names.specs.Values.{NameValue}
use Rattle.wb_names.specs.Orders.{same_name, name_cmp}
use Rattle.wb_recovery.specs.Timing.{no_timers, ask_due, answer_due, is_standing, is_set_to, is_ask_due, is_answer_due, noticed, asked, got, ticked}
use Rattle.wb_recovery.specs.declared.tuning.Tuning.{Tuning}
use Rattle.wb_recovery.specs.declared.timers.Timers.{Timers}
use Rattle.wb_recovery.specs.declared.plan.Action.{Action}
use Rattle.wb_recovery.specs.declared.plan.Action.TheVariants.{Ask, Answer}

-- an accepted call: a name is missed, is asked for by another member, has come; time goes on; the constants change
pub data Event : Type 0 where
  Notice : (name : NameValue) (now delay word : ℕ) → Event
  Asked : (name : NameValue) (held : Bool) (now delay word : ℕ) → Event
  Got : (name : NameValue) (now delay : ℕ) → Event
  Tick : (now : ℕ) (words : List ℕ) → Event
  Tune : (constants : Tuning) → Event

-- the constants after these calls, which were others at first
abbrev pub constants_after : Tuning → List Event → Tuning
constants_after t [] = t
constants_after t (Notice name now delay word ∷ events) = constants_after t events
constants_after t (Asked name held now delay word ∷ events) = constants_after t events
constants_after t (Got name now delay ∷ events) = constants_after t events
constants_after t (Tick now words ∷ events) = constants_after t events
constants_after t (Tune constants ∷ events) = constants

-- the moment of the last call that names one, or 0
abbrev pub moment_of : List Event → ℕ
moment_of [] = 0
moment_of (Notice name now delay word ∷ events) = now
moment_of (Asked name held now delay word ∷ events) = now
moment_of (Got name now delay ∷ events) = now
moment_of (Tick now words ∷ events) = now
moment_of (Tune constants ∷ events) = moment_of events

-- the names that were missed, or asked for while held, ascending
abbrev pub names_of : List Event → List NameValue
names_of [] = []
names_of (Notice name now delay word ∷ events) = insert_key name_cmp (names_of events) name
names_of (Asked name false now delay word ∷ events) = names_of events
names_of (Asked name true now delay word ∷ events) = insert_key name_cmp (names_of events) name
names_of (Got name now delay ∷ events) = names_of events
names_of (Tick now words ∷ events) = names_of events
names_of (Tune constants ∷ events) = names_of events

-- Of some names with their timers: those with a request timer, those whose request is due, those whose answer is due.
abbrev pub asking : List NameValue → (NameValue → Timers) → List NameValue
asking names timers = filter (λ n. is_some (timers n).ask) names

abbrev pub due_asks : List NameValue → (NameValue → Timers) → ℕ → List NameValue
due_asks names timers now = filter (λ n. is_ask_due now (timers n).ask) names

abbrev pub due_answers : List NameValue → (NameValue → Timers) → ℕ → List NameValue
due_answers names timers now = filter (λ n. is_answer_due now (timers n).answer) names

-- a timer of the name is due at this very moment
abbrev pub is_due_at : ℕ → Timers → Bool
is_due_at d s = is_set_to d (ask_due s) || is_set_to d (answer_due s)

-- the least moment at which some name's timer is due, or None where no timer stands
abbrev pub IsNextDue : (NameValue → Timers) → Option ℕ → Type 0
IsNextDue timers None = (n : NameValue) → is_standing (timers n) ≡ false
IsNextDue timers (Some d) = (n : NameValue) × (is_due_at d (timers n) ≡ true) × ((m : NameValue) (e : ℕ) → is_due_at e (timers m) ≡ true → d ≤ e)

-- how many of these names are smaller
abbrev pub smaller : List NameValue → NameValue → ℕ
smaller names n = count_by (λ m. is_lt (name_cmp m n)) names

-- the word of a name, where these names fire a request: the one numbered by how many of them are smaller
abbrev pub word_for : List ℕ → List NameValue → NameValue → ℕ
word_for words firing n = slice_index words (smaller firing n)

-- the timers of a name, with these constants at first: each call takes those of its time, and a timer that stands keeps its moment
abbrev pub timers_of : Tuning → List Event → NameValue → Timers
timers_of t [] n = no_timers
timers_of t (Notice name now delay word ∷ events) n = if same_name name n then noticed (constants_after t events) now delay word (timers_of t events n) else timers_of t events n
timers_of t (Asked name held now delay word ∷ events) n = if same_name name n then asked (constants_after t events) held now delay word (timers_of t events n) else timers_of t events n
timers_of t (Got name now delay ∷ events) n = if same_name name n then got now delay (timers_of t events n) else timers_of t events n
timers_of t (Tick now words ∷ events) n = ticked (constants_after t events) now (word_for words (due_asks (names_of events) (λ m. timers_of t events m) now) n) (timers_of t events n)
timers_of t (Tune constants ∷ events) n = timers_of t events n

-- the actions of a tick: a request for each name whose request is due, ascending, and then the answers that are due
abbrev pub actions_of : Tuning → List Event → ℕ → List Action
actions_of t events now = map Ask (due_asks (names_of events) (timers_of t events) now) ++ map Answer (due_answers (names_of events) (timers_of t events) now)
