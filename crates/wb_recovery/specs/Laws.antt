-- Laws of the timers, over any list of calls: each tells the timers by the calls themselves, and not step by step.
use Rattle.std.specs.Prelude.{◌≡◌, ℕ, ◌+◌, ◌<◌, Bool, true, false, ◌&&◌, ◌||◌, List, [], ◌∷◌, Option, Some, None, IfSome, is_some, is_none, min, nat_le, Contains, if◌then◌else◌}
use Rattle.wb_names.specs.Values.{NameValue}
use Rattle.wb_names.specs.Orders.{same_name}
use Rattle.wb_recovery.specs.Timing.{no_timers, is_ask_due, is_answer_due, is_standing}
use Rattle.wb_recovery.specs.Events.{Event, Notice, Asked, Got, Tick, Tune, names_of, timers_of}
use Rattle.wb_recovery.specs.declared.tuning.Tuning.{Tuning}
use Rattle.wb_recovery.specs.declared.timers.AskTimer.{AskTimer}

-- Some call starts a thing, and no call since then ends it. The call and those before it decide both.
abbrev pub since : (Event → List Event → Bool) → (Event → List Event → Bool) → List Event → Bool
since starts ends [] = false
since starts ends (e ∷ events) = if ends e events then false else (starts e events || since starts ends events)

-- a notice of the name
abbrev pub notices : NameValue → Event → List Event → Bool
notices n (Notice name now delay word) events = same_name name n
notices n (Asked name held now delay word) events = false
notices n (Got name now delay) events = false
notices n (Tick now words) events = false
notices n (Tune constants) events = false

-- the name comes
abbrev pub arrives : NameValue → Event → List Event → Bool
arrives n (Notice name now delay word) events = false
arrives n (Asked name held now delay word) events = false
arrives n (Got name now delay) events = same_name name n
arrives n (Tick now words) events = false
arrives n (Tune constants) events = false

-- a notice of the name, while no request timer stands
abbrev pub sets_ask : Tuning → NameValue → Event → List Event → Bool
sets_ask t n (Notice name now delay word) events = same_name name n && is_none (timers_of t events n).ask
sets_ask t n (Asked name held now delay word) events = false
sets_ask t n (Got name now delay) events = false
sets_ask t n (Tick now words) events = false
sets_ask t n (Tune constants) events = false

-- a request timer hears a request at a moment
abbrev pub hears : ℕ → Option AskTimer → Bool
hears now None = false
hears now (Some ask) = nat_le ask.deaf now

-- a request of another member for the name, which is not held, while its request timer hears; or the timer fires
abbrev pub backs_off : Tuning → NameValue → Event → List Event → Bool
backs_off t n (Notice name now delay word) events = false
backs_off t n (Asked name true now delay word) events = false
backs_off t n (Asked name false now delay word) events = same_name name n && hears now (timers_of t events n).ask
backs_off t n (Got name now delay) events = false
backs_off t n (Tick now words) events = is_ask_due now (timers_of t events n).ask
backs_off t n (Tune constants) events = false

-- how often the name's request timer was backed off since it was set
abbrev pub back_offs : Tuning → NameValue → List Event → ℕ
back_offs t n [] = 0
back_offs t n (e ∷ events) = if sets_ask t n e events then 0 else (if backs_off t n e events then back_offs t n events + 1 else back_offs t n events)

-- a request of another member for the name, which is held, while no answer timer stands and the name is not quiet
abbrev pub sets_answer : Tuning → NameValue → Event → List Event → Bool
sets_answer t n (Notice name now delay word) events = false
sets_answer t n (Asked name false now delay word) events = false
sets_answer t n (Asked name true now delay word) events = same_name name n && (is_none (timers_of t events n).answer && nat_le (timers_of t events n).quiet now)
sets_answer t n (Got name now delay) events = false
sets_answer t n (Tick now words) events = false
sets_answer t n (Tune constants) events = false

-- the name comes, or its answer timer fires
abbrev pub ends_answer : Tuning → NameValue → Event → List Event → Bool
ends_answer t n (Notice name now delay word) events = false
ends_answer t n (Asked name held now delay word) events = false
ends_answer t n (Got name now delay) events = same_name name n
ends_answer t n (Tick now words) events = is_answer_due now (timers_of t events n).answer
ends_answer t n (Tune constants) events = false

-- the name comes while a timer of it stands, or its answer timer fires
abbrev pub quiets : Tuning → NameValue → Event → List Event → Bool
quiets t n (Notice name now delay word) events = false
quiets t n (Asked name held now delay word) events = false
quiets t n (Got name now delay) events = same_name name n && is_standing (timers_of t events n)
quiets t n (Tick now words) events = is_answer_due now (timers_of t events n).answer
quiets t n (Tune constants) events = false

-- a request timer stands just if a notice was made of the name, and it did not come since
abbrev pub RequestStands : Type 0
RequestStands = (t : Tuning) (events : List Event) (n : NameValue) → is_some (timers_of t events n).ask ≡ since (notices n) (arrives n) events

-- an answer timer stands just if one was set, and since then the name did not come and the timer did not fire
abbrev pub AnswerStands : Type 0
AnswerStands = (t : Tuning) (events : List Event) (n : NameValue) → is_some (timers_of t events n).answer ≡ since (sets_answer t n) (ends_answer t n) events

-- the level is the number of back-offs since the timer was set, up to 16
abbrev pub LevelCounts : Type 0
LevelCounts = (t : Tuning) (events : List Event) (n : NameValue) → IfSome (timers_of t events n).ask (λ ask. ask.level ≡ min (back_offs t n events) 16)

-- a request timer is as its last set or back-off left it: other calls leave it, unless the name comes
abbrev pub RequestStays : Type 0
RequestStays = (t : Tuning) (e : Event) (events : List Event) (n : NameValue) → sets_ask t n e events ≡ false → backs_off t n e events ≡ false → arrives n e events ≡ false → (timers_of t (e ∷ events) n).ask ≡ (timers_of t events n).ask

-- an answer timer is as it was set, until it ends
abbrev pub AnswerStays : Type 0
AnswerStays = (t : Tuning) (e : Event) (events : List Event) (n : NameValue) → sets_answer t n e events ≡ false → ends_answer t n e events ≡ false → (timers_of t (e ∷ events) n).answer ≡ (timers_of t events n).answer

-- a name is quiet as the last arrival that ended a timer of it, or its last answer, left it
abbrev pub QuietStays : Type 0
QuietStays = (t : Tuning) (e : Event) (events : List Event) (n : NameValue) → quiets t n e events ≡ false → (timers_of t (e ∷ events) n).quiet ≡ (timers_of t events n).quiet

-- what is deaf is not backed off by a request
abbrev pub DeafStays : Type 0
DeafStays = (t : Tuning) (events : List Event) (name n : NameValue) (now delay word : ℕ) → IfSome (timers_of t events name).ask (λ ask. now < ask.deaf) → timers_of t (Asked name false now delay word ∷ events) n ≡ timers_of t events n

-- what is quiet is not answered
abbrev pub QuietIsNotAnswered : Type 0
QuietIsNotAnswered = (t : Tuning) (events : List Event) (name n : NameValue) (now delay word : ℕ) → now < (timers_of t events name).quiet → timers_of t (Asked name true now delay word ∷ events) n ≡ timers_of t events n

-- a name that was neither missed nor asked for while held has no timers, and is not quiet
abbrev pub UnnamedHasNone : Type 0
UnnamedHasNone = (t : Tuning) (events : List Event) (n : NameValue) → ¬ Contains (names_of events) n → timers_of t events n ≡ no_timers
