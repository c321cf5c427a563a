-- When a timer is due next.
use Rattle.std.specs.Prelude.{ℕ, List, [], ◌∷◌, Option, Some, None, min}
use Rattle.wb_names.specs.Values.{NameValue}
use Rattle.wb_recovery.specs.Timing.{ask_due, answer_due}
use Rattle.wb_recovery.specs.Events.{Event, names_of, timers_of, IsNextDue}
use Rattle.wb_recovery.specs.declared.timers.Timers.{Timers}
use Rattle.wb_recovery.specs.declared.tuning.Tuning.{Tuning}

-- the lesser of two moments, of which either may be none
abbrev pub sooner : Option ℕ → Option ℕ → Option ℕ
sooner None b = b
sooner (Some a) None = Some a
sooner (Some a) (Some b) = Some (min a b)

-- the least moment at which a timer of these names is due
abbrev pub soonest : (NameValue → Timers) → List NameValue → Option ℕ
soonest timers [] = None
soonest timers (n ∷ names) = sooner (sooner (ask_due (timers n)) (answer_due (timers n))) (soonest timers names)

-- the least moment at which a timer is due after these calls of the timers, or None where no timer stands
abbrev pub next_due_of : Tuning → List Event → Option ℕ
next_due_of constants events = soonest (timers_of constants events) (names_of events)

-- it is the least moment at which some name's timer is due
abbrev pub NextDueIsLeast : Type 0
NextDueIsLeast = (constants : Tuning) (events : List Event) → IsNextDue (timers_of constants events) (next_due_of constants events)
