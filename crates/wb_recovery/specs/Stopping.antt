-- Names that have come, handed in before a tick.
use Rattle.std.specs.Prelude.{◌≡◌, ℕ, Bool, true, not, ◌&&◌, List, ◌∷◌, map, if◌then◌else◌}
use Rattle.std.specs.List.{fold, list_all, list_any}
use Rattle.wb_names.specs.Moments.{IsMoment}
use Rattle.wb_names.specs.Values.{NameValue}
use Rattle.wb_names.specs.Orders.{same_name, name_cmp}
use Rattle.wb_names.specs.Listing.{Lists}
use Rattle.wb_recovery.specs.Alarms.{among}
use Rattle.wb_recovery.specs.Events.{Event, Got}
use Rattle.wb_recovery.specs.Faults.{is_delay}
use Rattle.wb_recovery.specs.Timing.{got, is_ask_due, is_answer_due}
use Rattle.wb_recovery.specs.Firing.{with_ask_fired, with_answer_fired}
use Rattle.wb_recovery.specs.Values.{RecoveryValue, timers_in}
use Rattle.wb_recovery.specs.declared.missed.Received.{Received}
use Rattle.wb_recovery.specs.declared.plan.Plan.{Plan}
use Rattle.wb_recovery.specs.declared.tuning.Tuning.{Tuning}
use Rattle.wb_recovery.specs.declared.timers.Timers.{Timers}

-- the calls, once each of these names has come, in their order
abbrev pub receipts : ℕ → List Event → List Received → List Event
receipts now events received = fold (λ before c. Got c.name now c.delay ∷ before) events received

-- the name has come
abbrev pub is_received : List Received → NameValue → Bool
is_received received n = list_any (λ c. same_name c.name n) received

-- the timers of a name, once these have come
abbrev pub got_each : ℕ → NameValue → Timers → List Received → Timers
got_each now n s received = fold (λ before c. if same_name c.name n then got now c.delay before else before) s received

pub record EndsAll (now : ℕ) (received : List Received) (old new : RecoveryValue) : Type 0 where
  pub tuning : new.tuning ≡ old.tuning
  pub moment : new.moment ≡ old.moment
  pub timers : (n : NameValue) → timers_in new n ≡ got_each now n (timers_in old n) received

-- the timers of a name, once these requests and answers have fired
abbrev pub with_asks_fired : Tuning → ℕ → List ℕ → List NameValue → (NameValue → Timers) → NameValue → Timers
with_asks_fired t now words asking timers n = if among asking n then with_ask_fired t now words asking timers n else timers n

abbrev pub with_these_fired : Tuning → ℕ → List ℕ → List NameValue → List NameValue → (NameValue → Timers) → NameValue → Timers
with_these_fired t now words asking answering timers n =
    if among answering n then with_answer_fired now (with_asks_fired t now words asking timers) n else with_asks_fired t now words asking timers n

pub record FiresThese (now : ℕ) (words : List ℕ) (asking answering : List NameValue) (old new : RecoveryValue) : Type 0 where
  pub tuning : new.tuning ≡ old.tuning
  pub moment : new.moment ≡ old.moment
  pub timers : (n : NameValue) → timers_in new n ≡ with_these_fired old.tuning now words asking answering (timers_in old) n

-- What a plan says of a recovery and of names that have come: those that fire, and what their requests become.
pub record IsPlanOf (value : RecoveryValue) (received : List Received) (words : List ℕ) (plan : Plan) : Type 0 where
  pub moment : IsMoment plan.moment
  pub delays : list_all (λ c. is_delay c.delay) received ≡ true
  pub asking : Lists name_cmp (λ n. (not (is_received received n) && is_ask_due plan.moment (timers_in value n).ask) ≡ true) plan.asking.items
  pub answering : Lists name_cmp (λ n. (not (is_received received n) && is_answer_due plan.moment (timers_in value n).answer) ≡ true) plan.answering.items
  pub after : plan.after.items ≡ map (with_ask_fired value.tuning plan.moment words plan.asking.items (timers_in value)) plan.asking.items

-- with some words
abbrev pub IsPlan : RecoveryValue → List Received → Plan → Type 0
IsPlan value received plan = (words : List ℕ) × IsPlanOf value received words plan
