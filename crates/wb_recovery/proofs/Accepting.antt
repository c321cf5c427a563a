-- What a recovery stands for once it has accepted a call about one name.
use Rattle.std.proofs.Common.{◌≡◌, ℕ, ◌+◌, ◌*◌, Bool, true, false, cond, None, List, ◌∷◌, refl, ap, ◌∙◌, sym}
use Rattle.std.specs.List.Sorted.{IsStrictlySortedBy}
use Rattle.wb_names.specs.Values.{NameValue}
use Rattle.wb_names.specs.Orders.{same_name, name_cmp}
use Rattle.wb_names.proofs.Orders.{same_name-is}
use Rattle.wb_recovery.specs.Values.{RecoveryValue, timers_at, timers_in, names_in, Replaces}
use Rattle.wb_recovery.specs.Events.{Event, moment_of, constants_after, timers_of}
use Rattle.wb_recovery.specs.Timing.{is_standing, got}
use Rattle.wb_recovery.specs.Accepted.{Accepts}
use Rattle.wb_recovery.specs.declared.tuning.Tuning.{Tuning}
use Rattle.wb_recovery.specs.declared.timers.Timers.{Timers}

-- A call about one name is a step of its timers, and leaves those of the other names.
pub record IsStep (event : Event) (name : NameValue) (now : ℕ) (step : Tuning → Timers → Timers) : Type 0 where
  pub timers : (t : Tuning) (events : List Event) (n : NameValue) → timers_of t (event ∷ events) n ≡ cond (same_name name n) (step (constants_after t events) (timers_of t events n)) (timers_of t events n)
  pub moment : (events : List Event) → moment_of (event ∷ events) ≡ now
  pub constants : (t : Tuning) (events : List Event) → constants_after t (event ∷ events) ≡ constants_after t events

pub accepted : (event : Event) (name : NameValue) (now : ℕ) (step : Tuning → Timers → Timers) → IsStep event name now step → (old mid : RecoveryValue) (after : Timers) → Replaces old mid name after → after ≡ step old.tuning (timers_in old name) → (new : RecoveryValue) → new.tuning ≡ mid.tuning → new.records ≡ mid.records → new.moment ≡ now → IsStrictlySortedBy name_cmp (names_in new) → Accepts event old new
accepted event name now step is old mid after r a new t u m rises constants events s = record {
  tuning = t ∙ r.tuning ∙ s.tuning ∙ sym (is.constants constants events);
  moment = m ∙ sym (is.moment events);
  timers = λ n.
      ap (λ records. timers_at records n) u
      ∙ r.timers n
      ∙ here n (same_name name n) refl
      ∙ sym (is.timers constants events n);
  rising = rises;
} where
  here : (n : NameValue) (b : Bool) → same_name name n ≡ b → cond b after (timers_in old n) ≡ cond b (step (constants_after constants events) (timers_of constants events n)) (timers_of constants events n)
  here n false e = s.timers n
  here n true e =
      a
      ∙ ap (λ (c : Tuning). step c (timers_in old name)) s.tuning
      ∙ ap (λ (m : NameValue). step (constants_after constants events) (timers_in old m)) (same_name-is name n e)
      ∙ ap (step (constants_after constants events)) (s.timers n)

-- nothing is replaced where the timers stay
pub replaced_none : (value : RecoveryValue) (name : NameValue) → Replaces value value name (timers_in value name)
replaced_none value name = record {
  tuning = refl;
  moment = refl;
  timers = λ n. here n (same_name name n) refl;
} where
  here : (n : NameValue) (b : Bool) → same_name name n ≡ b → timers_in value n ≡ cond b (timers_in value name) (timers_in value n)
  here n true e = ap (timers_in value) (sym (same_name-is name n e))
  here n false e = refl

-- an arrival, while a timer runs and while none does
pub got_standing : (now delay : ℕ) (s : Timers) → is_standing s ≡ true → record { ask = None; answer = None; quiet = now + 3 * delay } ≡ got now delay s
got_standing now delay s h = ap (λ b. cond b (record { ask = None; answer = None; quiet = now + 3 * delay }) s) (sym h)

pub got_none : (now delay : ℕ) (s : Timers) → is_standing s ≡ false → s ≡ got now delay s
got_none now delay s h = ap (λ b. cond b (record { ask = None; answer = None; quiet = now + 3 * delay }) s) (sym h)
