-- Names that come may come in any order.
use Rattle.std.proofs.Common.{◌≡◌, ℕ, ◌+◌, ◌*◌, Bool, true, false, cond, List, [], ◌∷◌, None, refl, ap, ◌∙◌, sym, arith}
use Rattle.std.specs.Prelude.{length, ◌||◌}
use Rattle.std.specs.List.{list_any}
use Rattle.std.proofs.lemmas.List.Sorted.{list_any-IsPermutation, length_permutation}
use Rattle.wb_names.specs.Values.{NameValue}
use Rattle.wb_names.specs.Orders.{same_name}
use Rattle.wb_names.proofs.Orders.{same_name-is}
use Rattle.wb_recovery.specs.Timing.{is_standing, got}
use Rattle.wb_recovery.specs.Events.{Event, Got, moment_of, timers_of}
use Rattle.wb_recovery.specs.Stopping.{receipts, got_each}
use Rattle.wb_recovery.specs.declared.timers.Timers.{Timers}
use Rattle.wb_recovery.specs.declared.tuning.Tuning.{Tuning}
use Rattle.wb_recovery.proofs.StoppedNames.{timers_receipts, constants_receipts}
use Rattle.wb_keeper.specs.Keeper.{received_of, events_of, delay_to}
use Rattle.wb_keeper.specs.KeeperLaws.{OrderOfArrivalIsFree}

-- ---- the timers of a name: they end by the delay to its source, if it is among those that come
abbrev pub comes : List NameValue → NameValue → Bool
comes names n = list_any (λ m. same_name m n) names

got_stays : (now delay e : ℕ) (s : Timers) → got now e (got now delay s) ≡ got now delay s
got_stays now delay e s = from (is_standing s) refl where
  from : (b : Bool) → is_standing s ≡ b → (let r = cond b (record { ask = None; answer = None; quiet = now + 3 * delay }) s in got now e r) ≡ cond b (record { ask = None; answer = None; quiet = now + 3 * delay }) s
  from true h = refl
  from false h = ap (λ (b : Bool). cond b (record { ask = None; answer = None; quiet = now + 3 * e }) s) h

gone : (delays : ℕ → ℕ) (now : ℕ) (n : NameValue) (s : Timers) (names : List NameValue) → got_each now n (got now (delays n.source) s) (received_of delays names) ≡ got now (delays n.source) s
gone delays now n s [] = refl
gone delays now n s (m ∷ names) = ap (λ (k : Timers). got_each now n k (received_of delays names)) (from (same_name m n)) ∙ gone delays now n s names where
  from : (b : Bool) → cond b (got now (delays m.source) (got now (delays n.source) s)) (got now (delays n.source) s) ≡ got now (delays n.source) s
  from true = got_stays now (delays n.source) (delays m.source) s
  from false = refl

got_among : (delays : ℕ → ℕ) (now : ℕ) (n : NameValue) (s : Timers) (names : List NameValue) → got_each now n s (received_of delays names) ≡ cond (comes names n) (got now (delays n.source) s) s
got_among delays now n s [] = refl
got_among delays now n s (m ∷ names) = from (got_among delays now n s names) (same_name m n) refl where
  from : got_each now n s (received_of delays names) ≡ cond (comes names n) (got now (delays n.source) s) s → (b : Bool) → same_name m n ≡ b
      → got_each now n (cond b (got now (delays m.source) s) s) (received_of delays names) ≡ cond (b || comes names n) (got now (delays n.source) s) s
  from rest true e = ap (λ (k : NameValue). got_each now n (got now (delays k.source) s) (received_of delays names)) (same_name-is m n e) ∙ gone delays now n s names
  from rest false e = rest

-- ---- the moment
moment_receipts : (delays : ℕ → ℕ) (now : ℕ) (events : List Event) (n : NameValue) (names : List NameValue) → moment_of (receipts now events (received_of delays (n ∷ names))) ≡ now
moment_receipts delays now events n [] = refl
moment_receipts delays now events n (m ∷ names) = moment_receipts delays now (Got n now (delays n.source) ∷ events) m names

moment_moved : (delays : ℕ → ℕ) (now : ℕ) (events : List Event) (names other : List NameValue) → length other ≡ length names → moment_of (receipts now events (received_of delays names)) ≡ moment_of (receipts now events (received_of delays other))
moment_moved delays now events [] [] e = refl
moment_moved delays now events [] (m ∷ other) e = absurd (omega arith)
moment_moved delays now events (n ∷ names) [] e = absurd (omega arith)
moment_moved delays now events (n ∷ names) (m ∷ other) e = moment_receipts delays now events n names ∙ sym (moment_receipts delays now events m other)

-- It makes no difference which names come more than once, nor in which order.
pub timers_alike : (t : Tuning) (delays : ℕ → ℕ) (now : ℕ) (events : List Event) (names other : List NameValue) → ((n : NameValue) → comes names n ≡ comes other n)
    → (n : NameValue) → timers_of t (receipts now events (received_of delays names)) n ≡ timers_of t (receipts now events (received_of delays other)) n
timers_alike t delays now events names other same n =
    timers_receipts t now events (received_of delays names) n ∙ got_among delays now n (timers_of t events n) names
    ∙ ap (λ (b : Bool). cond b (got now (delays n.source) (timers_of t events n)) (timers_of t events n)) (same n)
    ∙ sym (got_among delays now n (timers_of t events n) other) ∙ sym (timers_receipts t now events (received_of delays other) n)

pub order_of_arrival_is_free : OrderOfArrivalIsFree
order_of_arrival_is_free me t calls value now names other moved s =
    let delays = delay_to me calls in
    let events = events_of me calls in
    record {
      me_is = s.me_is;
      moment = s.moment;
      recovery = record {
        tuning = s.recovery.tuning ∙ constants_receipts t now events (received_of delays names) ∙ sym (constants_receipts t now events (received_of delays other));
        moment = s.recovery.moment ∙ moment_moved delays now events names other (length_permutation names other moved);
        timers = λ n. s.recovery.timers n ∙ timers_alike t delays now events names other (λ m. list_any-IsPermutation (λ (k : NameValue). same_name k m) names other moved) n;
        rising = s.recovery.rising;
      };
      delays = s.delays;
      heard = s.heard;
      senders = s.senders;
      marks = s.marks;
      merged = s.merged;
    }
