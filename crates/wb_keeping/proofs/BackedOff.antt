-- What calls of the timers make of the request timer of a name, where no delay is below 10 milliseconds: what is backed off waits for its
-- level.
use Rattle.std.proofs.Common.{◌≡◌, ℕ, ◌+◌, ◌*◌, ◌≤◌, ◌^◌, Bool, true, false, cond, List, [], ◌∷◌, ◌∙◌, Option, Some, None, ap, arith, inl, inr, refl, subst, sym, true≢false}
use Rattle.std.specs.Prelude.{◌⊎◌, ◌||◌, IfSome, is_none, is_some, min, nat_le}
use Rattle.std.proofs.Math.Nat.{mul-le-mul_left, mul-le-mul_right}
use Rattle.std.proofs.lemmas.Bool.{leb-true}
use Rattle.wb_names.specs.Orders.{same_name}
use Rattle.wb_names.specs.Values.{NameValue}
use Rattle.wb_recovery.specs.Events.{Asked, Event, Got, Notice, Tick, Tune, constants_after, due_asks, names_of, timers_of, word_for}
use Rattle.wb_recovery.specs.Stopping.{got_each, is_received, receipts}
use Rattle.wb_recovery.specs.Timing.{asked, backed_off, expiry, fired_ask, got, heard_ask, is_ask_due, is_standing, new_ask, noticed}
use Rattle.wb_recovery.specs.declared.missed.Received.{Received}
use Rattle.wb_recovery.specs.declared.timers.AnswerTimer.{AnswerTimer}
use Rattle.wb_recovery.specs.declared.timers.AskTimer.{AskTimer}
use Rattle.wb_recovery.specs.declared.timers.Timers.{Timers}
use Rattle.wb_recovery.specs.declared.tuning.Tuning.{Tuning}
use Rattle.wb_recovery.proofs.StoppedNames.{not_received, received_stops, timers_receipts}
use Rattle.wb_recovery.proofs.TimerLaws.{asked_ask}

-- ---- one timer

-- It was backed off at this moment: its level is one more, up to 16, and it is due no sooner than the wait of that.
pub record Backs (now : ℕ) (old new : Option AskTimer) : Type 0 where
  pub x : AskTimer
  pub y : AskTimer
  pub was : old ≡ Some x
  pub is : new ≡ Some y
  pub level : y.level ≡ min (x.level + 1) 16
  pub due : now + 2 ^ y.level * 10000 ≤ y.due

-- it is as it was, or none stands
abbrev pub Rests : Option AskTimer → Option AskTimer → Type 0
Rests old new = (new ≡ old) ⊎ (new ≡ None)

abbrev pub IsLong : Option AskTimer → Type 0
IsLong o = IfSome o (λ ask. 10000 ≤ ask.delay)

module _ (t : Tuning) (now delay word : ℕ) (one : 1 ≤ t.c1) (long : 10000 ≤ delay) where
  waits : (level : ℕ) → now + 2 ^ level * 10000 ≤ expiry now level t.c1 t.c2 delay word
  waits level =
      let a : 2 ^ level * 10000 ≤ 2 ^ level * delay = mul-le-mul_left (2 ^ level) long in
      let b : 2 ^ level * delay ≤ 2 ^ level * t.c1 * delay = mul-le-mul_right delay (wider (2 ^ level)) in
      omega (arith, a, b) where
        wider : (p : ℕ) → p ≤ p * t.c1
        wider p = let m : p * 1 ≤ p * t.c1 = mul-le-mul_left p one in omega (arith, m)

  backed : (x : AskTimer) → Backs now (Some x) (Some (backed_off t x now delay word))
  backed x = record { x = x; y = backed_off t x now delay word; was = refl; is = refl; level = refl; due = waits (min (x.level + 1) 16) }

  -- by a request of another
  pub heard_backs : (o : Option AskTimer) → Rests o (heard_ask t now delay word o) ⊎ Backs now o (heard_ask t now delay word o)
  heard_backs None = inl (inl refl)
  heard_backs (Some x) = by (nat_le x.deaf now) where
    by : (b : Bool) → Rests (Some x) (Some (cond b (backed_off t x now delay word) x)) ⊎ Backs now (Some x) (Some (cond b (backed_off t x now delay word) x))
    by true = inr (backed x)
    by false = inl (inl refl)

  heard_long : (o : Option AskTimer) → IsLong o → IsLong (heard_ask t now delay word o)
  heard_long None is = tt
  heard_long (Some x) is = by (nat_le x.deaf now) where
    by : (b : Bool) → IsLong (Some (cond b (backed_off t x now delay word) x))
    by true = long
    by false = is

-- by a tick, if it is due
pub fired_backs : (t : Tuning) (now word : ℕ) (o : Option AskTimer) → 1 ≤ t.c1 → IsLong o
    → (Rests o (fired_ask t now word o) × (is_ask_due now o ≡ false)) ⊎ ((b : Backs now o (fired_ask t now word o)) × (b.x.due ≤ now))
unfolding backed
fired_backs t now word None one is = inl (inl refl, refl)
fired_backs t now word (Some x) one is = by (nat_le x.due now) refl where
  by : (b : Bool) → nat_le x.due now ≡ b
      → (Rests (Some x) (Some (cond b (backed_off t x now x.delay word) x)) × (b ≡ false)) ⊎ ((s : Backs now (Some x) (Some (cond b (backed_off t x now x.delay word) x))) × (s.x.due ≤ now))
  by true e = inr (backed t now x.delay word one is x, leb-true x.due now e)
  by false e = inl (inl refl, refl)

fired_long : (t : Tuning) (now word : ℕ) (o : Option AskTimer) → IsLong o → IsLong (fired_ask t now word o)
fired_long t now word None is = tt
fired_long t now word (Some x) is = by (nat_le x.due now) where
  by : (b : Bool) → IsLong (Some (cond b (backed_off t x now x.delay word) x))
  by true = is
  by false = is

-- ---- the timers of a name

pub asked_backs : (t : Tuning) (held : Bool) (now delay word : ℕ) (s : Timers) → 1 ≤ t.c1 → (held ≡ false → 10000 ≤ delay)
    → Rests s.ask (asked t held now delay word s).ask ⊎ Backs now s.ask (asked t held now delay word s).ask
asked_backs t true now delay word s one long = inl (inl (asked_ask t now delay word s))
asked_backs t false now delay word s one long = heard_backs t now delay word one (long refl) s.ask

noticed_long : (t : Tuning) (now delay word : ℕ) (s : Timers) → 10000 ≤ delay → IsLong s.ask → IsLong (noticed t now delay word s).ask
noticed_long t now delay word s long is = by s.ask is where
  by : (o : Option AskTimer) → IsLong o → IsLong (cond (is_none o) (record s { ask = Some (new_ask t now delay word) }) (record s { ask = o })).ask
  by None is = long
  by (Some x) is = is

got_long : (now delay : ℕ) (s : Timers) → IsLong s.ask → IsLong (got now delay s).ask
got_long now delay s is = by (is_standing s) where
  by : (b : Bool) → IsLong (cond b (record { ask = None; answer = None; quiet = now + 3 * delay }) s).ask
  by true = tt
  by false = is

-- ---- calls that bring in no delay below 10 milliseconds

abbrev pub IsSpaced : Event → Type 0
IsSpaced (Notice name now delay word) = 10000 ≤ delay
IsSpaced (Asked name true now delay word) = Unit {0}
IsSpaced (Asked name false now delay word) = 10000 ≤ delay
IsSpaced (Got name now delay) = Unit {0}
IsSpaced (Tick now words) = Unit {0}
IsSpaced (Tune constants) = 1 ≤ constants.c1

abbrev pub AreSpaced : List Event → Type 0
AreSpaced [] = Unit {0}
AreSpaced (e ∷ events) = IsSpaced e × AreSpaced events

pub spaced_constants : (t : Tuning) (events : List Event) → 1 ≤ t.c1 → AreSpaced events → 1 ≤ (constants_after t events).c1
spaced_constants t [] one spaced = one
spaced_constants t (Notice name now delay word ∷ events) one spaced = spaced_constants t events one spaced.1
spaced_constants t (Asked name held now delay word ∷ events) one spaced = spaced_constants t events one spaced.1
spaced_constants t (Got name now delay ∷ events) one spaced = spaced_constants t events one spaced.1
spaced_constants t (Tick now words ∷ events) one spaced = spaced_constants t events one spaced.1
spaced_constants t (Tune constants ∷ events) one spaced = spaced.0

either_long : (b : Bool) (s next : Timers) → IsLong s.ask → IsLong next.ask → IsLong (cond b next s).ask
either_long true s next is then = then
either_long false s next is then = is

pub spaced_long : (t : Tuning) (events : List Event) (n : NameValue) → 1 ≤ t.c1 → AreSpaced events → IsLong (timers_of t events n).ask
spaced_long t [] n one spaced = tt
spaced_long t (Notice name now delay word ∷ events) n one spaced =
    let s = timers_of t events n in
    let is = spaced_long t events n one spaced.1 in
    either_long (same_name name n) s (noticed (constants_after t events) now delay word s) is (noticed_long (constants_after t events) now delay word s spaced.0 is)
spaced_long t (Asked name true now delay word ∷ events) n one spaced =
    let s = timers_of t events n in
    let is = spaced_long t events n one spaced.1 in
    let t_now = constants_after t events in
    either_long (same_name name n) s (asked t_now true now delay word s) is (subst IsLong (sym (asked_ask t_now now delay word s)) is)
spaced_long t (Asked name false now delay word ∷ events) n one spaced =
    let s = timers_of t events n in
    let is = spaced_long t events n one spaced.1 in
    let t_now = constants_after t events in
    either_long (same_name name n) s (asked t_now false now delay word s) is (heard_long t_now now delay word (spaced_constants t events one spaced.1) spaced.0 s.ask is)
spaced_long t (Got name now delay ∷ events) n one spaced =
    let s = timers_of t events n in
    let is = spaced_long t events n one spaced.1 in
    either_long (same_name name n) s (got now delay s) is (got_long now delay s is)
spaced_long t (Tick now words ∷ events) n one spaced =
    let word = word_for words (due_asks (names_of events) (λ m. timers_of t events m) now) n in
    fired_long (constants_after t events) now word (timers_of t events n).ask (spaced_long t events n one spaced.1)
spaced_long t (Tune constants ∷ events) n one spaced = spaced_long t events n one spaced.1

-- ---- names that have come

pub spaced_receipts : (now : ℕ) (events : List Event) (received : List Received) → AreSpaced events → AreSpaced (receipts now events received)
spaced_receipts now events [] spaced = spaced
spaced_receipts now events (c ∷ received) spaced = spaced_receipts now (Got c.name now c.delay ∷ events) received (tt, spaced)

no_ask : (s : Timers) → is_standing s ≡ false → s.ask ≡ None
no_ask s h = by s.ask s.answer h where
  by : (a : Option AskTimer) (b : Option AnswerTimer) → (is_some a || is_some b) ≡ false → a ≡ None
  by None b e = refl
  by (Some a) b e = absurd (true≢false e)

pub receipts_rest : (t : Tuning) (now : ℕ) (events : List Event) (received : List Received) (n : NameValue)
    → Rests (timers_of t events n).ask (timers_of t (receipts now events received) n).ask
receipts_rest t now events received n = by (is_received received n) refl where
  s : Timers
  s = timers_of t events n

  then : (timers_of t (receipts now events received) n).ask ≡ (got_each now n s received).ask
  then = ap (λ (k : Timers). k.ask) (timers_receipts t now events received n)

  by : (b : Bool) → is_received received n ≡ b → Rests s.ask (timers_of t (receipts now events received) n).ask
  by true e = inr (then ∙ no_ask (got_each now n s received) (received_stops now n s received e))
  by false e = inl (then ∙ ap (λ (k : Timers). k.ask) (not_received now n s received e))
