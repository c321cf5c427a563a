-- Proofs of the laws of timers.
use Rattle.std.proofs.Common.{◌≡◌, ℕ, ◌+◌, ◌*◌, ◌<◌, Bool, true, false, cond, [], ◌∷◌, refl, ap, ◌∙◌, sym, subst, Option, Some, None, ⊎_elim, arith, min}
use Rattle.std.specs.Prelude.{◌&&◌, ◌||◌, IfSome, is_some, is_none, nat_le, Contains}
use Rattle.std.proofs.lemmas.Bool.Decides.{nat_tests}
use Rattle.std.proofs.Math.Bool.{and-false}
use Rattle.wb_names.specs.Values.{NameValue}
use Rattle.wb_names.specs.Orders.{same_name}
use Rattle.wb_names.proofs.Orders.{same_name-is}
use Rattle.wb_recovery.specs.Timing.{no_timers, new_ask, new_answer, backed_off, heard_ask, fired_ask, fired_answer, noticed, asked, got, is_ask_due, is_answer_due, is_standing}
use Rattle.wb_recovery.specs.Events.{Notice, Asked, Got, Tick, Tune, constants_after, names_of, timers_of, due_asks, word_for}
use Rattle.wb_recovery.specs.Laws.{since, notices, arrives, hears, back_offs, sets_answer, ends_answer, RequestStands, AnswerStands, LevelCounts, RequestStays, AnswerStays, QuietStays, DeafStays, QuietIsNotAnswered, UnnamedHasNone}
use Rattle.wb_recovery.specs.declared.tuning.Tuning.{Tuning}
use Rattle.wb_recovery.specs.declared.timers.AskTimer.{AskTimer}
use Rattle.wb_recovery.specs.declared.timers.AnswerTimer.{AnswerTimer}
use Rattle.wb_recovery.specs.declared.timers.Timers.{Timers}
use Rattle.wb_recovery.proofs.FiredTimers.{ask_stays, answer_stays, quiet_stays}
use Rattle.wb_recovery.proofs.NameLists.{known}

-- ---- the two fields under each step
noticed_ask : (t : Tuning) (now delay word : ℕ) (s : Timers) → (noticed t now delay word s).ask ≡ cond (is_none s.ask) (Some (new_ask t now delay word)) s.ask
noticed_ask t now delay word s = from (is_none s.ask) where
  from : (b : Bool) → (cond b (record s { ask = Some (new_ask t now delay word) }) s).ask ≡ cond b (Some (new_ask t now delay word)) s.ask
  from true = refl
  from false = refl

noticed_answer : (t : Tuning) (now delay word : ℕ) (s : Timers) → (noticed t now delay word s).answer ≡ s.answer
noticed_answer t now delay word s = from (is_none s.ask) where
  from : (b : Bool) → (cond b (record s { ask = Some (new_ask t now delay word) }) s).answer ≡ s.answer
  from true = refl
  from false = refl

noticed_quiet : (t : Tuning) (now delay word : ℕ) (s : Timers) → (noticed t now delay word s).quiet ≡ s.quiet
noticed_quiet t now delay word s = from (is_none s.ask) where
  from : (b : Bool) → (cond b (record s { ask = Some (new_ask t now delay word) }) s).quiet ≡ s.quiet
  from true = refl
  from false = refl

pub asked_ask : (t : Tuning) (now delay word : ℕ) (s : Timers) → (asked t true now delay word s).ask ≡ s.ask
asked_ask t now delay word s = from (is_none s.answer && nat_le s.quiet now) where
  from : (b : Bool) → (cond b (record s { answer = Some (new_answer t now delay word) }) s).ask ≡ s.ask
  from true = refl
  from false = refl

asked_answer : (t : Tuning) (now delay word : ℕ) (s : Timers) → (asked t true now delay word s).answer ≡ cond (is_none s.answer && nat_le s.quiet now) (Some (new_answer t now delay word)) s.answer
asked_answer t now delay word s = from (is_none s.answer && nat_le s.quiet now) where
  from : (b : Bool) → (cond b (record s { answer = Some (new_answer t now delay word) }) s).answer ≡ cond b (Some (new_answer t now delay word)) s.answer
  from true = refl
  from false = refl

asked_quiet : (t : Tuning) (now delay word : ℕ) (s : Timers) → (asked t true now delay word s).quiet ≡ s.quiet
asked_quiet t now delay word s = from (is_none s.answer && nat_le s.quiet now) where
  from : (b : Bool) → (cond b (record s { answer = Some (new_answer t now delay word) }) s).quiet ≡ s.quiet
  from true = refl
  from false = refl

got_ask : (now delay : ℕ) (s : Timers) → (got now delay s).ask ≡ None
got_ask now delay s = from s.ask s.answer refl where
  from : (o : Option AskTimer) (p : Option AnswerTimer) → s.ask ≡ o → (cond (is_some s.ask || is_some s.answer) (record { ask = None; answer = None; quiet = now + 3 * delay }) s).ask ≡ None
  from None p e = none (is_some s.ask || is_some s.answer) where
    none : (b : Bool) → (cond b (record { ask = None; answer = None; quiet = now + 3 * delay }) s).ask ≡ None
    none true = refl
    none false = e
  from (Some a) p e = ap (λ (o : Option AskTimer). (cond (is_some o || is_some s.answer) (record { ask = None; answer = None; quiet = now + 3 * delay }) s).ask) e

got_answer : (now delay : ℕ) (s : Timers) → (got now delay s).answer ≡ None
got_answer now delay s = from s.answer refl where
  from : (p : Option AnswerTimer) → s.answer ≡ p → (cond (is_some s.ask || is_some s.answer) (record { ask = None; answer = None; quiet = now + 3 * delay }) s).answer ≡ None
  from None e = none (is_some s.ask || is_some s.answer) where
    none : (b : Bool) → (cond b (record { ask = None; answer = None; quiet = now + 3 * delay }) s).answer ≡ None
    none true = refl
    none false = e
  from (Some a) e = ap (λ (o : Option AnswerTimer). (cond (is_some s.ask || is_some o) (record { ask = None; answer = None; quiet = now + 3 * delay }) s).answer) e ∙ both (is_some s.ask) where
    both : (b : Bool) → (cond (b || true) (record { ask = None; answer = None; quiet = now + 3 * delay }) s).answer ≡ None
    both true = refl
    both false = refl

-- ---- a request timer stands
heard_stands : (t : Tuning) (now delay word : ℕ) (o : Option AskTimer) → is_some (heard_ask t now delay word o) ≡ is_some o
heard_stands t now delay word None = refl
heard_stands t now delay word (Some a) = refl

fired_stands : (t : Tuning) (now word : ℕ) (o : Option AskTimer) → is_some (fired_ask t now word o) ≡ is_some o
fired_stands t now word None = refl
fired_stands t now word (Some a) = refl

some_or : (o : Option AskTimer) (a : AskTimer) → is_some (cond (is_none o) (Some a) o) ≡ true
some_or None a = refl
some_or (Some b) a = refl

pub request_stands : RequestStands
request_stands t [] n = refl
request_stands t (Notice name now delay word ∷ events) n = from (same_name name n) (request_stands t events n) where
  from : (b : Bool) → is_some (timers_of t events n).ask ≡ since (notices n) (arrives n) events → is_some (cond b (noticed (constants_after t events) now delay word (timers_of t events n)) (timers_of t events n)).ask ≡ (b || since (notices n) (arrives n) events)
  from true h = ap is_some (noticed_ask (constants_after t events) now delay word (timers_of t events n)) ∙ some_or (timers_of t events n).ask (new_ask (constants_after t events) now delay word)
  from false h = h
request_stands t (Asked name false now delay word ∷ events) n = from (same_name name n) (request_stands t events n) where
  from : (b : Bool) → is_some (timers_of t events n).ask ≡ since (notices n) (arrives n) events → is_some (cond b (asked (constants_after t events) false now delay word (timers_of t events n)) (timers_of t events n)).ask ≡ since (notices n) (arrives n) events
  from true h = heard_stands (constants_after t events) now delay word (timers_of t events n).ask ∙ h
  from false h = h
request_stands t (Asked name true now delay word ∷ events) n = from (same_name name n) (request_stands t events n) where
  from : (b : Bool) → is_some (timers_of t events n).ask ≡ since (notices n) (arrives n) events → is_some (cond b (asked (constants_after t events) true now delay word (timers_of t events n)) (timers_of t events n)).ask ≡ since (notices n) (arrives n) events
  from true h = ap is_some (asked_ask (constants_after t events) now delay word (timers_of t events n)) ∙ h
  from false h = h
request_stands t (Got name now delay ∷ events) n = from (same_name name n) (request_stands t events n) where
  from : (b : Bool) → is_some (timers_of t events n).ask ≡ since (notices n) (arrives n) events → is_some (cond b (got now delay (timers_of t events n)) (timers_of t events n)).ask ≡ cond b false (since (notices n) (arrives n) events)
  from true h = ap is_some (got_ask now delay (timers_of t events n))
  from false h = h
request_stands t (Tick now words ∷ events) n = fired_stands (constants_after t events) now (word_for words (due_asks (names_of events) (λ m. timers_of t events m) now) n) (timers_of t events n).ask ∙ request_stands t events n
request_stands t (Tune constants ∷ events) n = request_stands t events n

-- ---- an answer timer stands
answer_or : (o : Option AnswerTimer) (b : Bool) (a : AnswerTimer) → is_some (cond b (Some a) o) ≡ (b || is_some o)
answer_or o true a = refl
answer_or o false a = refl

fired_or : (now : ℕ) (o : Option AnswerTimer) → is_some (fired_answer now o) ≡ cond (is_answer_due now o) false (is_some o)
fired_or now None = refl
fired_or now (Some a) = from (nat_le a.due now) where
  from : (b : Bool) → is_some (cond b None (Some a)) ≡ cond b false true
  from true = refl
  from false = refl

pub answer_stands : AnswerStands
answer_stands t [] n = refl
answer_stands t (Notice name now delay word ∷ events) n = from (same_name name n) (answer_stands t events n) where
  from : (b : Bool) → is_some (timers_of t events n).answer ≡ since (sets_answer t n) (ends_answer t n) events → is_some (cond b (noticed (constants_after t events) now delay word (timers_of t events n)) (timers_of t events n)).answer ≡ since (sets_answer t n) (ends_answer t n) events
  from true h = ap is_some (noticed_answer (constants_after t events) now delay word (timers_of t events n)) ∙ h
  from false h = h
answer_stands t (Asked name false now delay word ∷ events) n = from (same_name name n) (answer_stands t events n) where
  from : (b : Bool) → is_some (timers_of t events n).answer ≡ since (sets_answer t n) (ends_answer t n) events → is_some (cond b (asked (constants_after t events) false now delay word (timers_of t events n)) (timers_of t events n)).answer ≡ since (sets_answer t n) (ends_answer t n) events
  from true h = h
  from false h = h
answer_stands t (Asked name true now delay word ∷ events) n = from (same_name name n) (answer_stands t events n) where
  from : (b : Bool) → is_some (timers_of t events n).answer ≡ since (sets_answer t n) (ends_answer t n) events → is_some (cond b (asked (constants_after t events) true now delay word (timers_of t events n)) (timers_of t events n)).answer ≡ ((b && (is_none (timers_of t events n).answer && nat_le (timers_of t events n).quiet now)) || since (sets_answer t n) (ends_answer t n) events)
  from true h =
      ap is_some (asked_answer (constants_after t events) now delay word (timers_of t events n))
      ∙ answer_or (timers_of t events n).answer (is_none (timers_of t events n).answer && nat_le (timers_of t events n).quiet now) (new_answer (constants_after t events) now delay word)
      ∙ ap (λ (c : Bool). (is_none (timers_of t events n).answer && nat_le (timers_of t events n).quiet now) || c) h
  from false h = h
answer_stands t (Got name now delay ∷ events) n = from (same_name name n) (answer_stands t events n) where
  from : (b : Bool) → is_some (timers_of t events n).answer ≡ since (sets_answer t n) (ends_answer t n) events → is_some (cond b (got now delay (timers_of t events n)) (timers_of t events n)).answer ≡ cond b false (since (sets_answer t n) (ends_answer t n) events)
  from true h = ap is_some (got_answer now delay (timers_of t events n))
  from false h = h
answer_stands t (Tick now words ∷ events) n = fired_or now (timers_of t events n).answer ∙ ap (λ (c : Bool). cond (is_answer_due now (timers_of t events n).answer) false c) (answer_stands t events n)
answer_stands t (Tune constants ∷ events) n = answer_stands t events n

-- ---- a name that no call names
pub unnamed : UnnamedHasNone
unnamed t events n not = ⊎_elim (λ (e : timers_of t events n ≡ no_timers). e) (λ (c : Contains (names_of events) n). absurd (not c)) (known t events n)

-- ---- the level
abbrev Counts : ℕ → Option AskTimer → Type 0
Counts k o = IfSome o (λ ask. ask.level ≡ min k 16)

set_counts : (a : AskTimer) → a.level ≡ 0 → (k : ℕ) (o : Option AskTimer) → Counts k o → Counts (cond (is_none o) 0 k) (cond (is_none o) (Some a) o)
set_counts a z k None h = z
set_counts a z k (Some b) h = h

next_level : (k l : ℕ) → l ≡ min k 16 → min (l + 1) 16 ≡ min (k + 1) 16
next_level k l h = omega arith

up_counts : (t : Tuning) (now delay word k : ℕ) (a : AskTimer) (b : Bool) → a.level ≡ min k 16 → Counts (cond b (k + 1) k) (Some (cond b (backed_off t a now delay word) a))
up_counts t now delay word k a true h = next_level k a.level h
up_counts t now delay word k a false h = h

heard_counts : (t : Tuning) (now delay word k : ℕ) (o : Option AskTimer) → Counts k o → Counts (cond (hears now o) (k + 1) k) (heard_ask t now delay word o)
heard_counts t now delay word k None h = h
heard_counts t now delay word k (Some a) h = up_counts t now delay word k a (nat_le a.deaf now) h

fired_counts : (t : Tuning) (now word k : ℕ) (o : Option AskTimer) → Counts k o → Counts (cond (is_ask_due now o) (k + 1) k) (fired_ask t now word o)
fired_counts t now word k None h = h
fired_counts t now word k (Some a) h = up_counts t now a.delay word k a (nat_le a.due now) h

none_counts : (k : ℕ) (o : Option AskTimer) → o ≡ None → Counts k o
none_counts k o e = subst (Counts k) (sym e) tt

pub level_counts : LevelCounts
level_counts t [] n = tt
level_counts t (Notice name now delay word ∷ events) n = from (same_name name n) (level_counts t events n) where
  from : (b : Bool) → Counts (back_offs t n events) (timers_of t events n).ask → Counts (cond (b && is_none (timers_of t events n).ask) 0 (back_offs t n events)) (cond b (noticed (constants_after t events) now delay word (timers_of t events n)) (timers_of t events n)).ask
  from true h = subst (Counts (cond (is_none (timers_of t events n).ask) 0 (back_offs t n events))) (sym (noticed_ask (constants_after t events) now delay word (timers_of t events n))) (set_counts (new_ask (constants_after t events) now delay word) refl (back_offs t n events) (timers_of t events n).ask h)
  from false h = h
level_counts t (Asked name false now delay word ∷ events) n = from (same_name name n) (level_counts t events n) where
  from : (b : Bool) → Counts (back_offs t n events) (timers_of t events n).ask → Counts (cond (b && hears now (timers_of t events n).ask) (back_offs t n events + 1) (back_offs t n events)) (cond b (asked (constants_after t events) false now delay word (timers_of t events n)) (timers_of t events n)).ask
  from true h = heard_counts (constants_after t events) now delay word (back_offs t n events) (timers_of t events n).ask h
  from false h = h
level_counts t (Asked name true now delay word ∷ events) n = from (same_name name n) (level_counts t events n) where
  from : (b : Bool) → Counts (back_offs t n events) (timers_of t events n).ask → Counts (back_offs t n events) (cond b (asked (constants_after t events) true now delay word (timers_of t events n)) (timers_of t events n)).ask
  from true h = subst (Counts (back_offs t n events)) (sym (asked_ask (constants_after t events) now delay word (timers_of t events n))) h
  from false h = h
level_counts t (Got name now delay ∷ events) n = from (same_name name n) (level_counts t events n) where
  from : (b : Bool) → Counts (back_offs t n events) (timers_of t events n).ask → Counts (back_offs t n events) (cond b (got now delay (timers_of t events n)) (timers_of t events n)).ask
  from true h = none_counts (back_offs t n events) (got now delay (timers_of t events n)).ask (got_ask now delay (timers_of t events n))
  from false h = h
level_counts t (Tick now words ∷ events) n = fired_counts (constants_after t events) now (word_for words (due_asks (names_of events) (λ m. timers_of t events m) now) n) (back_offs t n events) (timers_of t events n).ask (level_counts t events n)
level_counts t (Tune constants ∷ events) n = level_counts t events n

-- ---- what other calls leave
not_heard : (t : Tuning) (now delay word : ℕ) (o : Option AskTimer) → hears now o ≡ false → heard_ask t now delay word o ≡ o
not_heard t now delay word None e = refl
not_heard t now delay word (Some a) e = ap (λ (b : Bool). Some (cond b (backed_off t a now delay word) a)) e

pub request_stays : RequestStays
request_stays t (Notice name now delay word) events n p q r = from (same_name name n) p where
  from : (b : Bool) → (b && is_none (timers_of t events n).ask) ≡ false → (cond b (noticed (constants_after t events) now delay word (timers_of t events n)) (timers_of t events n)).ask ≡ (timers_of t events n).ask
  from true h = noticed_ask (constants_after t events) now delay word (timers_of t events n) ∙ ap (λ (b : Bool). cond b (Some (new_ask (constants_after t events) now delay word)) (timers_of t events n).ask) h
  from false h = refl
request_stays t (Asked name false now delay word) events n p q r = from (same_name name n) q where
  from : (b : Bool) → (b && hears now (timers_of t events n).ask) ≡ false → (cond b (asked (constants_after t events) false now delay word (timers_of t events n)) (timers_of t events n)).ask ≡ (timers_of t events n).ask
  from true h = not_heard (constants_after t events) now delay word (timers_of t events n).ask h
  from false h = refl
request_stays t (Asked name true now delay word) events n p q r = from (same_name name n) where
  from : (b : Bool) → (cond b (asked (constants_after t events) true now delay word (timers_of t events n)) (timers_of t events n)).ask ≡ (timers_of t events n).ask
  from true = asked_ask (constants_after t events) now delay word (timers_of t events n)
  from false = refl
request_stays t (Got name now delay) events n p q r = ap (λ (b : Bool). (cond b (got now delay (timers_of t events n)) (timers_of t events n)).ask) r
request_stays t (Tick now words) events n p q r = ask_stays (constants_after t events) now (word_for words (due_asks (names_of events) (λ m. timers_of t events m) now) n) (timers_of t events n).ask q
request_stays t (Tune constants) events n p q r = refl

pub answer_stays_set : AnswerStays
answer_stays_set t (Notice name now delay word) events n p q = from (same_name name n) where
  from : (b : Bool) → (cond b (noticed (constants_after t events) now delay word (timers_of t events n)) (timers_of t events n)).answer ≡ (timers_of t events n).answer
  from true = noticed_answer (constants_after t events) now delay word (timers_of t events n)
  from false = refl
answer_stays_set t (Asked name false now delay word) events n p q = from (same_name name n) where
  from : (b : Bool) → (cond b (asked (constants_after t events) false now delay word (timers_of t events n)) (timers_of t events n)).answer ≡ (timers_of t events n).answer
  from true = refl
  from false = refl
answer_stays_set t (Asked name true now delay word) events n p q = from (same_name name n) p where
  from : (b : Bool) → (b && (is_none (timers_of t events n).answer && nat_le (timers_of t events n).quiet now)) ≡ false → (cond b (asked (constants_after t events) true now delay word (timers_of t events n)) (timers_of t events n)).answer ≡ (timers_of t events n).answer
  from true h = asked_answer (constants_after t events) now delay word (timers_of t events n) ∙ ap (λ (b : Bool). cond b (Some (new_answer (constants_after t events) now delay word)) (timers_of t events n).answer) h
  from false h = refl
answer_stays_set t (Got name now delay) events n p q = ap (λ (b : Bool). (cond b (got now delay (timers_of t events n)) (timers_of t events n)).answer) q
answer_stays_set t (Tick now words) events n p q = answer_stays now (timers_of t events n).answer q
answer_stays_set t (Tune constants) events n p q = refl

pub quiet_stays_left : QuietStays
quiet_stays_left t (Notice name now delay word) events n p = from (same_name name n) where
  from : (b : Bool) → (cond b (noticed (constants_after t events) now delay word (timers_of t events n)) (timers_of t events n)).quiet ≡ (timers_of t events n).quiet
  from true = noticed_quiet (constants_after t events) now delay word (timers_of t events n)
  from false = refl
quiet_stays_left t (Asked name false now delay word) events n p = from (same_name name n) where
  from : (b : Bool) → (cond b (asked (constants_after t events) false now delay word (timers_of t events n)) (timers_of t events n)).quiet ≡ (timers_of t events n).quiet
  from true = refl
  from false = refl
quiet_stays_left t (Asked name true now delay word) events n p = from (same_name name n) where
  from : (b : Bool) → (cond b (asked (constants_after t events) true now delay word (timers_of t events n)) (timers_of t events n)).quiet ≡ (timers_of t events n).quiet
  from true = asked_quiet (constants_after t events) now delay word (timers_of t events n)
  from false = refl
quiet_stays_left t (Got name now delay) events n p = from (same_name name n) p where
  from : (b : Bool) → (b && is_standing (timers_of t events n)) ≡ false → (cond b (got now delay (timers_of t events n)) (timers_of t events n)).quiet ≡ (timers_of t events n).quiet
  from true h = ap (λ (b : Bool). (cond b (record { ask = None; answer = None; quiet = now + 3 * delay }) (timers_of t events n)).quiet) h
  from false h = refl
quiet_stays_left t (Tick now words) events n p = quiet_stays now (timers_of t events n).quiet (timers_of t events n).answer p
quiet_stays_left t (Tune constants) events n p = refl

deaf_hears_none : (now : ℕ) (o : Option AskTimer) → IfSome o (λ ask. now < ask.deaf) → hears now o ≡ false
deaf_hears_none now None h = refl
deaf_hears_none now (Some a) h = past now a.deaf h where
  past : (m d : ℕ) → m < d → nat_le d m ≡ false
  past m d l = grind (arith, nat_tests)

pub deaf_stays : DeafStays
deaf_stays t events name n now delay word h = from (same_name name n) refl where
  from : (b : Bool) → same_name name n ≡ b → cond b (asked (constants_after t events) false now delay word (timers_of t events n)) (timers_of t events n) ≡ timers_of t events n
  from true e = ap (λ (o : Option AskTimer). record (timers_of t events n) { ask = o }) (not_heard (constants_after t events) now delay word (timers_of t events n).ask (deaf_hears_none now (timers_of t events n).ask (subst (λ (m : NameValue). IfSome (timers_of t events m).ask (λ ask. now < ask.deaf)) (same_name-is name n e) h)))
  from false e = refl

pub quiet_is_not_answered : QuietIsNotAnswered
quiet_is_not_answered t events name n now delay word h = from (same_name name n) refl where
  past : (m d : ℕ) → m < d → nat_le d m ≡ false
  past m d l = grind (arith, nat_tests)

  from : (b : Bool) → same_name name n ≡ b → cond b (asked (constants_after t events) true now delay word (timers_of t events n)) (timers_of t events n) ≡ timers_of t events n
  from true e =
      let quiet = subst (λ (m : NameValue). now < (timers_of t events m).quiet) (same_name-is name n e) h in
      ap (λ (c : Bool). cond (is_none (timers_of t events n).answer && c) (record (timers_of t events n) { answer = Some (new_answer (constants_after t events) now delay word) }) (timers_of t events n)) (past now (timers_of t events n).quiet quiet)
      ∙ ap (λ (c : Bool). cond c (record (timers_of t events n) { answer = Some (new_answer (constants_after t events) now delay word) }) (timers_of t events n)) (and-false (is_none (timers_of t events n).answer))
  from false e = refl
