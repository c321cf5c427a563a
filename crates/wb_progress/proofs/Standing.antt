-- What becomes of a timer that stands, and why a name is quiet.
use Rattle.std.proofs.Common.{◌≡◌, ℕ, ◌+◌, ◌*◌, ◌≤◌, ◌<◌, Bool, true, false, cond, List, [], ◌∷◌, ◌++◌, Option, Some, None, refl, ap, ◌∙◌, sym, subst, arith, ◌⊎◌, inl, inr, ⊎_elim}
use Rattle.std.specs.Prelude.{IfSome, is_none, nat_le, ◌&&◌}
use Rattle.std.proofs.Math.Bool.{and-false}
use Rattle.std.proofs.Math.Nat.{le_refl, mul-le-mul_left}
use Rattle.wb_names.specs.Values.{NameValue}
use Rattle.wb_names.specs.Orders.{same_name}
use Rattle.wb_names.proofs.Orders.{same_name-here}
use Rattle.wb_recovery.specs.Timing.{asked, new_answer, is_answer_due}
use Rattle.wb_recovery.specs.Events.{Event, Notice, Asked, Got, Tick, Tune, constants_after, moment_of, timers_of}
use Rattle.wb_recovery.specs.Laws.{arrives, sets_ask, backs_off, sets_answer, ends_answer, quiets}
use Rattle.wb_recovery.specs.declared.tuning.Tuning.{Tuning}
use Rattle.wb_recovery.specs.declared.timers.AskTimer.{AskTimer}
use Rattle.wb_recovery.specs.declared.timers.AnswerTimer.{AnswerTimer}
use Rattle.wb_recovery.specs.declared.timers.Timers.{Timers}
use Rattle.wb_recovery.proofs.TimerLaws.{request_stays, answer_stays_set, quiet_stays_left}
use Rattle.wb_progress.specs.Bounds.{AreAnswersNear, AreSteady, IsAnswerNear}
use Rattle.wb_progress.specs.Standing.{Did, AnswersAreKept, RequestsAreKept, IsCause, QuietHasCause, RequestsAreTaken, IsRecent, RequestsLeadOn}
use Rattle.wb_progress.proofs.TimerBounds.{answers_are_bounded, answers_later}
use Rattle.std.proofs.lemmas.Bool.{le-leb, leb-false}

-- one more call
more : (does : Event → List Event → Type 0) (e : Event) (newer older : List Event) → Did does newer older → Did does (e ∷ newer) older
more does e newer older h = record { after = e ∷ h.after; e = h.e; before = h.before; split = ap (λ (es : List Event). e ∷ es) h.split; did = h.did }

newest : (does : Event → List Event → Type 0) (e : Event) (newer older : List Event) → does e (newer ++ older) → Did does (e ∷ newer) older
newest does e newer older h = record { after = []; e = e; before = newer; split = refl; did = h }

-- where an answer timer stands none is set
no_set_answer : (t : Tuning) (n : NameValue) (e : Event) (events : List Event) (answer : AnswerTimer) → (timers_of t events n).answer ≡ Some answer → sets_answer t n e events ≡ false
no_set_answer t n (Notice name now delay word) events answer is = refl
no_set_answer t n (Asked name false now delay word) events answer is = refl
no_set_answer t n (Asked name true now delay word) events answer is = ap (λ (o : Option AnswerTimer). same_name name n && (is_none o && nat_le (timers_of t events n).quiet now)) is ∙ and-false (same_name name n)
no_set_answer t n (Got name now delay) events answer is = refl
no_set_answer t n (Tick now words) events answer is = refl
no_set_answer t n (Tune constants) events answer is = refl

no_set_ask : (t : Tuning) (n : NameValue) (e : Event) (events : List Event) (ask : AskTimer) → (timers_of t events n).ask ≡ Some ask → sets_ask t n e events ≡ false
no_set_ask t n (Notice name now delay word) events ask is = ap (λ (o : Option AskTimer). same_name name n && is_none o) is ∙ and-false (same_name name n)
no_set_ask t n (Asked name held now delay word) events ask is = refl
no_set_ask t n (Got name now delay) events ask is = refl
no_set_ask t n (Tick now words) events ask is = refl
no_set_ask t n (Tune constants) events ask is = refl

pub answers_are_kept : AnswersAreKept
answers_are_kept t n [] older answer is = inl is
answers_are_kept t n (e ∷ newer) older answer is = ⊎_elim
    (λ (h : (timers_of t (newer ++ older) n).answer ≡ Some answer). from h (ends_answer t n e (newer ++ older)) refl)
    (λ (h : Did (λ e before. ends_answer t n e before ≡ true) newer older). inr (more (λ e before. ends_answer t n e before ≡ true) e newer older h))
    (answers_are_kept t n newer older answer is) where
      from : (timers_of t (newer ++ older) n).answer ≡ Some answer → (b : Bool) → ends_answer t n e (newer ++ older) ≡ b → ((timers_of t (e ∷ (newer ++ older)) n).answer ≡ Some answer) ⊎ Did (λ e before. ends_answer t n e before ≡ true) (e ∷ newer) older
      from h true f = inr (newest (λ e before. ends_answer t n e before ≡ true) e newer older f)
      from h false f = inl (answer_stays_set t e (newer ++ older) n (no_set_answer t n e (newer ++ older) answer h) f ∙ h)

abbrev Ends : Tuning → NameValue → Event → List Event → Type 0
Ends t n e before = (backs_off t n e before ≡ true) ⊎ (arrives n e before ≡ true)

pub requests_are_kept : RequestsAreKept
requests_are_kept t n [] older ask is = inl is
requests_are_kept t n (e ∷ newer) older ask is = ⊎_elim
    (λ (h : (timers_of t (newer ++ older) n).ask ≡ Some ask). from h (backs_off t n e (newer ++ older)) refl (arrives n e (newer ++ older)) refl)
    (λ (h : Did (Ends t n) newer older). inr (more (Ends t n) e newer older h))
    (requests_are_kept t n newer older ask is) where
      from : (timers_of t (newer ++ older) n).ask ≡ Some ask → (b : Bool) → backs_off t n e (newer ++ older) ≡ b → (c : Bool) → arrives n e (newer ++ older) ≡ c → ((timers_of t (e ∷ (newer ++ older)) n).ask ≡ Some ask) ⊎ Did (Ends t n) (e ∷ newer) older
      from h true f c g = inr (newest (Ends t n) e newer older (inl f))
      from h false f true g = inr (newest (Ends t n) e newer older (inr g))
      from h false f false g = inl (request_stays t e (newer ++ older) n (no_set_ask t n e (newer ++ older) ask h) f g ∙ h)

-- the same cause, for an equal time until which the name is quiet
same_cause : (t : Tuning) (far : ℕ) (n : NameValue) (newer older : List Event) (a b : ℕ) → a ≡ b → Did (IsCause t far n a) newer older → Did (IsCause t far n b) newer older
same_cause t far n newer older a b e h = subst (λ (q : ℕ). Did (IsCause t far n q) newer older) e h

onward : (bound t : Tuning) (far : ℕ) (newer older : List Event) → AreSteady far bound t newer older → moment_of older ≤ moment_of (newer ++ older)
onward bound t far [] older steady = le_refl (moment_of older)
onward bound t far (e ∷ newer) older steady = let le = onward bound t far newer older steady.3 in let o = steady.0 in omega (arith, le, o)

pub quiet_has_cause : QuietHasCause
quiet_has_cause bound t far n [] older steady near = inl refl
quiet_has_cause bound t far n (e ∷ newer) older steady near = from (quiets t n e (newer ++ older)) refl (quiet_has_cause bound t far n newer older steady.3 near) where
  moment : ℕ
  moment = moment_of (e ∷ (newer ++ older))

  near_then : AreAnswersNear bound far moment (timers_of t (e ∷ (newer ++ older)) n)
  near_then =
      answers_are_bounded bound t far moment (e ∷ newer) older steady (le_refl moment) n
      (answers_later bound far (moment_of older) moment (timers_of t older n) (onward bound t far (e ∷ newer) older steady) near)

  from : (b : Bool) → quiets t n e (newer ++ older) ≡ b
      → ((timers_of t (newer ++ older) n).quiet ≡ (timers_of t older n).quiet) ⊎ Did (IsCause t far n (timers_of t (newer ++ older) n).quiet) newer older
      → ((timers_of t (e ∷ (newer ++ older)) n).quiet ≡ (timers_of t older n).quiet) ⊎ Did (IsCause t far n (timers_of t (e ∷ (newer ++ older)) n).quiet) (e ∷ newer) older
  from true f rest = inr (newest (IsCause t far n (timers_of t (e ∷ (newer ++ older)) n).quiet) e newer older (record { quiets_it = f; until = near_then.quiet }))
  from false f rest =
      let same = quiet_stays_left t e (newer ++ older) n f in
      ⊎_elim
      (λ (h : (timers_of t (newer ++ older) n).quiet ≡ (timers_of t older n).quiet). inl (same ∙ h))
      (λ (h : Did (IsCause t far n (timers_of t (newer ++ older) n).quiet) newer older). inr (more (IsCause t far n (timers_of t (e ∷ (newer ++ older)) n).quiet) e newer older (same_cause t far n newer older _ _ (sym same) h)))
      rest

-- ---- a request that is heard

is_quiet : (t : Tuning) (now delay word : ℕ) (s : Timers) → (asked t true now delay word s).answer ≡ None → now < s.quiet
is_quiet t now delay word s e = from s.answer refl (nat_le s.quiet now) refl where
  from : (o : Option AnswerTimer) → s.answer ≡ o → (b : Bool) → nat_le s.quiet now ≡ b → now < s.quiet
  from (Some a) f b g = absurd (other a (sym (ap (λ (o : Option AnswerTimer). (cond (is_none o && nat_le s.quiet now) (record s { answer = Some (new_answer t now delay word) }) s).answer) f ∙ f) ∙ e)) where
    other : (a : AnswerTimer) → Some a ≡ None → ⊥
    other a e = cc
  from None f true g = absurd (other (new_answer t now delay word) (sym (ap (λ (o : Option AnswerTimer). (cond (is_none o && nat_le s.quiet now) (record s { answer = Some (new_answer t now delay word) }) s).answer) f ∙ ap (λ (b : Bool). (cond b (record s { answer = Some (new_answer t now delay word) }) s).answer) g) ∙ e)) where
    other : (a : AnswerTimer) → Some a ≡ None → ⊥
    other a e = cc
  from None f false g = leb-false s.quiet now g

waits : (now due c delay far : ℕ) → due ≤ now + c * delay → delay ≤ far → due ≤ now + c * far
waits now due c delay far le near = let m = mul-le-mul_left c near in omega (arith, le, m)

-- it finds the name quiet, or a near answer timer stands after it
pub taken : (bound t : Tuning) (far moment now delay word : ℕ) (s next : Timers) → next ≡ asked t true now delay word s → AreAnswersNear bound far moment next
    → (now < s.quiet) ⊎ ((answer : AnswerTimer) × (next.answer ≡ Some answer) × (answer.due ≤ moment + (bound.d1 + bound.d2) * far))
taken bound t far moment now delay word s next same near = from next.answer refl near.answer where
  from : (o : Option AnswerTimer) → next.answer ≡ o → IfSome o (IsAnswerNear bound far moment)
      → (now < s.quiet) ⊎ ((answer : AnswerTimer) × (next.answer ≡ Some answer) × (answer.due ≤ moment + (bound.d1 + bound.d2) * far))
  from (Some a) e near = inr (a, e, waits moment a.due (bound.d1 + bound.d2) a.delay far near.due near.delay)
  from None e near = inl (is_quiet t now delay word s (sym (ap (λ (k : Timers). k.answer) same) ∙ e))

pub requests_are_taken : RequestsAreTaken
requests_are_taken bound t far moment n newer older now delay word steady by near =
    let s = timers_of t (newer ++ older) n in
    let constants = constants_after t (newer ++ older) in
    let request = Asked n true now delay word in
    taken bound constants far moment now delay word s (timers_of t (request ∷ (newer ++ older)) n) (ap (λ (b : Bool). cond b (asked constants true now delay word s) s) (same_name-here n n refl))
    (answers_are_bounded bound t far moment (request ∷ newer) older steady by n near)

-- ---- and what it leads to

-- more calls before the oldest, and behind the newest
further : (does : Event → List Event → Type 0) (after newer older : List Event) → Did does newer older → Did does (after ++ newer) older
further does [] newer older h = h
further does (e ∷ after) newer older h = more does e (after ++ newer) older (further does after newer older h)

recent : (t : Tuning) (far : ℕ) (n : NameValue) (now quiet : ℕ) (newer older : List Event) → now < quiet → Did (IsCause t far n quiet) newer older → Did (IsRecent t far n now) newer older
recent t far n now quiet newer older lt h = record {
  after = h.after;
  e = h.e;
  before = h.before;
  split = h.split;
  did = record { quiets_it = h.did.quiets_it; recent = let u = h.did.until in omega (arith, lt, u) };
}

abbrev EndsAnswer : Tuning → NameValue → Event → List Event → Type 0
EndsAnswer t n e older = ends_answer t n e older ≡ true

quiet_recent : (bound t : Tuning) (far : ℕ) (n : NameValue) (now : ℕ) (newer older : List Event) → AreSteady far bound t newer older → AreAnswersNear bound far (moment_of older) (timers_of t older n) → now < (timers_of t (newer ++ older) n).quiet
    → (now < (timers_of t older n).quiet) ⊎ Did (IsRecent t far n now) newer older
quiet_recent bound t far n now newer older steady near lt =
    let q = (timers_of t (newer ++ older) n).quiet in
    ⊎_elim
    (λ (e : q ≡ (timers_of t older n).quiet). inl (subst (λ (k : ℕ). now < k) e lt))
    (λ (h : Did (IsCause t far n q) newer older). inr (recent t far n now q newer older lt h))
    (quiet_has_cause bound t far n newer older steady near)

pub requests_lead_on : RequestsLeadOn
requests_lead_on bound t far n after before newer older now delay word moment words steady near late = ⊎_elim
    (λ (q : now < (timers_of t events n).quiet). ⊎_elim
    (λ (stays : now < (timers_of t older n).quiet). inl stays)
    (λ (h : Did (IsRecent t far n now) newer older). inr (inl h))
    (quiet_recent bound t far n now newer older steady.3 near q))
    (λ (a : (answer : AnswerTimer) × ((timers_of t asked_for n).answer ≡ Some answer) × (answer.due ≤ now + (bound.d1 + bound.d2) * far)).
    inr (inr (further (EndsAnswer t n) after (Tick moment words ∷ before) asked_for (ends a.0 a.1 (within a.2)))))
    (requests_are_taken bound t far now n newer older now delay word steady (le_refl now) (answers_later bound far (moment_of older) now (timers_of t older n) (onward bound t far (Asked n true now delay word ∷ newer) older steady) near)) where
      events : List Event
      events = newer ++ older

      asked_for : List Event
      asked_for = Asked n true now delay word ∷ events

      within : {due : ℕ} → due ≤ now + (bound.d1 + bound.d2) * far → due ≤ moment
      within le = omega (arith, le, late)

      ends : (answer : AnswerTimer) → (timers_of t asked_for n).answer ≡ Some answer → answer.due ≤ moment → Did (EndsAnswer t n) (Tick moment words ∷ before) asked_for
      ends answer e due = ⊎_elim
          (λ (h : (timers_of t (before ++ asked_for) n).answer ≡ Some answer).
          newest (EndsAnswer t n) (Tick moment words) before asked_for (ap (is_answer_due moment) h ∙ le-leb answer.due moment due))
          (λ (h : Did (EndsAnswer t n) before asked_for). more (EndsAnswer t n) (Tick moment words) before asked_for h)
          (answers_are_kept t n before asked_for answer e)
