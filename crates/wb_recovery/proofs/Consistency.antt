-- How a recovery stays consistent as the timers of a name are replaced.
use Rattle.std.proofs.Common.{◌≡◌, ℕ, Bool, true, false, cond, refl, ap, ◌∙◌, sym, subst, List, Option, Some, None, ◌^◌, ◌<◌, rules}
use Rattle.std.specs.Prelude.{unwrap_or}
use Rattle.std.specs.BTreeMap.{BTreeMap, IsOrdered, get, is_at}
use Rattle.wb_names.specs.Values.{NameValue}
use Rattle.wb_names.specs.Orders.{same_name, name_cmp}
use Rattle.wb_names.proofs.Orders.{same_name-is}
use Rattle.wb_recovery.specs.Timing.{no_timers, ask_due, answer_due, AreDelays, with_ask, with_answer}
use Rattle.wb_recovery.specs.Alarms.{Keep, IsFirst, with_due}
use Rattle.wb_recovery.specs.Values.{RecoveryValue, timers_at, timers_in, Replaces}
use Rattle.wb_recovery.specs.Noticing.{without_ask}
use Rattle.wb_recovery.specs.Consistent.{IsConsistent}
use Rattle.wb_recovery.specs.declared.tuning.Tuning.{Tuning}
use Rattle.wb_recovery.specs.declared.timers.Timers.{Timers}
use Rattle.wb_recovery.specs.declared.timers.AskTimer.{AskTimer}
use Rattle.wb_recovery.specs.declared.timers.AnswerTimer.{AnswerTimer}
use Rattle.wb_recovery.specs.declared.alarms.Alarms.{Alarms}
use Rattle.wb_recovery.proofs.NameOrder.{name_ties}

-- alarms of moments that are the same
pub keep_alike : (f g : NameValue → Option ℕ) (alarms : Alarms) → ((n : NameValue) → f n ≡ g n) → Keep f alarms → Keep g alarms
keep_alike f g alarms same keep = record { each = λ n. keep.each n ∙ same n; bound = λ n d e. keep.bound n d (same n ∙ e); exact = λ e. from alarms.soonest (keep.exact e) } where
  from : (s : Option ℕ) → IsFirst f s → IsFirst g s
  from None h = λ n. sym (same n) ∙ h n
  from (Some d) h = (h.0, sym (same h.0) ∙ h.1, λ n e k. h.2 n e (same n ∙ k))

-- a map whose value at a name was written
pub written : (old new : BTreeMap NameValue Timers) (name : NameValue) (after : Timers) → ((q : NameValue) → get name_cmp new q ≡ cond (is_at (name_cmp name) q) (Some after) (get name_cmp old q)) → (n : NameValue) → timers_at new.entries n ≡ cond (same_name name n) after (timers_at old.entries n)
written old new name after f n = ap (λ (o : Option Timers). unwrap_or o no_timers) (f n ∙ ap (λ (b : Bool). cond b (Some after) (get name_cmp old n)) (sym (name_ties name n))) ∙ out (same_name name n) where
  out : (b : Bool) → unwrap_or (cond b (Some after) (get name_cmp old n)) no_timers ≡ cond b after (timers_at old.entries n)
  out true = refl
  out false = refl

module _ (name : NameValue) (after : Timers) (f g : NameValue → Timers) (replaced : (n : NameValue) → g n ≡ cond (same_name name n) after (f n)) where
  pub dues_replaced : (due : Timers → Option ℕ) (n : NameValue) → with_due (λ m. due (f m)) name (due after) n ≡ due (g n)
  dues_replaced due n = out (same_name name n) ∙ sym (ap due (replaced n)) where
    out : (b : Bool) → cond b (due after) (due (f n)) ≡ due (cond b after (f n))
    out true = refl
    out false = refl

  pub all_replaced : (P : Timers → Type 0) → P after → ((n : NameValue) → P (f n)) → (n : NameValue) → P (g n)
  all_replaced P p q n = subst P (sym (replaced n)) (out (same_name name n)) where
    out : (b : Bool) → P (cond b after (f n))
    out true = p
    out false = q n

  pub keep_moved_to : (due : Timers → Option ℕ) (o : Option ℕ) (alarms : Alarms) → o ≡ due after → Keep (with_due (λ n. due (f n)) name o) alarms → Keep (λ n. due (g n)) alarms
  keep_moved_to due o alarms same keep = keep_alike _ _ alarms (λ n. ap (λ (p : Option ℕ). with_due (λ n. due (f n)) name p n) same ∙ dues_replaced due n) keep

-- alarms of which one is put where it stands
keep_here : (dues : NameValue → Option ℕ) (name : NameValue) (due : Option ℕ) (alarms : Alarms) → dues name ≡ due → Keep dues alarms → Keep (with_due dues name due) alarms
keep_here dues name due alarms same keep = keep_alike _ _ alarms (λ n. from n (same_name name n) refl) keep where
  from : (n : NameValue) (b : Bool) → same_name name n ≡ b → dues n ≡ cond b due (dues n)
  from n true e = ap dues (sym (same_name-is name n e)) ∙ same
  from n false e = refl

-- what a write at one name leaves
module _ (t : Tuning) (m : ℕ) (old new : BTreeMap NameValue Timers) (asks answers : Alarms) (s : IsConsistent t m old asks answers) (name : NameValue) (before : Timers) (is : before ≡ timers_at old.entries name) (ordered : IsOrdered name_cmp new) where
  abbrev pub Writes : Timers → Type 0
  Writes after = (q : NameValue) → get name_cmp new q ≡ cond (is_at (name_cmp name) q) (Some after) (get name_cmp old q)

  delays : AreDelays before
  delays = subst AreDelays (sym is) (s.delays name)

  consistent_written : (after : Timers) (a b : Alarms) → ((n : NameValue) → timers_at new.entries n ≡ cond (same_name name n) after (timers_at old.entries n)) → AreDelays after
      → Keep (with_due (λ n. ask_due (timers_at old.entries n)) name (ask_due after)) a → Keep (with_due (λ n. answer_due (timers_at old.entries n)) name (answer_due after)) b → a.is_exact ≡ true → b.is_exact ≡ true → IsConsistent t m new a b
  consistent_written after a b r d h k first_ask first_answer = record {
    tuning = s.tuning;
    moment = s.moment;
    ordered = ordered;
    delays = all_replaced name after _ _ r AreDelays d s.delays;
    asks = keep_moved_to name after _ _ r ask_due (ask_due after) a refl h;
    answers = keep_moved_to name after _ _ r answer_due (answer_due after) b refl k;
    first_ask = first_ask;
    first_answer = first_answer;
  }

  pub consistent_ask : (ask : AskTimer) (moved : Alarms) → Writes (with_ask before (Some ask)) → ask.delay < 2 ^ 24 → ((dues : NameValue → Option ℕ) → Keep dues asks → Keep (with_due dues name (Some ask.due)) moved) → moved.is_exact ≡ true → IsConsistent t m new moved answers
  consistent_ask ask moved w d k first = consistent_written (with_ask before (Some ask)) moved answers (written old new name (with_ask before (Some ask)) w) (d, delays.1) (k _ s.asks) (keep_here _ name _ answers (ap answer_due (sym is)) s.answers) first s.first_answer

  pub consistent_answer : (answer : AnswerTimer) (moved : Alarms) → Writes (with_answer before (Some answer)) → answer.delay < 2 ^ 24 → ((dues : NameValue → Option ℕ) → Keep dues answers → Keep (with_due dues name (Some answer.due)) moved) → moved.is_exact ≡ true → IsConsistent t m new asks moved
  consistent_answer answer moved w d k first = consistent_written (with_answer before (Some answer)) asks moved (written old new name (with_answer before (Some answer)) w) (delays.0, d) (keep_here _ name _ asks (ap ask_due (sym is)) s.asks) (k _ s.answers) s.first_ask first

  -- without a request timer
  pub consistent_unset : (moved : Alarms) → ((n : NameValue) → timers_at new.entries n ≡ cond (same_name name n) (without_ask before) (timers_at old.entries n)) → ((dues : NameValue → Option ℕ) → Keep dues asks → Keep (with_due dues name None) moved) → moved.is_exact ≡ true → IsConsistent t m new moved answers
  consistent_unset moved r k first = consistent_written (without_ask before) moved answers r (tt, delays.1) (k _ s.asks) (keep_here _ name _ answers (ap answer_due (sym is)) s.answers) first s.first_answer

  -- without timers
  pub consistent_end : (quiet : ℕ) (a b : Alarms) → ((n : NameValue) → timers_at new.entries n ≡ cond (same_name name n) (record { ask = None; answer = None; quiet = quiet }) (timers_at old.entries n)) → ((dues : NameValue → Option ℕ) → Keep dues asks → Keep (with_due dues name None) a) → ((dues : NameValue → Option ℕ) → Keep dues answers → Keep (with_due dues name None) b) → a.is_exact ≡ true → b.is_exact ≡ true → IsConsistent t m new a b
  consistent_end quiet a b r h k first_ask first_answer = consistent_written (record { ask = None; answer = None; quiet = quiet }) a b r (ends quiet) (h _ s.asks) (k _ s.answers) first_ask first_answer where
    ends : (q : ℕ) → AreDelays (record { ask = None; answer = None; quiet = q })
    ends q = search rules

-- what could not be written leaves all as it was
pub consistent_again : (t : Tuning) (m : ℕ) (old new : BTreeMap NameValue Timers) (asks answers moved others : Alarms) → IsConsistent t m old asks answers → new.entries ≡ old.entries → IsOrdered name_cmp new
    → Keep (λ n. ask_due (timers_at old.entries n)) moved → Keep (λ n. answer_due (timers_at old.entries n)) others → moved.is_exact ≡ true → others.is_exact ≡ true → IsConsistent t m new moved others
consistent_again t m old new asks answers moved others s same ordered k l first_ask first_answer = record {
  tuning = s.tuning;
  moment = s.moment;
  ordered = ordered;
  delays = λ n. subst (λ (es : List (NameValue × Timers)). AreDelays (timers_at es n)) (sym same) (s.delays n);
  asks = keep_alike _ _ moved (λ n. ap (λ (es : List (NameValue × Timers)). ask_due (timers_at es n)) (sym same)) k;
  answers = keep_alike _ _ others (λ n. ap (λ (es : List (NameValue × Timers)). answer_due (timers_at es n)) (sym same)) l;
  first_ask = first_ask;
  first_answer = first_answer;
}

-- an alarm that was set for a name without one, and taken away again
pub keep_back : (dues : NameValue → Option ℕ) (name : NameValue) (due : Option ℕ) (alarms : Alarms) → dues name ≡ None → Keep (with_due (with_due dues name due) name None) alarms → Keep dues alarms
keep_back dues name due alarms none keep = keep_alike _ _ alarms (λ n. from n (same_name name n) refl) keep where
  from : (n : NameValue) (b : Bool) → same_name name n ≡ b → cond b None (cond b due (dues n)) ≡ dues n
  from n true e = sym none ∙ ap dues (same_name-is name n e)
  from n false e = refl

-- a write, told of the values
pub replaced_value : (old new : BTreeMap NameValue Timers) (name : NameValue) (after : Timers) (t : Tuning) (m : ℕ) (value : RecoveryValue) → record { tuning = t; moment = m; records = old.entries } ≡ value → ((n : NameValue) → timers_at new.entries n ≡ cond (same_name name n) after (timers_at old.entries n)) → Replaces value (record { tuning = t; moment = m; records = new.entries }) name after
replaced_value old new name after t m value is w = record {
  tuning = ap (λ (v : RecoveryValue). v.tuning) is;
  moment = ap (λ (v : RecoveryValue). v.moment) is;
  timers = λ n. w n ∙ ap (λ (v : RecoveryValue). cond (same_name name n) after (timers_in v n)) is;
}
