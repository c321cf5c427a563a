-- What firing some requests and some answers leaves.
use Rattle.std.proofs.Common.{◌≡◌, ℕ, ◌<◌, ◌^◌, Bool, true, false, cond, Option, Some, None, List, refl, ap, ◌∙◌, sym}
use Rattle.std.specs.Prelude.{nat_le, IfSome}
use Rattle.wb_names.specs.Values.{NameValue}
use Rattle.wb_recovery.specs.Timing.{ask_due, answer_due, fired_ask, backed_off, AreDelays}
use Rattle.wb_recovery.specs.Events.{word_for}
use Rattle.wb_recovery.specs.declared.timers.AskTimer.{AskTimer}
use Rattle.wb_recovery.specs.Alarms.{among, Keep}
use Rattle.wb_recovery.specs.Firing.{with_ask_fired, with_answer_fired}
use Rattle.wb_recovery.specs.Stopping.{with_asks_fired, with_these_fired}
use Rattle.wb_recovery.specs.declared.tuning.Tuning.{Tuning}
use Rattle.wb_recovery.specs.declared.timers.Timers.{Timers}
use Rattle.wb_recovery.specs.declared.alarms.Alarms.{Alarms}
use Rattle.wb_recovery.proofs.Consistency.{keep_alike}

-- the delays of timers that back off stay
pub fired_delays : (t : Tuning) (now : ℕ) (words : List ℕ) (asking : List NameValue) (f : NameValue → Timers) → ((n : NameValue) → AreDelays (f n)) → (n : NameValue) → AreDelays (with_asks_fired t now words asking f n)
fired_delays t now words asking f h n = from (among asking n) where
  ask : (word : ℕ) (o : Option AskTimer) → IfSome o (λ a. a.delay < 2 ^ 24) → IfSome (fired_ask t now word o) (λ a. a.delay < 2 ^ 24)
  ask word None e = e
  ask word (Some a) e = at (nat_le a.due now) where
    at : (b : Bool) → (cond b (backed_off t a now a.delay word) a).delay < 2 ^ 24
    at true = e
    at false = e

  from : (b : Bool) → AreDelays (cond b (with_ask_fired t now words asking f n) (f n))
  from true = (ask (word_for words asking n) (f n).ask (h n).0, (h n).1)
  from false = h n

module _ (t : Tuning) (now : ℕ) (words : List ℕ) (asking : List NameValue) (f : NameValue → Timers) where
  module _ (g : NameValue → Timers) (r : (n : NameValue) → g n ≡ with_asks_fired t now words asking f n) where
    pub answer_as_before : (n : NameValue) → (g n).answer ≡ (f n).answer
    answer_as_before n = ap (λ (s : Timers). s.answer) (r n) ∙ from (among asking n) where
      from : (b : Bool) → (cond b (with_ask_fired t now words asking f n) (f n)).answer ≡ (f n).answer
      from true = refl
      from false = refl

    pub answers_kept : (alarms : Alarms) → Keep (λ n. answer_due (f n)) alarms → Keep (λ n. answer_due (g n)) alarms
    answers_kept alarms keep = keep_alike _ _ alarms (λ n. sym (due n)) keep where
      due : (n : NameValue) → answer_due (g n) ≡ answer_due (f n)
      due n = ap answer_due (r n) ∙ from (among asking n) where
        from : (b : Bool) → answer_due (cond b (with_ask_fired t now words asking f n) (f n)) ≡ answer_due (f n)
        from true = refl
        from false = refl

    module _ (answering : List NameValue) (h : NameValue → Timers) (s : (n : NameValue) → h n ≡ cond (among answering n) (with_answer_fired now g n) (g n)) where
      pub these_fired : (n : NameValue) → h n ≡ with_these_fired t now words asking answering f n
      these_fired n = s n ∙ ap (λ (k : Timers). cond (among answering n) (with_answer_fired now (λ m. k) n) k) (r n)

      pub asks_kept : (alarms : Alarms) → Keep (λ n. ask_due (g n)) alarms → Keep (λ n. ask_due (h n)) alarms
      asks_kept alarms keep = keep_alike _ _ alarms (λ n. sym (ap ask_due (s n) ∙ from n (among answering n))) keep where
        from : (n : NameValue) (b : Bool) → ask_due (cond b (with_answer_fired now g n) (g n)) ≡ ask_due (g n)
        from n true = refl
        from n false = refl
