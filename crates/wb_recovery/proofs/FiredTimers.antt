-- What firing does to the timers of one name.
use Rattle.std.proofs.Common.{◌≡◌, ℕ, ◌+◌, ◌*◌, Bool, true, false, cond, refl, ap, sym, Option, Some, None, true≢false}
use Rattle.std.proofs.lemmas.Bool.{or_right}
use Rattle.std.specs.Prelude.{is_some, ◌||◌}
use Rattle.wb_recovery.specs.Timing.{ask_due, ask_moment, is_standing, is_ask_due, is_answer_due, fired_ask, fired_answer, quiet_after, backed_off}
use Rattle.wb_recovery.specs.declared.tuning.Tuning.{Tuning}
use Rattle.wb_recovery.specs.declared.timers.AskTimer.{AskTimer}
use Rattle.wb_recovery.specs.declared.timers.AnswerTimer.{AnswerTimer}
use Rattle.wb_recovery.specs.declared.timers.Timers.{Timers}

pub due_answer_stands : (now : ℕ) (s : Timers) → is_answer_due now s.answer ≡ true → is_standing s ≡ true
due_answer_stands now s h = or_right (is_some s.ask) (is_some s.answer) (from s.answer h) where
  from : (o : Option AnswerTimer) → is_answer_due now o ≡ true → is_some o ≡ true
  from None e = absurd (true≢false (sym e))
  from (Some a) e = refl

pub due_request_stands : (now : ℕ) (s : Timers) → is_ask_due now s.ask ≡ true → is_some (ask_due s) ≡ true
due_request_stands now s h = from s.ask h where
  from : (o : Option AskTimer) → is_ask_due now o ≡ true → is_some (ask_moment o) ≡ true
  from None e = absurd (true≢false (sym e))
  from (Some a) e = refl

pub due_answer_ends : (now : ℕ) (o : Option AnswerTimer) → is_answer_due now o ≡ true → fired_answer now o ≡ None
due_answer_ends now None e = refl
due_answer_ends now (Some a) e = ap (λ (b : Bool). cond b None (Some a)) e

-- what is not due stays
pub ask_stays : (t : Tuning) (now word : ℕ) (o : Option AskTimer) → is_ask_due now o ≡ false → fired_ask t now word o ≡ o
ask_stays t now word None e = refl
ask_stays t now word (Some a) e = ap (λ (b : Bool). Some (cond b (backed_off t a now a.delay word) a)) e

pub answer_stays : (now : ℕ) (o : Option AnswerTimer) → is_answer_due now o ≡ false → fired_answer now o ≡ o
answer_stays now None e = refl
answer_stays now (Some a) e = ap (λ (b : Bool). cond b None (Some a)) e

pub quiet_stays : (now quiet : ℕ) (o : Option AnswerTimer) → is_answer_due now o ≡ false → quiet_after now quiet o ≡ quiet
quiet_stays now quiet None e = refl
quiet_stays now quiet (Some a) e = ap (λ (b : Bool). cond b (now + 3 * a.delay) quiet) e

pub asking_stands : (s : Timers) → is_some (ask_due s) ≡ true → is_standing s ≡ true
asking_stands s h = ap (λ (b : Bool). b || is_some s.answer) (from s.ask h) where
  from : (o : Option AskTimer) → is_some (ask_moment o) ≡ true → is_some o ≡ true
  from None e = e
  from (Some a) e = refl
