-- How many names have a timer, and which timer is due next.
use Rattle.std.proofs.Common.{◌≡◌, ℕ, ◌≤◌, true, refl, ap, ◌∙◌, sym, Option, Some, None, ◌⊎◌, ⊎_elim, arith, length}
use Rattle.std.proofs.lemmas.Bool.{or_cases, or_left, or_right}
use Rattle.std.specs.Prelude.{is_some}
use Rattle.std.specs.List.Sorted.{IsStrictlySortedBy}
use Rattle.wb_names.specs.Values.{NameValue}
use Rattle.wb_names.specs.Orders.{name_cmp}
use Rattle.wb_names.specs.Listing.{Lists}
use Rattle.wb_names.proofs.Orders.{name_total}
use Rattle.wb_names.proofs.Listings.{lists_same}
use Rattle.wb_recovery.specs.Timing.{ask_due, answer_due, ask_moment, answer_moment, is_ask_due, is_answer_due, is_set_to}
use Rattle.wb_recovery.specs.Alarms.{is_until, CountsAll, CountsUntil, IsFirst}
use Rattle.wb_recovery.specs.Values.{RecoveryValue, timers_in, names_in}
use Rattle.wb_recovery.specs.Events.{asking, due_asks, is_due_at, IsNextDue}
use Rattle.wb_recovery.specs.declared.timers.AskTimer.{AskTimer}
use Rattle.wb_recovery.specs.declared.timers.AnswerTimer.{AnswerTimer}
use Rattle.wb_recovery.specs.declared.timers.Timers.{Timers}
use Rattle.wb_recovery.proofs.AlarmReads.{is_set_to-here, is_set_to-is}
use Rattle.wb_recovery.proofs.NameLists.{listed_in}

pub is_some_ask : (o : Option AskTimer) → is_some (ask_moment o) ≡ is_some o
is_some_ask None = refl
is_some_ask (Some a) = refl

pub until_ask : (now : ℕ) (o : Option AskTimer) → is_until now (ask_moment o) ≡ is_ask_due now o
until_ask now None = refl
until_ask now (Some a) = refl

pub until_answer : (now : ℕ) (o : Option AnswerTimer) → is_until now (answer_moment o) ≡ is_answer_due now o
until_answer now None = refl
until_answer now (Some a) = refl

module _ (value : RecoveryValue) (rises : IsStrictlySortedBy name_cmp (names_in value)) where
  pub count_asking : (k : ℕ) → CountsAll (λ n. ask_due (timers_in value n)) k → k ≡ length (asking (names_in value) (timers_in value))
  count_asking k counts = counts _ (lists_same name_total _ _ _ (λ n h. is_some_ask (timers_in value n).ask ∙ h) (λ n h. sym (is_some_ask (timers_in value n).ask) ∙ h) (listed_in (λ (s : Timers). is_some s.ask) refl value rises))

  pub list_due_asks : (now : ℕ) → Lists name_cmp (λ n. is_until now (ask_due (timers_in value n)) ≡ true) (due_asks (names_in value) (timers_in value) now)
  list_due_asks now = lists_same name_total _ _ _ (λ n h. until_ask now (timers_in value n).ask ∙ h) (λ n h. sym (until_ask now (timers_in value n).ask) ∙ h) (listed_in (λ (s : Timers). is_ask_due now s.ask) refl value rises)

  pub count_due : (now k : ℕ) → CountsUntil now (λ n. ask_due (timers_in value n)) k → k ≡ length (due_asks (names_in value) (timers_in value) now)
  count_due now k counts = counts _ (list_due_asks now)

-- the lesser of the first request timer and the first answer timer
pub next_both : (f : NameValue → Timers) (k a b : ℕ) → IsFirst (λ n. ask_due (f n)) (Some a) → IsFirst (λ n. answer_due (f n)) (Some b) → k ≤ a → k ≤ b → (k ≡ a) ⊎ (k ≡ b) → IsNextDue f (Some k)
next_both f k a b p q le le' which = (
  found.0,
  found.1,
  λ m e h. ⊎_elim
      (λ (g : is_set_to e (ask_due (f m)) ≡ true). let x : a ≤ e = p.2 m e (is_set_to-is e _ g) in omega arith)
      (λ (g : is_set_to e (answer_due (f m)) ≡ true). let x : b ≤ e = q.2 m e (is_set_to-is e _ g) in omega arith)
      (or_cases _ _ h),
) where
  found : (n : NameValue) × (is_due_at k (f n) ≡ true)
  found = ⊎_elim
      (λ (e : k ≡ a). let r : (n : NameValue) × (is_due_at k (f n) ≡ true) = (p.0, or_left _ _ (ap (is_set_to k) (p.1 ∙ ap Some (sym e)) ∙ is_set_to-here k)) in r)
      (λ (e : k ≡ b). let r : (n : NameValue) × (is_due_at k (f n) ≡ true) = (q.0, or_right _ _ (ap (is_set_to k) (q.1 ∙ ap Some (sym e)) ∙ is_set_to-here k)) in r)
      which
