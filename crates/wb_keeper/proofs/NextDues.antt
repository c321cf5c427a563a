-- The next moment of a keeper, as a function of its calls: it is the least at which a timer is due.
use Rattle.std.proofs.Common.{◌≡◌, ℕ, ◌≤◌, true, false, List, [], ◌∷◌, Option, Some, None, refl, ap, ◌∙◌, sym, subst, arith, ◌⊎◌, inl, inr, ⊎_elim, true≢false}
use Rattle.std.proofs.lemmas.Bool.{or_cases, or_left, or_right}
use Rattle.std.specs.Prelude.{Contains, ◌||◌, min, is_some}
use Rattle.wb_names.specs.Values.{NameValue}
use Rattle.wb_names.proofs.Listings.{Contains-cases, Contains-none}
use Rattle.wb_recovery.specs.Timing.{no_timers, ask_due, answer_due, ask_moment, answer_moment, is_set_to, is_standing}
use Rattle.wb_recovery.specs.Events.{Event, names_of, timers_of, is_due_at, IsNextDue}
use Rattle.wb_recovery.specs.Accepted.{StandsFor}
use Rattle.wb_recovery.specs.Values.{RecoveryValue, timers_in}
use Rattle.wb_recovery.specs.declared.timers.AskTimer.{AskTimer}
use Rattle.wb_recovery.specs.declared.timers.AnswerTimer.{AnswerTimer}
use Rattle.wb_recovery.specs.declared.timers.Timers.{Timers}
use Rattle.wb_recovery.specs.declared.tuning.Tuning.{Tuning}
use Rattle.wb_recovery.proofs.AlarmReads.{is_set_to-here, is_set_to-is, min_either}
use Rattle.wb_recovery.proofs.NameLists.{known}
use Rattle.wb_keeper.specs.Dues.{sooner, soonest, next_due_of, NextDueIsLeast}

-- the moments at which a timer of this name is due
abbrev due_of : Timers → Option ℕ
due_of s = sooner (ask_due s) (answer_due s)

-- ---- the lesser of two

-- a moment is one of two
abbrev IsOneOf : Option ℕ → Option ℕ → ℕ → Type 0
IsOneOf a b d = (a ≡ Some d) ⊎ (b ≡ Some d)

-- what is left of a moment that is Some
abbrev IsAtMost : Option ℕ → Option ℕ → Type 0
IsAtMost k (Some d) = (e : ℕ) × (k ≡ Some e) × (e ≤ d)
IsAtMost k None = Unit {0}

sooner_left : (a b : Option ℕ) → IsAtMost (sooner a b) a
sooner_left None b = tt
sooner_left (Some a) None = (a, refl, omega arith)
sooner_left (Some a) (Some b) = (min a b, refl, omega arith)

sooner_right : (a b : Option ℕ) → IsAtMost (sooner a b) b
sooner_right None None = tt
sooner_right None (Some b) = (b, refl, omega arith)
sooner_right (Some a) None = tt
sooner_right (Some a) (Some b) = (min a b, refl, omega arith)

sooner_one : (a b : Option ℕ) (d : ℕ) → sooner a b ≡ Some d → IsOneOf a b d
sooner_one None b d e = inr e
sooner_one (Some a) None d e = inl e
sooner_one (Some a) (Some b) d e = ⊎_elim (λ (h : min a b ≡ a). inl (ap (λ (n : ℕ). Some n) (sym h) ∙ e)) (λ (h : min a b ≡ b). inr (ap (λ (n : ℕ). Some n) (sym h) ∙ e)) (min_either a b)

at_most_then : (k m : Option ℕ) (d : ℕ) → IsAtMost k m → m ≡ Some d → IsAtMost k (Some d)
at_most_then k m d le e = subst (λ (o : Option ℕ). IsAtMost k o) e le

at_most_both : (k m : Option ℕ) (o : Option ℕ) → IsAtMost k m → IsAtMost m o → IsAtMost k o
at_most_both k m None p q = tt
at_most_both k m (Some d) p q =
    let r = at_most_then k m q.0 p q.1 in
    let a : r.0 ≤ q.0 = r.2 in
    let b : q.0 ≤ d = q.2 in
    (r.0, r.1, omega arith)

-- ---- the least of some names

module _ (f : NameValue → Timers) where
  soonest_below : (names : List NameValue) (n : NameValue) → Contains names n → IsAtMost (soonest f names) (due_of (f n))
  soonest_below [] n c = absurd (Contains-none n c)
  soonest_below (m ∷ names) n c = ⊎_elim
      (λ (e : m ≡ n). subst (λ (k : NameValue). IsAtMost (soonest f (m ∷ names)) (due_of (f k))) e (sooner_left (due_of (f m)) (soonest f names)))
      (λ (h : Contains names n). at_most_both _ (soonest f names) (due_of (f n)) (sooner_right (due_of (f m)) (soonest f names)) (soonest_below names n h))
      (Contains-cases m n names c)

  soonest_found : (names : List NameValue) (d : ℕ) → soonest f names ≡ Some d → (n : NameValue) × (due_of (f n) ≡ Some d)
  soonest_found [] d e = absurd cc
  soonest_found (m ∷ names) d e = ⊎_elim
      (λ (h : due_of (f m) ≡ Some d). let r : (n : NameValue) × (due_of (f n) ≡ Some d) = (m, h) in r)
      (λ (h : soonest f names ≡ Some d). soonest_found names d h)
      (sooner_one (due_of (f m)) (soonest f names) d e)

-- ---- a timer that is due at a moment

set_of : (d : ℕ) (o : Option ℕ) → o ≡ Some d → is_set_to d o ≡ true
set_of d o e = ap (is_set_to d) e ∙ is_set_to-here d

due_now : (s : Timers) (d : ℕ) → due_of s ≡ Some d → is_due_at d s ≡ true
due_now s d e = ⊎_elim (λ (h : ask_due s ≡ Some d). or_left _ _ (set_of d _ h)) (λ (h : answer_due s ≡ Some d). or_right _ _ (set_of d _ h)) (sooner_one (ask_due s) (answer_due s) d e)

due_after : (s : Timers) (e : ℕ) → is_due_at e s ≡ true → IsAtMost (due_of s) (Some e)
due_after s e h = ⊎_elim
    (λ (g : is_set_to e (ask_due s) ≡ true). at_most_then (due_of s) (ask_due s) e (sooner_left (ask_due s) (answer_due s)) (is_set_to-is e _ g))
    (λ (g : is_set_to e (answer_due s) ≡ true). at_most_then (due_of s) (answer_due s) e (sooner_right (ask_due s) (answer_due s)) (is_set_to-is e _ g))
    (or_cases _ _ h)

never : (s : Timers) → due_of s ≡ None → is_standing s ≡ false
never s e = from s.ask s.answer e where
  from : (a : Option AskTimer) (b : Option AnswerTimer) → sooner (ask_moment a) (answer_moment b) ≡ None → (is_some a || is_some b) ≡ false
  from None None e = refl
  from None (Some b) e = absurd cc
  from (Some a) None e = absurd cc
  from (Some a) (Some b) e = absurd cc

-- ---- the next moment

module _ (t : Tuning) (events : List Event) where
  abbrev timers : NameValue → Timers
  timers = timers_of t events

  at_most : (n : NameValue) → IsAtMost (next_due_of t events) (due_of (timers n))
  at_most n = ⊎_elim
      (λ (e : timers n ≡ no_timers). subst (λ (s : Timers). IsAtMost (next_due_of t events) (due_of s)) (sym e) tt)
      (λ (c : Contains (names_of events) n). soonest_below timers (names_of events) n c)
      (known t events n)

  least : (o : Option ℕ) → next_due_of t events ≡ o → IsNextDue timers o
  least None e = λ n. never (timers n) (none_after (due_of (timers n)) (at_most n)) where
    none_after : (o : Option ℕ) → IsAtMost (next_due_of t events) o → o ≡ None
    none_after None le = refl
    none_after (Some d) le = let h = sym e ∙ le.1 in absurd cc
  least (Some d) e =
      let found = soonest_found timers (names_of events) d e in (
        found.0,
        due_now (timers found.0) d found.1,
        λ m k h.
            let le = at_most_both (next_due_of t events) (due_of (timers m)) (Some k) (at_most m) (due_after (timers m) k h) in
            let same : d ≡ le.0 = some_is (sym e ∙ le.1) in
            let below : le.0 ≤ k = le.2 in
            omega arith,
      ) where
        some_is : {a b : ℕ} → Some a ≡ Some b → a ≡ b
        some_is e = cc

pub next_due_is_least : NextDueIsLeast
next_due_is_least t events = least t events (next_due_of t events) refl

-- ---- there is one

standing_due : (s : Timers) → is_standing s ≡ false → (d : ℕ) → is_due_at d s ≡ false
standing_due s e d = from s.ask s.answer e where
  from : (a : Option AskTimer) (b : Option AnswerTimer) → (is_some a || is_some b) ≡ false → (is_set_to d (ask_moment a) || is_set_to d (answer_moment b)) ≡ false
  from None None e = refl
  from None (Some b) e = absurd (true≢false e)
  from (Some a) b e = absurd (true≢false e)

one_next : (f : NameValue → Timers) (a b : Option ℕ) → IsNextDue f a → IsNextDue f b → a ≡ b
one_next f None None p q = refl
one_next f None (Some b) p q = absurd (true≢false (sym q.1 ∙ standing_due (f q.0) (p q.0) b))
one_next f (Some a) None p q = absurd (true≢false (sym p.1 ∙ standing_due (f p.0) (q p.0) a))
one_next f (Some a) (Some b) p q =
    let x : a ≤ b = p.2 q.0 b q.1 in
    let y : b ≤ a = q.2 p.0 a p.1 in
    let same : a ≡ b = omega arith in
    ap (λ (n : ℕ). Some n) same

-- timers that are the same
moved : (f g : NameValue → Timers) → ((n : NameValue) → f n ≡ g n) → (o : Option ℕ) → IsNextDue f o → IsNextDue g o
moved f g same None p = λ n. ap is_standing (sym (same n)) ∙ p n
moved f g same (Some d) p = (p.0, ap (is_due_at d) (sym (same p.0)) ∙ p.1, λ m e h. p.2 m e (ap (is_due_at e) (same m) ∙ h))

-- what a recovery says that stands for these calls
pub next_by_calls : (t : Tuning) (events : List Event) (value : RecoveryValue) (o : Option ℕ) → StandsFor t events value → IsNextDue (timers_in value) o → o ≡ next_due_of t events
next_by_calls t events value o stands next = one_next (timers_of t events) o (next_due_of t events) (moved (timers_in value) (timers_of t events) stands.timers o next) (next_due_is_least t events)
