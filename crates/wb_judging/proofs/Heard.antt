-- Whom the echo under our own number tells something: nobody of another number.
use Rattle.std.proofs.Common.{◌≡◌, ◌⊎◌, ◌∙◌, ℕ, ◌<◌, Bool, true, false, cond, List, [], ◌∷◌, ◌++◌, ap, append-nil, arith, filter, inl, inr, length, refl, sym, true≢false}
use Rattle.std.specs.Prelude.{nat_eq, nat_lt}
use Rattle.std.proofs.lemmas.Bool.Decides.{nat_tests}
use Rattle.std.proofs.lemmas.List.Elements.{filter-append}
use Rattle.wb_names.specs.declared.echo.Echo.{Echo}
use Rattle.wb_names.specs.declared.entries.TheConstants.{MAX_ENTRIES}
use Rattle.wb_policy.specs.Choices.{own_echo}
use Rattle.wb_judging.specs.Echoing.{placed}
use Rattle.wb_judging.specs.Laws.{OthersHearTheSame}

-- all that pass one test pass the other, or none does
pub filter_of_filter : (p q : Echo → Bool) → ((f : Echo) → p f ≡ true → q f ≡ true) → (es : List Echo) → filter p (filter q es) ≡ filter p es
filter_of_filter p q so [] = refl
filter_of_filter p q so (f ∷ es) = by (p f) (q f) refl refl (filter_of_filter p q so es) where
  by : (a b : Bool) → p f ≡ a → q f ≡ b → filter p (filter q es) ≡ filter p es → filter p (cond b (f ∷ filter q es) (filter q es)) ≡ cond a (f ∷ filter p es) (filter p es)
  by true true is and more = ap (λ (c : Bool). cond c (f ∷ filter p (filter q es)) (filter p (filter q es))) is ∙ ap (λ (fs : List Echo). f ∷ fs) more
  by true false is and more = absurd (true≢false (sym (so f is) ∙ and))
  by false true is and more = ap (λ (c : Bool). cond c (f ∷ filter p (filter q es)) (filter p (filter q es))) is ∙ more
  by false false is and more = more

loses : (p q : Echo → Bool) → ((f : Echo) → p f ≡ true → q f ≡ false) → (es : List Echo) → filter p (filter q es) ≡ []
loses p q so [] = refl
loses p q so (f ∷ es) = by (p f) (q f) refl refl (loses p q so es) where
  by : (a b : Bool) → p f ≡ a → q f ≡ b → filter p (filter q es) ≡ [] → filter p (cond b (f ∷ filter q es) (filter q es)) ≡ []
  by true true is and more = absurd (true≢false (sym and ∙ so f is))
  by false true is and more = ap (λ (c : Bool). cond c (f ∷ filter p (filter q es)) (filter p (filter q es))) is ∙ more
  by a false is and more = more

apart : (n s : ℕ) → ¬ (s ≡ n) → (n < s) ⊎ (s < n)
apart n s other = by (nat_lt n s) refl where
  by : (b : Bool) → nat_lt n s ≡ b → (n < s) ⊎ (s < n)
  by true is = inl (grind (arith, nat_tests))
  by false is = inr (grind (arith, nat_tests))

abbrev is_of : ℕ → Echo → Bool
is_of n f = nat_eq f.source n

abbrev is_below : ℕ → Echo → Bool
is_below s f = nat_lt f.source s

abbrev is_above : ℕ → Echo → Bool
is_above s f = nat_lt s f.source

below_keeps : (n s : ℕ) → n < s → (f : Echo) → is_of n f ≡ true → is_below s f ≡ true
below_keeps n s less f is = grind (arith, nat_tests)

below_loses : (n s : ℕ) → s < n → (f : Echo) → is_of n f ≡ true → is_below s f ≡ false
below_loses n s more f is = grind (arith, nat_tests)

above_keeps : (n s : ℕ) → s < n → (f : Echo) → is_of n f ≡ true → is_above s f ≡ true
above_keeps n s more f is = grind (arith, nat_tests)

above_loses : (n s : ℕ) → n < s → (f : Echo) → is_of n f ≡ true → is_above s f ≡ false
above_loses n s less f is = grind (arith, nat_tests)

parts_same : (n s : ℕ) (es : List Echo) → (n < s) ⊎ (s < n) → filter (is_of n) (filter (is_below s) es) ++ filter (is_of n) (filter (is_above s) es) ≡ filter (is_of n) es
parts_same n s es (inl less) =
    ap (λ (fs : List Echo). filter (is_of n) (filter (is_below s) es) ++ fs) (loses (is_of n) (is_above s) (above_loses n s less) es)
    ∙ append-nil (filter (is_of n) (filter (is_below s) es))
    ∙ filter_of_filter (is_of n) (is_below s) (below_keeps n s less) es
parts_same n s es (inr more) =
    ap (λ (fs : List Echo). fs ++ filter (is_of n) (filter (is_above s) es)) (loses (is_of n) (is_below s) (below_loses n s more) es)
    ∙ filter_of_filter (is_of n) (is_above s) (above_keeps n s more) es

not_one : (n s : ℕ) → ¬ (s ≡ n) → nat_eq s n ≡ false
not_one n s other = grind (arith, nat_tests)

placed_same : (e : Echo) (es : List Echo) (n : ℕ) → ¬ (e.source ≡ n) → own_echo n (placed e es) ≡ own_echo n es
placed_same e es n other =
    filter-append (is_of n) (filter (is_below e.source) es) (e ∷ filter (is_above e.source) es)
    ∙ ap (λ (b : Bool). filter (is_of n) (filter (is_below e.source) es) ++ cond b (e ∷ filter (is_of n) (filter (is_above e.source) es)) (filter (is_of n) (filter (is_above e.source) es))) (not_one n e.source other)
    ∙ parts_same n e.source es (apart n e.source other)

pub others_hear_the_same : OthersHearTheSame
others_hear_the_same e echoes number other = by (nat_lt (length echoes) MAX_ENTRIES) where
  by : (b : Bool) → own_echo number (cond b (placed e echoes) echoes) ≡ own_echo number echoes
  by true = placed_same e echoes number other
  by false = refl
