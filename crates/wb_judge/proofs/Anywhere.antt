-- Whether some entry passes, where entries come and go.
use Rattle.std.proofs.Common.{◌≡◌, ◌⊎◌, ◌∙◌, ℕ, Bool, true, false, cond, List, [], ◌∷◌, drop, filter, inl, inr, length, refl, sym}
use Rattle.std.specs.Prelude.{◌||◌, nat_lt}
use Rattle.std.specs.List.{list_any}
use Rattle.std.proofs.lemmas.Bool.{or_cases, or_left, or_right}
use Rattle.std.proofs.lemmas.List.Folds.{list_any-append}
use Rattle.wb_judge.specs.Lists.{joined, with_place}

none : (a : Bool) → (a || false) ≡ true → a ≡ true
none true e = e
none false e = e

under : (a b c : Bool) → (b ≡ true → c ≡ true) → (a || b) ≡ true → (a || c) ≡ true
under true b c more e = refl
under false b c more e = more e

pub any_filter : {X : Type 0} (q p : X → Bool) (xs : List X) → list_any q (filter p xs) ≡ true → list_any q xs ≡ true
any_filter q p [] e = e
any_filter {X} q p (x ∷ xs) e = by (any_filter q p xs) (p x) e where
  by : (list_any q (filter p xs) ≡ true → list_any q xs ≡ true) → (b : Bool) → list_any q (cond b (x ∷ filter p xs) (filter p xs)) ≡ true → (q x || list_any q xs) ≡ true
  by more true f = under (q x) _ _ more f
  by more false f = or_right (q x) _ (more f)

any_drop : {X : Type 0} (q : X → Bool) (xs : List X) → list_any q (drop 1 xs) ≡ true → list_any q xs ≡ true
any_drop q [] e = e
any_drop q (x ∷ xs) e = or_right (q x) _ e

pub any_place : {X : Type 0} (q : X → Bool) (most : ℕ) (xs : List X) → list_any q (with_place most xs) ≡ true → list_any q xs ≡ true
any_place {X} q most xs e = by (nat_lt (length xs) most) e where
  by : (b : Bool) → list_any q (cond b xs (drop 1 xs)) ≡ true → list_any q xs ≡ true
  by true f = f
  by false f = any_drop q xs f

-- one that is there, or the one that came last
pub any_joined : {X : Type 0} (q : X → Bool) (most : ℕ) (x : X) (xs : List X) → list_any q (joined most x xs) ≡ true → (list_any q xs ≡ true) ⊎ (q x ≡ true)
any_joined q most x xs e = by (or_cases (list_any q (with_place most xs)) (q x || false) (sym (list_any-append q (with_place most xs) (x ∷ [])) ∙ e)) where
  by : (list_any q (with_place most xs) ≡ true) ⊎ ((q x || false) ≡ true) → (list_any q xs ≡ true) ⊎ (q x ≡ true)
  by (inl f) = inl (any_place q most xs f)
  by (inr f) = inr (none (q x) f)

pub any_last : {X : Type 0} (q : X → Bool) (most : ℕ) (x : X) (xs : List X) → q x ≡ true → list_any q (joined most x xs) ≡ true
any_last q most x xs e = list_any-append q (with_place most xs) (x ∷ []) ∙ or_right (list_any q (with_place most xs)) (q x || false) (or_left (q x) false e)
