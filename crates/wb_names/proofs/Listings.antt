-- Laws of `Lists`: there is one such list; a sorted rearrangement of a filter is one.
use Rattle.std.proofs.lemmas.Grind.{common_steps}
use Rattle.std.proofs.Common.{◌≡◌, ℕ, zero, suc, ◌+◌, Bool, true, false, cond, List, [], ◌∷◌, refl, ap, ◌∙◌, sym, subst, arith, ◌⊎◌, inl, inr, ⊎_elim, true≢false}
use Rattle.std.specs.Prelude.{Contains, AllPairs, Any, map, filter, take, IsTrue, IsPermutation}
use Rattle.std.specs.List.{IsDistinct, dedup}
use Rattle.std.specs.List.Sorted.{IsStrictlySortedBy, IsSorted}
use Rattle.std.specs.Cmp.{IsTotalOrder, IsEquivalence}
use Rattle.std.specs.Ordering.{eq_by_cmp, is_eq, is_lt, ordering_reverse}
use Rattle.std.specs.declared.cmp.Ordering.{Ordering}
use Rattle.std.specs.declared.cmp.Ordering.TheVariants.{Less, Equal, Greater}
use Rattle.std.proofs.lemmas.List.Elements.{All-contains, All-from_recursion}
use Rattle.std.proofs.lemmas.List.Sorted.{Contains-permutation, IsPermutation-sym}
use Rattle.std.proofs.lemmas.List.Kept.{IsStrictlySortedBy-dedup, Contains-dedup, Contains-from_dedup}
use Rattle.std.proofs.lemmas.Map.Keys.{sorted_head, sorted_tail, sorted_from_all_adjacent, IsDistinct-from_apart, apart_from_distinct, IsDistinct-IsPermutation}
use Rattle.wb_names.specs.Listing.{Lists}

module _ {X : Type 0} where
  pub Contains-here : (x : X) (xs : List X) → Contains (x ∷ xs) x
  Contains-here x xs = (0, omega arith, refl)

  pub Contains-there : (x z : X) (xs : List X) → Contains xs z → Contains (x ∷ xs) z
  Contains-there x z xs (k, h, e) = (suc k, omega arith, e)

  pub Contains-cases : (x z : X) (xs : List X) → Contains (x ∷ xs) z → (x ≡ z) ⊎ Contains xs z
  Contains-cases x z xs (zero, h, e) = inl e
  Contains-cases x z xs (suc k, h, e) = inr (k, omega arith, e)

  pub Contains-none : (z : X) → Contains [] z → ⊥
  Contains-none z (k, h, e) = omega arith

  pub Contains-from_take : (k : ℕ) (xs : List X) (x : X) → Contains (take k xs) x → Contains xs x
  Contains-from_take zero [] x c = c
  Contains-from_take zero (y ∷ xs) x c = absurd (Contains-none x c)
  Contains-from_take (suc k) [] x c = c
  Contains-from_take (suc k) (y ∷ xs) x c = ⊎_elim
      (λ (e : y ≡ x). subst (λ (z : X). Contains (y ∷ xs) z) e (Contains-here y xs))
      (λ (d : Contains (take k xs) x). Contains-there y x xs (Contains-from_take k xs x d))
      (Contains-cases y x (take k xs) c)

  pub Contains-filter : (p : X → Bool) (xs : List X) (x : X) → Contains xs x → IsTrue (p x) → Contains (filter p xs) x
  Contains-filter p [] x h t = absurd (Contains-none x h)
  Contains-filter p (y ∷ ys) x h t =
      elim (p y) as (λ b. p y ≡ b → Contains (cond b (y ∷ filter p ys) (filter p ys)) x) [
        | true ↦ λ _. ⊎_elim (λ (e : y ≡ x). subst (λ (w : X). Contains (y ∷ filter p ys) w) e (Contains-here y _)) (λ (c : Contains ys x). Contains-there y x _ (Contains-filter p ys x c t)) (Contains-cases y x ys h)
        | false ↦ λ e. ⊎_elim (λ (f : y ≡ x). absurd (true≢false (sym (t) ∙ ap p (sym f) ∙ e))) (λ (c : Contains ys x). Contains-filter p ys x c t) (Contains-cases y x ys h)
      ] refl

  pub Contains-from_filter : (p : X → Bool) (xs : List X) (x : X) → Contains (filter p xs) x → Contains xs x × IsTrue (p x)
  Contains-from_filter p [] x h = absurd (Contains-none x h)
  Contains-from_filter p (y ∷ ys) x h =
      elim (p y) as (λ b. p y ≡ b → Contains (cond b (y ∷ filter p ys) (filter p ys)) x → Contains (y ∷ ys) x × IsTrue (p x)) [
        | true ↦ λ e c. ⊎_elim (λ (f : y ≡ x). subst (λ (w : X). Contains (y ∷ ys) w × IsTrue (p w)) f (Contains-here y ys, e)) (λ (d : Contains (filter p ys) x). let r = Contains-from_filter p ys x d in (Contains-there y x ys r.0, r.1)) (Contains-cases y x _ c)
        | false ↦ λ e c. let r = Contains-from_filter p ys x c in (Contains-there y x ys r.0, r.1)
      ] refl h

module _ {X : Type 0} {R : X → X → Ordering} (o : IsTotalOrder R) where
  no_loop : (x y : X) → R x y ≡ Less → R y x ≡ Less → ⊥
  no_loop x y p q = grind (arith, common_steps)

  pub below_all : (x z : X) (xs : List X) → IsStrictlySortedBy R (x ∷ xs) → Contains xs z → R x z ≡ Less
  below_all x z xs s h = All-contains (λ y. R x y ≡ Less) xs z (All-from_recursion _ xs (sorted_head R x xs s)) h

  not_in_rest : (x z : X) (xs : List X) → IsStrictlySortedBy R (x ∷ xs) → Contains xs z → x ≡ z → ⊥
  not_in_rest x z xs s h e = let l = below_all x z xs s h in let m : R x x ≡ Less = subst (λ (w : X). R x w ≡ Less) (sym e) l in no_loop x x m m

  -- two lists that rise strictly and have the same members are one
  pub same_sorted : (xs ys : List X) → IsStrictlySortedBy R xs → IsStrictlySortedBy R ys → ((z : X) → Contains xs z → Contains ys z) → ((z : X) → Contains ys z → Contains xs z) → xs ≡ ys
  same_sorted [] [] s t f g = refl
  same_sorted [] (y ∷ ys) s t f g = absurd (Contains-none y (g y (Contains-here y ys)))
  same_sorted (x ∷ xs) [] s t f g = absurd (Contains-none x (f x (Contains-here x xs)))
  same_sorted (x ∷ xs) (y ∷ ys) s t f g =
      let e : x ≡ y = ⊎_elim (λ (p : y ≡ x). sym p) (λ (c : Contains ys x). ⊎_elim (λ (q : x ≡ y). q) (λ (d : Contains xs y). absurd (no_loop y x (below_all y x ys t c) (below_all x y xs s d))) (Contains-cases x y xs (g y (Contains-here y ys)))) (Contains-cases y x ys (f x (Contains-here x xs))) in
      let up : (z : X) → Contains xs z → Contains ys z = λ z h. ⊎_elim (λ (p : y ≡ z). absurd (not_in_rest x z xs s h (e ∙ p))) (λ (c : Contains ys z). c) (Contains-cases y z ys (f z (Contains-there x z xs h))) in
      let down : (z : X) → Contains ys z → Contains xs z = λ z h. ⊎_elim (λ (p : x ≡ z). absurd (not_in_rest y z ys t h (sym e ∙ p))) (λ (c : Contains xs z). c) (Contains-cases x z xs (g z (Contains-there y z ys h))) in
      let r : xs ≡ ys = same_sorted xs ys (sorted_tail R x xs s) (sorted_tail R y ys t) up down in
      cc

  -- there is one such list
  pub one_list : (P : X → Type 0) (xs ys : List X) → Lists R P xs → Lists R P ys → xs ≡ ys
  one_list P xs ys a b = same_sorted xs ys a.rising b.rising (λ z h. (b.members z).1 ((a.members z).0 h)) (λ z h. (a.members z).1 ((b.members z).0 h))

-- a sorted list whose members do not tie rises strictly
module _ {X : Type 0} {R : X → X → Ordering} (o : IsTotalOrder R) where
  not_greater : (r : Ordering) → is_lt (ordering_reverse r) ≡ false → is_eq r ≡ false → r ≡ Less
  not_greater Less p q = refl
  not_greater Equal p q = cc
  not_greater Greater p q = cc

  sorted_nil : IsStrictlySortedBy R []
  unfolding IsStrictlySortedBy
  sorted_nil = tt

  pub strictly_sorted : (xs : List X) → IsSorted R xs → IsDistinct (eq_by_cmp R) xs → IsStrictlySortedBy R xs
  strictly_sorted [] s a = sorted_nil
  strictly_sorted (x ∷ xs) s a = sorted_from_all_adjacent o (x ∷ xs) x (λ k h. not_greater _ (subst (λ (r : Ordering). is_lt r ≡ false) (o.antisymm _ _) (s k x (omega arith) h)) (apart_from_distinct (eq_by_cmp R) (x ∷ xs) k (k + 1) x a (omega arith) h))

  eq_flips : (x y : X) → eq_by_cmp R x y ≡ eq_by_cmp R y x
  eq_flips x y = grind (arith, common_steps)

  -- a sorted rearrangement of what passes a test, no two of which tie
  pub lists_from_sorted : (p : X → Bool) (all xs : List X) → AllPairs (λ x y. eq_by_cmp R x y ≡ false) (filter p all) → IsPermutation (filter p all) xs → IsSorted R xs → Lists R (λ x. Contains all x × IsTrue (p x)) xs
  lists_from_sorted p all xs apart moved sorted = record {
    rising = strictly_sorted xs sorted (IsDistinct-IsPermutation (eq_by_cmp R) eq_flips (filter p all) xs moved (IsDistinct-from_apart (eq_by_cmp R) (filter p all) apart));
    members = λ x. ((λ h. Contains-from_filter p all x (Contains-permutation xs (filter p all) x (IsPermutation-sym _ _ moved) h)), (λ h. Contains-permutation (filter p all) xs x moved (Contains-filter p all x h.0 h.1)));
  }

  -- a sorted rearrangement, each member kept once
  pub lists_from_dedup : {E : X → X → Bool} → IsEquivalence E → ((x y : X) → E x y ≡ true → x ≡ y) → ((x y : X) → E x y ≡ eq_by_cmp R x y) → (all xs : List X) → IsPermutation all xs → IsSorted R xs → Lists R (Contains all) (dedup E xs)
  lists_from_dedup {E} laws exact ties all xs moved sorted = record {
    rising = IsStrictlySortedBy-dedup o ties xs sorted;
    members = λ x. ((λ h. Contains-permutation xs all x (IsPermutation-sym _ _ moved) (Contains-from_dedup E xs x h)), (λ h. Contains-dedup laws exact xs x (Contains-permutation all xs x moved h)));
  }

  -- the same list, by a property that says the same
  pub lists_same : (P Q : X → Type 0) (xs : List X) → ((x : X) → P x → Q x) → ((x : X) → Q x → P x) → Lists R P xs → Lists R Q xs
  lists_same P Q xs f g l = grind (arith, common_steps)

module _ {X Y : Type 0} (f : X → Y) where
  pub Any-from_map : (xs : List X) (y : Y) → Contains (map f xs) y → Any (λ x. f x ≡ y) xs
  Any-from_map [] y h = absurd (Contains-none y h)
  Any-from_map (x ∷ xs) y h = ⊎_elim (λ (e : f x ≡ y). let r : Any (λ w. f w ≡ y) (x ∷ xs) = (0, x, omega arith, refl, e) in r) (λ (c : Contains (map f xs) y). let r = Any-from_map xs y c in let s : Any (λ w. f w ≡ y) (x ∷ xs) = (suc r.0, r.1, omega arith, r.3, r.4) in s) (Contains-cases (f x) y (map f xs) h)

  pub Contains-map : (xs : List X) (y : Y) → Any (λ x. f x ≡ y) xs → Contains (map f xs) y
  Contains-map [] y (k, x, h, e, p) = absurd (omega arith)
  Contains-map (x ∷ xs) y (zero, w, h, e, p) = grind (arith, common_steps, Contains-here)
  Contains-map (x ∷ xs) y (suc k, w, h, e, p) = Contains-there (f x) y (map f xs) (Contains-map xs y (k, w, omega arith, e, p))
