-- A list that is sorted by insertion has the same members, in order, if no two tie.
use Rattle.std.proofs.lemmas.Grind.{common_steps}
use Rattle.std.proofs.Common.{◌≡◌, ℕ, zero, suc, ◌+◌, ◌<◌, false, List, [], ◌∷◌, length, get_or, refl, ap, sym, subst, ◌∙◌, arith}
use Rattle.std.specs.Prelude.{AllPairs, Contains, IsPermutation}
use Rattle.std.specs.Cmp.{IsTotalOrder}
use Rattle.std.specs.List.Sorted.{IsStrictlySortedBy, IsSorted}
use Rattle.std.specs.Ordering.{eq_by_cmp, is_lt, is_eq, match_ordering}
use Rattle.std.specs.declared.cmp.Ordering.{Ordering}
use Rattle.std.specs.declared.cmp.Ordering.TheVariants.{Less, Equal, Greater}
use Rattle.std.proofs.lemmas.List.Elements.{Contains-get_or}
use Rattle.std.proofs.lemmas.List.Sorted.{IsPermutation-refl, IsPermutation-trans, IsPermutation-cons, IsPermutation-middle}
use Rattle.std.proofs.lemmas.Map.Keys.{sorted_tail}
use Rattle.wb_names.proofs.Listings.{Contains-here, Contains-there, below_all}
use Rattle.wb_gaps.specs.Sorting.{inserted, sorted}
use Rattle.wb_gaps.proofs.Sorting.{Contains-from_sorted, sorted_rises}

module _ {X : Type 0} {R : X → X → Ordering} (o : IsTotalOrder R) where
  -- x in its place, where it ties with nothing
  placed : (x : X) (ys : List X) → ((z : X) → Contains ys z → eq_by_cmp R x z ≡ false) → IsPermutation (x ∷ ys) (inserted R x ys)
  placed x [] apart = IsPermutation-refl (x ∷ [])
  placed x (y ∷ ys) apart = at (R x y) refl (placed x ys (λ z c. apart z (Contains-there y z ys c))) where
    at : (r : Ordering) → R x y ≡ r → IsPermutation (x ∷ ys) (inserted R x ys) → IsPermutation (x ∷ y ∷ ys) (match_ordering r (x ∷ y ∷ ys) (y ∷ ys) (y ∷ inserted R x ys))
    at Less e rest = IsPermutation-refl (x ∷ y ∷ ys)
    at Equal e rest = let ties = sym (ap is_eq e) ∙ apart y (Contains-here y ys) in absurd cc
    at Greater e rest = IsPermutation-trans _ _ _ (IsPermutation-middle (x ∷ []) y ys) (IsPermutation-cons y _ _ rest)

  pub moved : (xs : List X) → AllPairs (λ x y. eq_by_cmp R x y ≡ false) xs → IsPermutation xs (sorted R xs)
  moved [] apart = IsPermutation-refl []
  moved (x ∷ xs) apart =
      let rest = moved xs (λ i j d ij within. apart (suc i) (suc j) d (omega arith) (omega arith)) in
      let first : (z : X) → Contains (sorted R xs) z → eq_by_cmp R x z ≡ false = λ z c.
      let here = Contains-from_sorted R xs z c in
      subst (λ (w : X). eq_by_cmp R x w ≡ false) here.2 (apart 0 (suc here.0) z (omega arith) (omega (arith, here.1))) in
      IsPermutation-trans _ _ _ (IsPermutation-cons x _ _ rest) (placed x (sorted R xs) first)

  after_less : (x y : X) → R x y ≡ Less → is_lt (R y x) ≡ false
  after_less x y e = grind (arith, common_steps)

  rises_weakly : (xs : List X) → IsStrictlySortedBy R xs → (k : ℕ) (d : X) → suc k < length xs → is_lt (R (get_or xs (suc k) d) (get_or xs k d)) ≡ false
  rises_weakly [] s k d within = absurd (omega arith)
  rises_weakly (x ∷ xs) s zero d within = after_less x (get_or xs 0 d) (below_all o x (get_or xs 0 d) xs s (Contains-get_or xs 0 d (omega arith)))
  rises_weakly (x ∷ xs) s (suc k) d within = rises_weakly xs (sorted_tail R x xs s) k d (omega arith)

  pub ascending : (xs : List X) → IsSorted R (sorted R xs)
  ascending xs k d low within =
      let next : suc k ≡ k + 1 = omega arith in
      subst (λ (n : ℕ). is_lt (R (get_or (sorted R xs) n d) (get_or (sorted R xs) k d)) ≡ false) next (rises_weakly (sorted R xs) (sorted_rises o xs) k d (omega arith))
