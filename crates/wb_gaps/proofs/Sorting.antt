-- Lists that are sorted by insertion.
use Rattle.std.proofs.Common.{◌≡◌, suc, ◌≤◌, List, [], ◌∷◌, length, get_or, refl, ap, ◌∙◌, sym, subst, arith, ◌⊎◌, ⊎_elim}
use Rattle.std.specs.Prelude.{Contains}
use Rattle.std.specs.Cmp.{IsTotalOrder}
use Rattle.std.specs.List.Sorted.{IsStrictlySortedBy}
use Rattle.std.specs.Ordering.{match_ordering, ordering_reverse}
use Rattle.std.specs.declared.cmp.Ordering.{Ordering}
use Rattle.std.specs.declared.cmp.Ordering.TheVariants.{Less, Equal, Greater}
use Rattle.std.proofs.lemmas.Cmp.{tied_itself}
use Rattle.std.proofs.lemmas.List.Elements.{Contains-get_or, recursion_from_All}
use Rattle.std.proofs.lemmas.Map.Keys.{sorted_tail}
use Rattle.std.proofs.lemmas.Grind.{common_steps}
use Rattle.wb_names.specs.Listing.{Lists}
use Rattle.wb_names.proofs.Listings.{Contains-here, Contains-there, Contains-cases, Contains-none, below_all}
use Rattle.wb_gaps.specs.Sorting.{inserted, sorted}

module _ {X : Type 0} (R : X → X → Ordering) where
  pub rise_none : IsStrictlySortedBy R []
  unfolding IsStrictlySortedBy
  rise_none = tt

  pub rise_first : (x : X) (xs : List X) → ((z : X) → Contains xs z → R x z ≡ Less) → IsStrictlySortedBy R xs → IsStrictlySortedBy R (x ∷ xs)
  unfolding IsStrictlySortedBy
  rise_first x xs below s = (recursion_from_All (λ y. R x y ≡ Less) xs (λ k d h. below (get_or xs k d) (Contains-get_or xs k d h)), s)

  -- the members of a list with x in its place
  inserted_from : (x z : X) (ys : List X) → Contains (inserted R x ys) z → (x ≡ z) ⊎ Contains ys z
  inserted_from x z [] c = Contains-cases x z [] c
  inserted_from x z (y ∷ ys) c = grind (arith, Contains-here, Contains-there, Contains-cases, inserted_from x z ys)

  inserted_more : (x z : X) (ys : List X) → Contains ys z → Contains (inserted R x ys) z
  inserted_more x z [] c = absurd (Contains-none z c)
  inserted_more x z (y ∷ ys) c = at (R x y) (inserted_more x z ys) where
    at : (r : Ordering) → (Contains ys z → Contains (inserted R x ys) z) → Contains (match_ordering r (x ∷ y ∷ ys) (y ∷ ys) (y ∷ inserted R x ys)) z
    at Less more = Contains-there x z (y ∷ ys) c
    at Equal more = c
    at Greater more = ⊎_elim
        (λ (e : y ≡ z). subst (λ (w : X). Contains (y ∷ inserted R x ys) w) e (Contains-here y (inserted R x ys)))
        (λ (d : Contains ys z). Contains-there y z (inserted R x ys) (more d))
        (Contains-cases y z ys c)

  inserted-length : (x : X) (ys : List X) → length (inserted R x ys) ≤ suc (length ys)
  inserted-length x [] = omega arith
  inserted-length x (y ∷ ys) = grind (arith, common_steps, inserted-length x ys)

  -- the members of the sorted list are among the list's
  pub Contains-from_sorted : (xs : List X) (z : X) → Contains (sorted R xs) z → Contains xs z
  Contains-from_sorted [] z c = c
  Contains-from_sorted (x ∷ xs) z c = ⊎_elim
      (λ (e : x ≡ z). subst (λ (w : X). Contains (x ∷ xs) w) e (Contains-here x xs))
      (λ (d : Contains (sorted R xs) z). Contains-there x z xs (Contains-from_sorted xs z d))
      (inserted_from x z (sorted R xs) c)

  pub length-sorted-le : (xs : List X) → length (sorted R xs) ≤ length xs
  length-sorted-le [] = omega arith
  length-sorted-le (x ∷ xs) = omega (arith, inserted-length x (sorted R xs), length-sorted-le xs)

-- a member of the list ties with x
abbrev pub Ties : {X : Type 0} → (X → X → Ordering) → List X → X → Type 0
Ties {X} R xs x = (w : X) × Contains xs w × (R x w ≡ Equal)

module _ {X : Type 0} {R : X → X → Ordering} (o : IsTotalOrder R) where
  turned : (x y : X) → R x y ≡ Greater → R y x ≡ Less
  turned x y e = o.antisymm y x ∙ ap ordering_reverse e

  inserted_rises : (x : X) (ys : List X) → IsStrictlySortedBy R ys → IsStrictlySortedBy R (inserted R x ys)
  inserted_rises x [] s = rise_first R x [] (λ z c. absurd (Contains-none z c)) s
  inserted_rises x (y ∷ ys) s = at (R x y) refl (inserted_rises x ys (sorted_tail R y ys s)) where
    at : (r : Ordering) → R x y ≡ r → IsStrictlySortedBy R (inserted R x ys) → IsStrictlySortedBy R (match_ordering r (x ∷ y ∷ ys) (y ∷ ys) (y ∷ inserted R x ys))
    at Less e rest = rise_first R x (y ∷ ys) (λ z c. ⊎_elim (λ (f : y ≡ z). subst (λ (w : X). R x w ≡ Less) f e) (λ (d : Contains ys z). o.trans x y z e (below_all o y z ys s d)) (Contains-cases y z ys c)) s
    at Equal e rest = s
    at Greater e rest = rise_first R y (inserted R x ys) (λ z c. ⊎_elim (λ (f : x ≡ z). subst (λ (w : X). R y w ≡ Less) f (turned x y e)) (λ (d : Contains ys z). below_all o y z ys s d) (inserted_from R x z ys c)) rest

  inserted_ties : (x : X) (ys : List X) → Ties R (inserted R x ys) x
  inserted_ties x [] = (x, Contains-here x [], tied_itself o x)
  inserted_ties x (y ∷ ys) = at (R x y) refl (inserted_ties x ys) where
    at : (r : Ordering) → R x y ≡ r → Ties R (inserted R x ys) x → Ties R (match_ordering r (x ∷ y ∷ ys) (y ∷ ys) (y ∷ inserted R x ys)) x
    at Less e rest = (x, Contains-here x (y ∷ ys), tied_itself o x)
    at Equal e rest = (y, Contains-here y ys, e)
    at Greater e rest = (rest.0, Contains-there y rest.0 (inserted R x ys) rest.1, rest.2)

  -- the sorted list rises strictly
  pub sorted_rises : (xs : List X) → IsStrictlySortedBy R (sorted R xs)
  sorted_rises [] = rise_none R
  sorted_rises (x ∷ xs) = inserted_rises x (sorted R xs) (sorted_rises xs)

  -- each member of the list ties with one of its members
  pub sorted_ties : (xs : List X) (z : X) → Contains xs z → Ties R (sorted R xs) z
  sorted_ties [] z c = absurd (Contains-none z c)
  sorted_ties (x ∷ xs) z c = ⊎_elim
      (λ (e : x ≡ z). subst (Ties R (inserted R x (sorted R xs))) e (inserted_ties x (sorted R xs)))
      (λ (d : Contains xs z). let t = sorted_ties xs z d in (t.0, inserted_more R x t.0 (sorted R xs) t.1, t.2))
      (Contains-cases x z xs c)

  -- so it is one of them, where members that tie are one
  pub Contains-sorted : (xs : List X) → ((x y : X) → Contains xs x → Contains xs y → R x y ≡ Equal → x ≡ y) → (z : X) → Contains xs z → Contains (sorted R xs) z
  Contains-sorted xs one z c = let t = sorted_ties xs z c in subst (Contains (sorted R xs)) (sym (one z t.0 c (Contains-from_sorted R xs t.0 t.1) t.2)) t.1

  pub lists_sorted : (xs : List X) → ((x y : X) → Contains xs x → Contains xs y → R x y ≡ Equal → x ≡ y) → Lists R (Contains xs) (sorted R xs)
  lists_sorted xs one = record { rising = sorted_rises xs; members = λ x. (Contains-from_sorted R xs x, Contains-sorted xs one x) }
