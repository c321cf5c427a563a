-- A list is rearranged as what is read off its members.
use Rattle.std.proofs.Common.{◌≡◌, ℕ, suc, List, [], ◌∷◌, map, refl, sym, ap, ap₂, subst, ◌∙◌, slice_set, slice_index_or, swap, IsPermutation}
use Rattle.std.specs.List.Sorted.{apply_swaps, SwapsInRange}
use Rattle.std.proofs.lemmas.List.{length-map}

module _ {X Y : Type 0} (f : X → Y) where
  map_set : (xs : List X) (i : ℕ) (x : X) → map f (slice_set xs i x) ≡ slice_set (map f xs) i (f x)
  map_set (y ∷ xs) (suc i) x = ap (λ (l : List Y). f y ∷ l) (map_set xs i x)
  map_set xs i x = refl

  map_index : (xs : List X) (i : ℕ) (d : X) → f (slice_index_or xs i d) ≡ slice_index_or (map f xs) i (f d)
  map_index (x ∷ xs) (suc i) d = map_index xs i d
  map_index xs i d = refl

  map_swap : (xs : List X) (i j : ℕ) → map f (swap xs i j) ≡ swap (map f xs) i j
  map_swap [] i j = refl
  map_swap (d ∷ xs) i j =
      map_set (slice_set (d ∷ xs) i (slice_index_or (d ∷ xs) j d)) j (slice_index_or (d ∷ xs) i d)
      ∙ ap₂ (λ (l : List Y) (y : Y). slice_set l j y)
      (map_set (d ∷ xs) i (slice_index_or (d ∷ xs) j d) ∙ ap (slice_set (map f (d ∷ xs)) i) (map_index (d ∷ xs) j d)) (map_index (d ∷ xs) i d)

  map_swaps : (xs : List X) (moves : List (ℕ × ℕ)) → map f (apply_swaps xs moves) ≡ apply_swaps (map f xs) moves
  map_swaps xs [] = refl
  map_swaps xs (m ∷ moves) = map_swap (apply_swaps xs moves) m.0 m.1 ∙ ap (λ (l : List Y). swap l m.0 m.1) (map_swaps xs moves)

  pub record Lifted (xs : List X) (ys : List Y) : Type 0 where
    pub to : List X
    pub moved : IsPermutation xs to
    pub is : map f to ≡ ys

  pub lifted : (xs : List X) (ys : List Y) → IsPermutation (map f xs) ys → Lifted xs ys
  lifted xs ys p = record {
    to = apply_swaps xs p.moves;
    moved = record { moves = p.moves; below = subst (λ (n : ℕ). SwapsInRange n p.moves) (length-map xs f) p.below; is = refl };
    is = map_swaps xs p.moves ∙ sym p.is;
  }
