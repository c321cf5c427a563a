-- The next of a list that ascends: behind each element the one that follows it is found, and behind the last one none is.
use Rattle.std.proofs.Common.{◌≡◌, ℕ, zero, suc, ◌+◌, ◌<◌, Bool, true, false, cond, List, [], ◌∷◌, ◌∙◌, Some, None, ap, arith, get_or, length}
use Rattle.std.specs.List.{find}

module _ {X : Type 0} (after : X → X → Bool) where
  abbrev pub AreBehind : X → List X → Type 0
  AreBehind x [] = Unit {0}
  AreBehind x (y ∷ ys) = ((after x y ≡ true) × (after y x ≡ false)) × AreBehind x ys

  abbrev pub Ascend : List X → Type 0
  Ascend [] = Unit {0}
  Ascend (x ∷ xs) = (after x x ≡ false) × AreBehind x xs × Ascend xs

  passed : (p : X → Bool) (x : X) (xs : List X) → p x ≡ false → find p (x ∷ xs) ≡ find p xs
  passed p x xs e = ap (λ (b : Bool). cond b (Some x) (find p xs)) e

  pub taken : (p : X → Bool) (x : X) (xs : List X) → p x ≡ true → find p (x ∷ xs) ≡ Some x
  taken p x xs e = ap (λ (b : Bool). cond b (Some x) (find p xs)) e

  behind_at : (x : X) (xs : List X) (i : ℕ) (d : X) → AreBehind x xs → i < length xs → after (get_or xs i d) x ≡ false
  behind_at x [] i d behind lt = absurd (omega (arith, lt))
  behind_at x (y ∷ ys) zero d behind lt = behind.0.1
  behind_at x (y ∷ ys) (suc i) d behind lt = behind_at x ys i d behind.1 (omega (arith, lt))

  pub found_next : (xs : List X) (i : ℕ) (d : X) → Ascend xs → i + 1 < length xs → find (after (get_or xs i d)) xs ≡ Some (get_or xs (suc i) d)
  found_next [] i d all lt = absurd (omega (arith, lt))
  found_next (x ∷ []) zero d all lt = absurd (omega (arith, lt))
  found_next (x ∷ y ∷ xs) zero d all lt = passed (after x) x (y ∷ xs) all.0 ∙ taken (after x) y xs all.1.0.0
  found_next (x ∷ xs) (suc i) d all lt = passed (after (get_or xs i d)) x xs (behind_at x xs i d all.1 (omega (arith, lt))) ∙ found_next xs i d all.2 (omega (arith, lt))

  pub found_none : (xs : List X) (i : ℕ) (d : X) → Ascend xs → i + 1 ≡ length xs → find (after (get_or xs i d)) xs ≡ None
  found_none [] i d all is = absurd (omega (arith, is))
  found_none (x ∷ []) zero d all is = passed (after x) x [] all.0
  found_none (x ∷ y ∷ xs) zero d all is = absurd (omega (arith, is))
  found_none (x ∷ xs) (suc i) d all is = passed (after (get_or xs i d)) x xs (behind_at x xs i d all.1 (omega (arith, is))) ∙ found_none xs i d all.2 (omega (arith, is))

-- what is found is in the list
pub found_at : {X : Type 0} (p : X → Bool) (xs : List X) (x d : X) → find p xs ≡ Some x → (i : ℕ) × (i < length xs) × (get_or xs i d ≡ x)
found_at {X} p [] x d e = absurd cc
found_at {X} p (y ∷ xs) x d e = by (p y) e (found_at p xs x d) where
  by : (b : Bool) → cond b (Some y) (find p xs) ≡ Some x → (find p xs ≡ Some x → (i : ℕ) × (i < length xs) × (get_or xs i d ≡ x)) → (i : ℕ) × (i < suc (length xs)) × (get_or (y ∷ xs) i d ≡ x)
  by true e later = (0, omega arith, cc)
  by false e later = let rest = later e in let lt = rest.1 in (suc rest.0, omega (arith, lt), rest.2)
