-- How long lists are.
use Rattle.std.proofs.Common.{◌≡◌, ◌≤◌, ◌<◌, ℕ, Bool, true, false, cond, List, [], ◌∷◌, ◌++◌, arith, drop, filter, length, refl}
use Rattle.std.proofs.lemmas.Bool.Decides.{nat_tests}
use Rattle.std.specs.Prelude.{nat_lt}
use Rattle.std.proofs.lemmas.List.{length-append, length-drop}
use Rattle.wb_judge.specs.Lists.{joined}

pub filter_length : {X : Type 0} (p : X → Bool) (xs : List X) → length (filter p xs) ≤ length xs
filter_length p [] = omega arith
filter_length {X} p (x ∷ xs) = by (filter_length p xs) (p x) where
  by : length (filter p xs) ≤ length xs → (b : Bool) → length (cond b (x ∷ filter p xs) (filter p xs)) ≤ length (x ∷ xs)
  by few true = omega arith
  by few false = omega arith

pub joined_length : {X : Type 0} (most : ℕ) (x : X) (xs : List X) → 1 ≤ most → length xs ≤ most → length (joined most x xs) ≤ most
joined_length {X} most x xs one few = by (nat_lt (length xs) most) refl where
  by : (b : Bool) → nat_lt (length xs) most ≡ b → length (cond b xs (drop 1 xs) ++ x ∷ []) ≤ most
  by true e = let room : length xs < most = grind (arith, nat_tests) in omega (arith, length-append xs (x ∷ []))
  by false e = omega (arith, length-append (drop 1 xs) (x ∷ []), length-drop 1 xs)
