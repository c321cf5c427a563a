-- Digits, read from the front.
use Rattle.std.proofs.Common.{◌≡◌, ℕ, ◌+◌, ◌-◌, ◌*◌, ◌<◌, Bool, true, false, cond, List, [], ◌∷◌, length, get_or, drop, refl, ap, ◌∙◌, arith, Option, Some, None, ◌&&◌, nat_le}
use Rattle.std.proofs.lemmas.Bool.Decides.{nat_tests}
use Rattle.std.proofs.lemmas.List.{drop_more}
use Rattle.wb_lines.specs.Words.{is_digit, number_from}

past : (a b : Bool) (n : ℕ) → b ≡ false → cond (a && b) (Some n) None ≡ None
past true true n e = absurd cc
past a b n e = refl

either : (b : Bool) (x : Option ℕ) → x ≡ None → cond b x None ≡ None
either true x e = e
either false x e = refl

-- digits make a number no smaller
too_large : (low high begun : ℕ) (bs : List ℕ) → high < begun → number_from low high begun bs ≡ None
too_large low high begun [] lt = past (nat_le low begun) (nat_le begun high) begun (grind (arith, nat_tests))
too_large low high begun (b ∷ bs) lt = either (is_digit b) (number_from low high (10 * begun + (b - 48)) bs) (too_large low high (10 * begun + (b - 48)) bs (omega arith))

pub overflows : (low high begun : ℕ) (xs : List ℕ) (i : ℕ) → i < length xs → high < 10 * begun + (get_or xs i 0 - 48) → number_from low high begun (drop i xs) ≡ None
overflows low high begun xs i lt large =
    ap (number_from low high begun) (drop_more xs i 0 lt)
    ∙ either (is_digit (get_or xs i 0)) (number_from low high (10 * begun + (get_or xs i 0 - 48)) (drop (i + 1) xs)) (too_large low high (10 * begun + (get_or xs i 0 - 48)) (drop (i + 1) xs) large)
