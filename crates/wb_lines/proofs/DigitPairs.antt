-- Hexadecimal digits, two by two.
use Rattle.std.proofs.Common.{◌≡◌, ℕ, suc, ◌+◌, ◌-◌, ◌*◌, ◌/◌, ◌%◌, ◌<◌, ◌≤◌, Bool, true, false, cond, List, [], ◌∷◌, ◌++◌, length, get_or, drop, refl, sym, ap, ◌∙◌, append_assoc, Ok, arith, Some, None, is_some, nat_le, ◌&&◌}
use Rattle.std.specs.List.{list_all}
use Rattle.std.proofs.lemmas.Bool.Decides.{nat_tests}
use Rattle.std.proofs.lemmas.List.{drop_more, drop_all, append-nil}
use Rattle.hex.specs.Hex.{hex_digit_value, is_hex_digit, decode_pairs, decode_of}
use Rattle.wb_lines.specs.Words.{digit_of, is_hex}

one_of_three : (a b d : Bool) (x y z v : ℕ) → (a ≡ true → x ≡ v) → (b ≡ true → y ≡ v) → (d ≡ true → z ≡ v) → is_some (cond a (Some x) (cond b (Some y) (cond d (Some z) None))) ≡ true → cond a (Some x) (cond b (Some y) (cond d (Some z) None)) ≡ Some v
one_of_three true b d x y z v p q r h = ap (λ (n : ℕ). Some n) (p refl)
one_of_three false true d x y z v p q r h = ap (λ (n : ℕ). Some n) (q refl)
one_of_three false false true x y z v p q r h = ap (λ (n : ℕ). Some n) (r refl)
one_of_three false false false x y z v p q r h = absurd cc

upper : (c : ℕ) → nat_le 65 c && nat_le c 70 ≡ true → c - 55 ≡ digit_of c
upper c h = let low : 65 ≤ c = grind (arith, nat_tests) in let high : c ≤ 70 = grind (arith, nat_tests) in omega arith

lower : (c : ℕ) → nat_le 97 c && nat_le c 102 ≡ true → c - 87 ≡ digit_of c
lower c h = let low : 97 ≤ c = grind (arith, nat_tests) in let high : c ≤ 102 = grind (arith, nat_tests) in omega arith

decimal : (c : ℕ) → nat_le 48 c && nat_le c 57 ≡ true → c - 48 ≡ digit_of c
decimal c h = let low : 48 ≤ c = grind (arith, nat_tests) in let high : c ≤ 57 = grind (arith, nat_tests) in omega arith

-- the value of a digit
value_of : (c : ℕ) → is_hex_digit c ≡ true → hex_digit_value c ≡ Some (digit_of c)
value_of c h = one_of_three (nat_le 65 c && nat_le c 70) (nat_le 97 c && nat_le c 102) (nat_le 48 c && nat_le c 57) (c - 55) (c - 87) (c - 48) (digit_of c) (upper c) (lower c) (decimal c) h

-- the bytes of pairs
abbrev pub bytes_of : List ℕ → List ℕ
bytes_of (h ∷ l ∷ rest) = (digit_of h * 16 + digit_of l) ∷ bytes_of rest
bytes_of digits = []

both : (a b : Bool) → a && b ≡ true → (a ≡ true) × (b ≡ true)
both true true h = (refl, refl)
both a b h = absurd cc

odd : (n : ℕ) → suc (suc n) % 2 ≡ 0 → n % 2 ≡ 0
odd n h = omega arith

decoded : (i : ℕ) (word : List ℕ) → length word % 2 ≡ 0 → list_all is_hex_digit word ≡ true → decode_pairs i word ≡ Ok (bytes_of word)
unfolding decode_pairs
decoded i [] even all = refl
decoded i (h ∷ []) even all = absurd (omega arith)
decoded i (h ∷ l ∷ rest) even all =
    let first = both (is_hex_digit h) (is_hex_digit l && list_all is_hex_digit rest) all in
    let second = both (is_hex_digit l) (list_all is_hex_digit rest) first.1 in
    rw (value_of h first.0, value_of l second.0, decoded (i + 2) rest (odd (length rest) even) second.1) refl

pub decodes : (word : List ℕ) → length word % 2 ≡ 0 → list_all is_hex_digit word ≡ true → decode_of word ≡ Ok (bytes_of word)
decodes word even all = rw even (decoded 0 word even all)

-- the next pair
pub next_pair : (word : List ℕ) (i : ℕ) → 2 * i + 1 < length word → drop (2 * i) word ≡ get_or word (2 * i) 0 ∷ get_or word (2 * i + 1) 0 ∷ drop (2 * (i + 1)) word
next_pair word i lt =
    let after : 2 * i + 1 + 1 ≡ 2 * (i + 1) = omega arith in
    drop_more word (2 * i) 0 (omega arith) ∙ ap (λ (t : List ℕ). get_or word (2 * i) 0 ∷ t) (drop_more word (2 * i + 1) 0 lt ∙ ap (λ (n : ℕ). get_or word (2 * i + 1) 0 ∷ drop n word) after)

-- one pair more is read
pub pair_read : (word done : List ℕ) (i : ℕ) → 2 * i + 1 < length word → done ++ bytes_of (drop (2 * i) word) ≡ bytes_of word
    → (done ++ (digit_of (get_or word (2 * i) 0) * 16 + digit_of (get_or word (2 * i + 1) 0)) ∷ []) ++ bytes_of (drop (2 * (i + 1)) word) ≡ bytes_of word
pair_read word done i lt so_far =
    append_assoc done ((digit_of (get_or word (2 * i) 0) * 16 + digit_of (get_or word (2 * i + 1) 0)) ∷ []) (bytes_of (drop (2 * (i + 1)) word)) ∙ ap (λ (t : List ℕ). done ++ bytes_of t) (sym (next_pair word i lt)) ∙ so_far

regrouped : (ok a b rest : Bool) → ((ok && a) && b) && rest ≡ ok && (a && (b && rest))
regrouped true true b rest = refl
regrouped ok a b rest = refl

pub digits_read : (word : List ℕ) (ok all : Bool) (i : ℕ) → 2 * i + 1 < length word → (ok && list_all is_hex_digit (drop (2 * i) word)) ≡ all
    → ((ok && is_hex_digit (get_or word (2 * i) 0)) && is_hex_digit (get_or word (2 * i + 1) 0)) && list_all is_hex_digit (drop (2 * (i + 1)) word) ≡ all
digits_read word ok all i lt so_far =
    regrouped ok (is_hex_digit (get_or word (2 * i) 0)) (is_hex_digit (get_or word (2 * i + 1) 0)) (list_all is_hex_digit (drop (2 * (i + 1)) word))
    ∙ ap (λ (t : List ℕ). ok && list_all is_hex_digit t) (sym (next_pair word i lt)) ∙ so_far

pub is_hex-even : (word : List ℕ) → length word % 2 ≡ 0 → is_hex word ≡ list_all is_hex_digit word
is_hex-even word even = rw even refl

and_true : (b : Bool) → b && true ≡ b
and_true true = refl
and_true false = refl

-- all pairs are read
pub record AllRead (word done : List ℕ) (ok : Bool) : Type 0 where
  pub bytes : done ≡ bytes_of word
  pub digits : ok ≡ list_all is_hex_digit word

pub all_read : (word done : List ℕ) (ok : Bool) (i : ℕ) → length word % 2 ≡ 0 → length word / 2 ≤ i → done ++ bytes_of (drop (2 * i) word) ≡ bytes_of word → (ok && list_all is_hex_digit (drop (2 * i) word)) ≡ list_all is_hex_digit word → AllRead word done ok
all_read word done ok i even past so_far digits =
    let none : drop (2 * i) word ≡ [] = drop_all (2 * i) word (omega arith) in
    record {
      bytes = sym (append-nil done) ∙ ap (λ (t : List ℕ). done ++ bytes_of t) (sym none) ∙ so_far;
      digits = sym (and_true ok) ∙ ap (λ (t : List ℕ). ok && list_all is_hex_digit t) (sym none) ∙ digits;
    }
