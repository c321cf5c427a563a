-- Numbers, and the words that spell them.
use Rattle.std.proofs.lemmas.Grind.{common_steps}
use Rattle.std.proofs.Common.{◌≡◌, ℕ, ◌+◌, ◌*◌, ◌-◌, ◌^◌, ◌<◌, ◌≤◌, Bool, true, false, cond, Option, Some, None, List, [], ◌∷◌, length, get_or, drop, refl, sym, ap, subst, ◌∙◌, arith}
use Rattle.std.specs.Prelude.{nat_le, not, decimal}
use Rattle.std.specs.Char.{digit_value, is_ascii_digit}
use Rattle.std.specs.Str.{bytes_eq}
use Rattle.std.specs.Str.Parse.{AllDigits, digits_value, digits_value_after}
use Rattle.std.proofs.lemmas.Bool.{leb-true, le-leb, cases_lt, and_parts}
use Rattle.std.proofs.lemmas.Bool.Decides.{nat_tests}
use Rattle.std.proofs.lemmas.Fmt.{decimal_is_IsNumeral, decimal-digits_value, decimal_digit, first_decimal}
use Rattle.std.proofs.lemmas.List.{drop_more}
use Rattle.std.proofs.Math.ListN.{drop_of_length-le}
use Rattle.std.proofs.lemmas.Slice.Eq.{bytes_eq-Decides}
use Rattle.std.proofs.lemmas.Str.{digit_value_digit}
use Rattle.std.proofs.lemmas.Str.Parse.{IsNumeralModel, numerals_by_value, tells_digits, digit_from_value}
use Rattle.wb_words.specs.Words.{number_in, is_plain}

-- ---- a number is read from its spelling, and from no other word

pub number_again : (most n : ℕ) → n ≤ most → most < 2 ^ 64 → number_in most (decimal n) ≡ Some n
unfolding number_in
number_again most n le small = grind (arith, common_steps, decimal_is_IsNumeral, bytes_eq-Decides, le-leb)

chosen : (b : Bool) (v n : ℕ) → cond b (Some v) None ≡ Some n → (b ≡ true) × (v ≡ n)
chosen true v n e = (refl, cc)
chosen false v n e = absurd cc

pub number_takes : (most n : ℕ) (word : List ℕ) → number_in most word ≡ Some n → (word ≡ decimal n) × (n ≤ most)
unfolding number_in
number_takes most n word e = grind (arith, common_steps, chosen, and_parts, bytes_eq-Decides, leb-true)

pub decimal_digits : (n : ℕ) → n < 2 ^ 64 → AllDigits 10 (decimal n)
decimal_digits n small = (decimal_is_IsNumeral n small).0.1

-- ---- what a walk down the digits finds

leads : (word : List ℕ) → is_plain word ≡ true → (0 < length word) × (get_or word 0 0 ≡ 48 → length word ≡ 1)
leads [] e = absurd cc
leads (b ∷ []) e = (omega arith, λ h. refl)
leads (b ∷ c ∷ bytes) e = (omega arith, λ h. absurd (grind (arith, nat_tests)))

own : IsNumeralModel (AllDigits 10) (digits_value 10)
own = numerals_by_value (AllDigits 10) tells_digits

pub plain_number : (most : ℕ) (word : List ℕ) → AllDigits 10 word → is_plain word ≡ true → digits_value 10 word < 2 ^ 64
    → number_in most word ≡ cond (nat_le (digits_value 10 word) most) (Some (digits_value 10 word)) None
unfolding number_in
plain_number most word digits plain small =
    let lead = leads word plain in
    let spelled : decimal (digits_value 10 word) ≡ word = decimal-digits_value own word digits lead.0 lead.1 small in
    let same : bytes_eq (decimal (digits_value 10 word)) word ≡ true = (bytes_eq-Decides (decimal (digits_value 10 word)) word).1 spelled in
    rw same refl

-- nothing but the spelling of a number is one
no_number : (most : ℕ) (word : List ℕ) → most < 2 ^ 64 → ((n : ℕ) → word ≡ decimal n → n ≤ most → n ≡ digits_value 10 word → ⊥) → number_in most word ≡ None
no_number most word small none = of (number_in most word) refl where
  of : (r : Option ℕ) → number_in most word ≡ r → r ≡ None
  of None e = refl
  of (Some n) e =
      let t = number_takes most n word e in
      let fits : n < 2 ^ 64 = omega (arith, t.1) in
      absurd (none n t.0 t.1 (sym (ap (digits_value 10) t.0 ∙ (decimal_is_IsNumeral n fits).1)))

is_plain_first : (word : List ℕ) → 48 < get_or word 0 0 → is_plain word ≡ true
is_plain_first [] h = absurd (omega arith)
is_plain_first (b ∷ []) h = refl
is_plain_first (b ∷ c ∷ bytes) h = grind (arith, nat_tests)

decimal_plain : (n : ℕ) → n < 2 ^ 64 → is_plain (decimal n) ≡ true
decimal_plain n small = grind (arith, common_steps, cases_lt, is_plain_first, first_decimal, decimal_digit)

pub not_plain : (most : ℕ) (word : List ℕ) → most < 2 ^ 64 → is_plain word ≡ false → number_in most word ≡ None
not_plain most word small e = grind (arith, common_steps, no_number, decimal_plain)

pub not_digits : (most : ℕ) (word : List ℕ) → most < 2 ^ 64 → (AllDigits 10 word → ⊥) → number_in most word ≡ None
not_digits most word small not = grind (arith, common_steps, no_number, decimal_digits)

pub too_large : (most : ℕ) (word : List ℕ) → most < 2 ^ 64 → most < digits_value 10 word → number_in most word ≡ None
too_large most word small large = no_number most word small (λ n is le same. omega arith)

pub le_value : (n : ℕ) (bytes : List ℕ) → n ≤ digits_value_after 10 n bytes
le_value n [] = omega arith
le_value n (b ∷ bytes) = omega (arith, le_value (n * 10 + digit_value b) bytes)

-- so far all bytes are digits, and this is their value
pub record Walked (word : List ℕ) (i value : ℕ) : Type 0 where
  pub so_far : digits_value 10 word ≡ digits_value_after 10 value (drop i word)
  pub digits : AllDigits 10 (drop i word) → AllDigits 10 word
  pub back : AllDigits 10 word → AllDigits 10 (drop i word)

pub walked_more : (word : List ℕ) (i value b more : ℕ) → Walked word i value → i < length word → b ≡ get_or word i 0 → 48 ≤ b → b ≤ 57 → more ≡ value * 10 + (b - 48) → Walked word (i + 1) more
walked_more word i value b more h lt is low high new =
    let split : drop i word ≡ b ∷ drop (i + 1) word = drop_more word i 0 lt ∙ ap (λ c. c ∷ drop (i + 1) word) (sym is) in
    let value_of_b : digit_value b ≡ b - 48 = omega (arith, digit_value_digit b (low, high)) in
    let is_digit : digit_value b < 10 = omega arith in
    let same : value * 10 + digit_value b ≡ more = omega arith in
    record {
      so_far = h.so_far ∙ ap (digits_value_after 10 value) split ∙ ap (λ n. digits_value_after 10 n (drop (i + 1) word)) same;
      digits = λ d. h.digits (subst (AllDigits 10) (sym split) (is_digit, d));
      back = λ d. (subst (AllDigits 10) split (h.back d)).1;
    }

-- a byte that is no digit
pub walked_stops : (most : ℕ) (word : List ℕ) (i value b : ℕ) → most < 2 ^ 64 → Walked word i value → i < length word → b ≡ get_or word i 0 → (48 ≤ b → b ≤ 57 → ⊥) → number_in most word ≡ None
walked_stops most word i value b small h lt is other = grind (arith, common_steps, drop_more, not_digits, digit_from_value)

-- the digits so far and the next are too large a number already
pub walked_past : (most : ℕ) (word : List ℕ) (i value b : ℕ) → most < 2 ^ 64 → Walked word i value → i < length word → b ≡ get_or word i 0 → 48 ≤ b → b ≤ 57 → most < value * 10 + (b - 48) → number_in most word ≡ None
walked_past most word i value b small h lt is low high past = grind (arith, common_steps, walked_more, too_large, le_value)

pub walked_all : (most : ℕ) (word : List ℕ) (i value : ℕ) → value < 2 ^ 64 → Walked word i value → length word ≤ i → is_plain word ≡ true → number_in most word ≡ cond (nat_le value most) (Some value) None
walked_all most word i value small h le plain =
    let none : drop i word ≡ [] = drop_of_length-le word le in
    let whole : digits_value 10 word ≡ value = h.so_far ∙ ap (digits_value_after 10 value) none in
    let digits = h.digits (subst (AllDigits 10) (sym none) tt) in
    plain_number most word digits plain (omega arith) ∙ ap (λ v. cond (nat_le v most) (Some v) None) whole

-- what the test of a byte tells
pub not_digit : (b : ℕ) (test : Bool) → test ≡ is_ascii_digit b → test ≡ false → 48 ≤ b → b ≤ 57 → ⊥
not_digit b test is no_digit low high = grind (arith, common_steps, le-leb)

pub a_digit : (b : ℕ) (test : Bool) → test ≡ is_ascii_digit b → test ≡ true → (48 ≤ b) × (b ≤ 57)
a_digit b test is passes = grind (arith, common_steps, and_parts, leb-true)
