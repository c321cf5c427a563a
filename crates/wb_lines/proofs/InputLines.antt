-- The lines of an input, from the bytes of the first of them.
use Rattle.std.proofs.Common.{◌≡◌, ◌≢◌, ℕ, ◌<◌, ◌≤◌, Bool, true, false, cond, List, [], ◌∷◌, ◌++◌, length, refl, arith, nat_eq, nat_le, nat_lt, ◌&&◌}
use Rattle.std.proofs.lemmas.Bool.Decides.{nat_tests}
use Rattle.wb_lines.specs.Ahead.{NoLineFeed}
use Rattle.wb_lines.specs.Input.{InputLine, onto_first, input_lines, most_bytes}

not_ten : (b : ℕ) → b ≢ 10 → nat_eq b 10 ≡ false
not_ten b ne = grind (arith, nat_tests, ne)

pub input_lines-whole : (line more : List ℕ) → NoLineFeed line → input_lines (line ++ 10 ∷ more) ≡ record { bytes = line; ended = true } ∷ input_lines more
input_lines-whole [] more none = refl
input_lines-whole (b ∷ line) more none =
    let other : nat_eq b 10 ≡ false = not_ten b none.0 in
    rw (other, input_lines-whole line more none.1) refl

pub input_lines-last : (line : List ℕ) → NoLineFeed line → line ≢ [] → input_lines line ≡ record { bytes = line; ended = false } ∷ []
input_lines-last [] none some = absurd (some refl)
input_lines-last (b ∷ []) none some = rw (not_ten b none.0) refl
input_lines-last (b ∷ c ∷ line) none some = rw (not_ten b none.0, input_lines-last (c ∷ line) none.1 (λ e. cc)) refl

-- the first line is no shorter than what is known of it
pub record StartsLine (front : List ℕ) (lines : List InputLine) : Type 0 where
  pub first : InputLine
  pub others : List InputLine
  pub is : lines ≡ first ∷ others
  pub long : length front ≤ length first.bytes

onto : (b : ℕ) (lines : List InputLine) (test : Bool) (x : List InputLine) → test ≡ false → StartsLine (b ∷ []) (cond test x (onto_first b lines))
onto b [] test x e = record { first = record { bytes = b ∷ []; ended = false }; others = []; is = rw e refl; long = omega arith }
onto b (l ∷ lines) test x e = record { first = record { bytes = b ∷ l.bytes; ended = l.ended }; others = lines; is = rw e refl; long = omega arith }

pub starts_line : (b : ℕ) (front more : List ℕ) → NoLineFeed (b ∷ front) → StartsLine (b ∷ front) (input_lines ((b ∷ front) ++ more))
starts_line b [] more none = onto b (input_lines more) (nat_eq b 10) (record { bytes = []; ended = true } ∷ input_lines more) (not_ten b none.0)
starts_line b (c ∷ front) more none =
    let rest = starts_line c front more none.1 in
    record {
      first = record { bytes = b ∷ rest.first.bytes; ended = rest.first.ended };
      others = rest.others;
      is = rw (not_ten b none.0, rest.is) refl;
      long = omega (arith, rest.long);
    }

abbrev pub whole_line : List ℕ → InputLine
whole_line line = record { bytes = line; ended = true }

abbrev pub last_line : List ℕ → InputLine
last_line line = record { bytes = line; ended = false }

pub fits : (most n : ℕ) (line : List ℕ) → n < most → length line ≤ most_bytes → nat_lt n most && nat_le (length line) most_bytes ≡ true
fits most n line few short = grind (arith, nat_tests)

pub record HasLine (lines : List InputLine) : Type 0 where
  pub first : InputLine
  pub others : List InputLine
  pub is : lines ≡ first ∷ others

pub has_line : (b : Bool) (x : InputLine) (c : ℕ) (xs lines : List InputLine) → HasLine (cond b (x ∷ xs) (onto_first c lines))
has_line true x c xs lines = record { first = x; others = xs; is = refl }
has_line false x c xs [] = record { first = record { bytes = c ∷ []; ended = false }; others = []; is = refl }
has_line false x c xs (l ∷ lines) = record { first = record { bytes = c ∷ l.bytes; ended = l.ended }; others = lines; is = refl }
