-- The bytes of lines, and the lines that are read from them again.
use Rattle.std.proofs.Common.{◌≡◌, ◌≢◌, ℕ, ◌+◌, ◌-◌, Bool, true, false, cond, List, [], ◌∷◌, ◌++◌, length, take, get_or, inl, inr, ◌⊎◌, refl, sym, ap, ◌∙◌, append_assoc, arith, nat_eq, ◌==◌, slice_index, eqb-true, true≢false}
use Rattle.std.specs.Str.Lines.{strip_carriage_return}
use Rattle.std.proofs.lemmas.Bool.Decides.{nat_tests}
use Rattle.std.proofs.lemmas.List.{append-nil, take_more, take_all}
use Rattle.wb_lines.specs.Ahead.{NoLineFeed}
use Rattle.wb_lines.specs.Input.{InputLine, onto_first, input_lines, feed, standing}
use Rattle.wb_lines.proofs.InputLines.{input_lines-whole, input_lines-last}

abbrev pub all_bytes : List InputLine → List ℕ
all_bytes [] = []
all_bytes (line ∷ lines) = standing line ++ all_bytes lines

-- a line before others: the last one alone may have no line feed, and has some bytes then
pub record Stands (line : InputLine) (others : List InputLine) : Type 0 where
  pub free : NoLineFeed line.bytes
  pub last : line.ended ≡ false → (line.bytes ≢ []) × (others ≡ [])

abbrev pub AreLines : List InputLine → Type 0
AreLines [] = Unit {0}
AreLines (line ∷ lines) = Stands line lines × AreLines lines

pub record Reads (lines : List InputLine) (input : List ℕ) : Type 0 where
  pub lines-are : AreLines lines
  pub bytes-are : all_bytes lines ≡ input

not_ten : (b : ℕ) → nat_eq b 10 ≡ false → b ≢ 10
not_ten b e = λ h. absurd (grind (arith, nat_tests))

begins : (b : ℕ) (lines : List InputLine) (input : List ℕ) → b ≡ 10 → Reads lines input → Reads (record { bytes = []; ended = true } ∷ lines) (b ∷ input)
begins b lines input e r = record {
  lines-are = (record { free = tt; last = λ h. absurd (true≢false h) }, r.lines-are);
  bytes-are = ap (λ (t : List ℕ). 10 ∷ t) r.bytes-are ∙ ap (λ (x : ℕ). x ∷ input) (sym e);
}

goes_on : (b : ℕ) (lines : List InputLine) (input : List ℕ) → b ≢ 10 → Reads lines input → Reads (onto_first b lines) (b ∷ input)
goes_on b [] input ne r = record {
  lines-are = (record { free = (ne, tt); last = λ h. (λ k. absurd cc, refl) }, tt);
  bytes-are = ap (λ (t : List ℕ). b ∷ t) r.bytes-are;
}
goes_on b (line ∷ lines) input ne r = record {
  lines-are = (record { free = (ne, r.lines-are.0.free); last = λ h. (λ k. absurd cc, (r.lines-are.0.last h).1) }, r.lines-are.1);
  bytes-are = ap (λ (t : List ℕ). b ∷ t) r.bytes-are;
}

pub reads : (input : List ℕ) → Reads (input_lines input) input
reads [] = record { lines-are = tt; bytes-are = refl }
reads (b ∷ input) = at (nat_eq b 10) refl (reads input) where
  at : (t : Bool) → nat_eq b 10 ≡ t → Reads (input_lines input) input → Reads (cond t (record { bytes = []; ended = true } ∷ input_lines input) (onto_first b (input_lines input))) (b ∷ input)
  at true e r = begins b (input_lines input) input (eqb-true b 10 e) r
  at false e r = goes_on b (input_lines input) input (not_ten b e) r

one_again : (bytes : List ℕ) (ended : Bool) (lines : List InputLine) → Stands (record { bytes = bytes; ended = ended }) lines → input_lines (all_bytes lines) ≡ lines
    → input_lines ((bytes ++ feed ended) ++ all_bytes lines) ≡ record { bytes = bytes; ended = ended } ∷ lines
one_again bytes true lines s e =
    ap input_lines (append_assoc bytes (10 ∷ []) (all_bytes lines)) ∙ input_lines-whole bytes (all_bytes lines) s.free ∙ ap (λ (l : List InputLine). record { bytes = bytes; ended = true } ∷ l) e
one_again bytes false lines s e =
    let alone = s.last refl in
    let whole : (bytes ++ []) ++ all_bytes lines ≡ bytes = rw alone.1 (append-nil (bytes ++ []) ∙ append-nil bytes) in
    ap input_lines whole ∙ input_lines-last bytes s.free alone.0 ∙ ap (λ (l : List InputLine). record { bytes = bytes; ended = false } ∷ l) (sym alone.1)

-- lines that could be those of an input are
pub lines_again : (lines : List InputLine) → AreLines lines → input_lines (all_bytes lines) ≡ lines
lines_again [] are = refl
lines_again (line ∷ lines) are = one_again line.bytes line.ended lines are.0 (lines_again lines are.1)

-- ---- the end of a line

-- a line that ends with a carriage return loses it
pub stripped : (bytes : List ℕ) → (strip_carriage_return bytes ≡ bytes) ⊎ (bytes ≡ strip_carriage_return bytes ++ 13 ∷ [])
stripped bytes = at bytes (slice_index bytes (length bytes - 1) == 13) refl where
  at : (bytes : List ℕ) (t : Bool) → (slice_index bytes (length bytes - 1) == 13) ≡ t → (cond t (take (length bytes - 1) bytes) bytes ≡ bytes) ⊎ (bytes ≡ cond t (take (length bytes - 1) bytes) bytes ++ 13 ∷ [])
  at bytes false e = inl refl
  at [] true e = absurd cc
  at (b ∷ bytes) true e =
      let n : ℕ = length (b ∷ bytes) - 1 in
      let last : get_or (b ∷ bytes) n 0 ≡ 13 = eqb-true (get_or (b ∷ bytes) n 0) 13 e in
      inr (sym (take_all (n + 1) (b ∷ bytes) (omega arith)) ∙ take_more (b ∷ bytes) n 0 (omega arith) ∙ ap (λ (c : ℕ). take n (b ∷ bytes) ++ c ∷ []) last)
