-- A line as it stands in its input, and without its end.
use Rattle.std.proofs.Common.{◌≡◌, ◌≢◌, ℕ, ◌+◌, ◌-◌, Bool, true, false, List, [], ◌∷◌, ◌++◌, length, inl, inr, ◌⊎◌, refl, sym, ap, ◌∙◌, append_assoc, arith, nat_eq, ◌==◌, slice_index}
use Rattle.std.specs.Str.Lines.{strip_carriage_return}
use Rattle.std.proofs.lemmas.Bool.Decides.{nat_tests}
use Rattle.std.proofs.lemmas.List.{length-append, take_at, get_or_at}
use Rattle.wb_lines.specs.Ahead.{NoLineFeed}
use Rattle.wb_lines.specs.Input.{InputLine, content, feed, standing}
use Rattle.wb_lines.proofs.StandingLines.{stripped}
use Rattle.wb_lines.proofs.LineBytes.{NoLineFeed-push}
use Rattle.wb_filters.specs.Filtering.{line_end, ending}
use Rattle.wb_words.proofs.Visible.{Visible, no_return}
use Rattle.wb_filters.proofs.Visible.{no_feed}

-- ---- the end of a line

ends_so : (bytes text : List ℕ) → (text ≡ bytes) ⊎ (bytes ≡ text ++ 13 ∷ []) → text ++ line_end true text bytes ≡ bytes ++ 10 ∷ []
ends_so bytes text (inl e) =
    let same : nat_eq (length text) (length bytes) ≡ true = rw e (grind (arith, nat_tests)) in
    rw same (ap (λ (t : List ℕ). t ++ 10 ∷ []) e)
ends_so bytes text (inr e) =
    let longer : length bytes ≡ length text + 1 = ap length e ∙ length-append text (13 ∷ []) in
    let other : nat_eq (length text) (length bytes) ≡ false = grind (arith, nat_tests) in
    rw other (sym (append_assoc text (13 ∷ []) (10 ∷ [])) ∙ ap (λ (t : List ℕ). t ++ 10 ∷ []) (sym e))

-- content and end are the line as it stands
pub content_ending : (line : InputLine) → content line ++ ending line ≡ standing line
content_ending line = at line.bytes line.ended where
  at : (bytes : List ℕ) (ended : Bool) → content (record { bytes = bytes; ended = ended }) ++ ending (record { bytes = bytes; ended = ended }) ≡ bytes ++ feed ended
  at bytes true = ends_so bytes (strip_carriage_return bytes) (stripped bytes)
  at bytes false = refl

-- ---- another content behind which the same end stands

not_return : (b : ℕ) → b ≢ 13 → (b == 13) ≡ false
not_return b ne = grind (arith, nat_tests, ne)

strip_visible : (text : List ℕ) → Visible text → strip_carriage_return text ≡ text
strip_visible text seen = rw (not_return (slice_index text (length text - 1)) (no_return text seen (length text - 1))) refl

strip_return : (text : List ℕ) → strip_carriage_return (text ++ 13 ∷ []) ≡ text
strip_return text =
    let len : length (text ++ 13 ∷ []) - 1 ≡ length text = omega (arith, length-append text (13 ∷ [])) in
    let last : slice_index (text ++ 13 ∷ []) (length text) ≡ 13 = get_or_at text 13 [] 0 (length text) refl in
    rw (len, last) (take_at text (13 ∷ []) (length text) refl)

-- a line with this content and the end of another
pub record SameEnd (line : InputLine) (text : List ℕ) : Type 0 where
  pub other : InputLine
  pub content-is : content other ≡ text
  pub end : ending other ≡ ending line
  pub ended : other.ended ≡ line.ended
  pub free : NoLineFeed other.bytes
  pub some : other.bytes ≢ []

with_feed : (bytes text : List ℕ) (same : Bool) → nat_eq (length (strip_carriage_return bytes)) (length bytes) ≡ same → Visible text → text ≢ [] → SameEnd (record { bytes = bytes; ended = true }) text
with_feed bytes text true e seen some =
    let plain = strip_visible text seen in
    let all : nat_eq (length (strip_carriage_return text)) (length text) ≡ true = rw plain (grind (arith, nat_tests)) in
    record {
      other = record { bytes = text; ended = true };
      content-is = plain;
      end = rw (all, e) refl;
      ended = refl;
      free = no_feed text seen;
      some = some;
    }
with_feed bytes text false e seen some =
    let bare = strip_return text in
    let len = length-append text (13 ∷ []) in
    let one_more : nat_eq (length text) (length (text ++ 13 ∷ [])) ≡ false = grind (arith, nat_tests) in
    let short : nat_eq (length (strip_carriage_return (text ++ 13 ∷ []))) (length (text ++ 13 ∷ [])) ≡ false = ap (λ (t : List ℕ). nat_eq (length t) (length (text ++ 13 ∷ []))) bare ∙ one_more in
    record {
      other = record { bytes = text ++ 13 ∷ []; ended = true };
      content-is = bare;
      end = rw (short, e) refl;
      ended = refl;
      free = NoLineFeed-push text 13 (no_feed text seen) (omega arith);
      some = λ h. absurd (omega (arith, len, ap length h));
    }

pub same_end : (line : InputLine) (text : List ℕ) → Visible text → text ≢ [] → SameEnd line text
same_end line text seen some = at line.bytes line.ended where
  at : (bytes : List ℕ) (ended : Bool) → SameEnd (record { bytes = bytes; ended = ended }) text
  at bytes true = with_feed bytes text (nat_eq (length (strip_carriage_return bytes)) (length bytes)) refl seen some
  at bytes false = record { other = record { bytes = text; ended = false }; content-is = refl; end = refl; ended = refl; free = no_feed text seen; some = some }
