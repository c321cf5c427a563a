-- The rows of a canvas, one after another.
use Rattle.std.proofs.Common.{◌≡◌, ℕ, zero, suc, ◌+◌, ◌-◌, ◌<◌, List, [], ◌∷◌, ◌++◌, length, take, drop, map, flat_map, ap, ◌∙◌, sym, append_assoc, append-nil, arith, length-append}
use Rattle.std.specs.Prelude.{min, codes}
use Rattle.std.specs.List.{range_with_len}
use Rattle.std.proofs.lemmas.Grind.{flat_map-append}
use Rattle.std.proofs.lemmas.List.{drop-append-le, drop_all, length-map, take-append-le, take_all}
use Rattle.std.proofs.lemmas.List.FromFn.{length-range_with_len}
use Rattle.wb_names.specs.Values.{DrawopValue}
use Rattle.wb_display.specs.Canvas.{canvas_text, glyph_at, row_text}
use Rattle.wb_dialog.specs.Texts.{painted_row}

-- what is left of a canvas after its first rows, and what was written for these
pub record ArePainted (shown : List DrawopValue) (width height done : ℕ) (rest text : List ℕ) : Type 0 where
  pub left : rest ≡ flat_map (row_text shown width) (range_with_len done (height - done))
  pub written : text ≡ flat_map (painted_row shown width) (range_with_len 0 done)

row_len : (shown : List DrawopValue) (width y : ℕ) → length (row_text shown width y) ≡ width + 1
row_len shown width y = length-append (map (λ x. glyph_at shown x y) (range_with_len 0 width)) (10 ∷ []) ∙ ap (λ (n : ℕ). n + 1) (length-map (range_with_len 0 width) (λ x. glyph_at shown x y) ∙ length-range_with_len 0 width)

-- one more number of a range
range_more : (first count : ℕ) → range_with_len first (suc count) ≡ range_with_len first count ++ (first + count) ∷ []
range_more first zero = ap (λ (n : ℕ). n ∷ []) (omega arith)
range_more first (suc count) = ap (λ (ns : List ℕ). first ∷ ns) (range_more (first + 1) count ∙ ap (λ (n : ℕ). range_with_len (first + 1) count ++ n ∷ []) (omega arith))

first_of_rest : (done height : ℕ) → done < height → range_with_len done (height - done) ≡ done ∷ range_with_len (done + 1) (height - (done + 1))
first_of_rest done height lt = let e : height - done ≡ suc (height - (done + 1)) = omega arith in ap (range_with_len done) e

module _ (shown : List DrawopValue) (width height done : ℕ) (rest text : List ℕ) (lt : done < height) (is : ArePainted shown width height done rest text) where
  abbrev row : List ℕ
  row = row_text shown width done

  abbrev others : List ℕ
  others = flat_map (row_text shown width) (range_with_len (done + 1) (height - (done + 1)))

  parts : rest ≡ row_text shown width done ++ flat_map (row_text shown width) (range_with_len (done + 1) (height - (done + 1)))
  parts = is.left ∙ ap (flat_map (row_text shown width)) (first_of_rest done height lt)

  long : length (row_text shown width done) ≡ width + 1
  long = row_len shown width done

  cut : min (length rest) (width + 1) ≡ length (row_text shown width done)
  cut = let n = ap (λ (r : List ℕ). length r) parts ∙ length-append row others in omega (arith, n, long)

  pub taken : take (min (length rest) (width + 1)) rest ≡ row_text shown width done
  taken = ap (λ (n : ℕ). take n rest) cut ∙ ap (take (length row)) parts ∙ take-append-le (length row) row others (omega arith) ∙ take_all (length row) row (omega arith)

  pub dropped : drop (min (length rest) (width + 1)) rest ≡ flat_map (row_text shown width) (range_with_len (done + 1) (height - (done + 1)))
  dropped = ap (λ (n : ℕ). drop n rest) cut ∙ ap (drop (length row)) parts ∙ drop-append-le (length row) row others (omega arith) ∙ ap (λ (r : List ℕ). r ++ others) (drop_all (length row) row (omega arith))

  more : flat_map (painted_row shown width) (range_with_len 0 (done + 1)) ≡ flat_map (painted_row shown width) (range_with_len 0 done) ++ painted_row shown width done
  more =
      let e : done + 1 ≡ suc done = omega arith in
      let last : 0 + done ≡ done = omega arith in
      ap (λ (n : ℕ). flat_map (painted_row shown width) (range_with_len 0 n)) e
      ∙ ap (flat_map (painted_row shown width)) (range_more 0 done)
      ∙ ap (λ (n : ℕ). flat_map (painted_row shown width) (range_with_len 0 done ++ n ∷ [])) last
      ∙ flat_map-append (painted_row shown width) (range_with_len 0 done) (done ∷ [])
      ∙ ap (λ (r : List ℕ). flat_map (painted_row shown width) (range_with_len 0 done) ++ r) (append-nil (painted_row shown width done))

  -- one more row is written
  pub one_more : (next grown : List ℕ) → next ≡ drop (min (length rest) (width + 1)) rest → grown ≡ text ++ codes "|" ++ take (min (length rest) (width + 1)) rest → ArePainted shown width height (done + 1) next grown
  one_more next grown n g = record {
    left = n ∙ dropped;
    written = g ∙ ap (λ (r : List ℕ). text ++ codes "|" ++ r) taken ∙ append_assoc text (codes "|") row ∙ ap (λ (r : List ℕ). r ++ painted_row shown width done) is.written ∙ sym more;
  }

pub painted_none : (shown : List DrawopValue) (width height : ℕ) (canvas text : List ℕ) → canvas ≡ canvas_text shown width height → text ≡ [] → ArePainted shown width height 0 canvas text
painted_none shown width height canvas text is begins = record {
  left = is ∙ (let e : height ≡ height - 0 = omega arith in ap (λ (n : ℕ). flat_map (row_text shown width) (range_with_len 0 n)) e);
  written = begins;
}
