-- What is drawn over the cells of a canvas, and how cells that show a list are its text.
use Rattle.std.proofs.lemmas.Grind.{common_steps}
use Rattle.std.proofs.Common.{◌≡◌, ℕ, ◌+◌, ◌*◌, ◌<◌, ◌≤◌, ◌≢◌, List, length, get_or, set, refl, ap, ◌∙◌, sym, arith, ◌⊎◌, inl, inr, length-set, get_or-set_same, get_or-set_other, ◌-◌, ◌++◌, take, drop, length-append, length-drop, ◌/◌, ◌%◌, [], ◌∷◌, map, below_more}
use Rattle.std.specs.Prelude.{Bool, true, false, cond, ◌&&◌, ◌||◌, nat_lt, nat_eq, nat_le, min, max, replicate}
use Rattle.std.proofs.lemmas.Bool.{cases_lt}
use Rattle.std.proofs.lemmas.Bool.Decides.{nat_tests}
use Rattle.std.proofs.lemmas.Nat.{same_from_place, mul-add-lt, div_below, mod_below, div-add-mod'}
use Rattle.wb_display.specs.Cells.{place, is_at, Overlays, is_on_row, is_on_column, Shows}
use Rattle.wb_display.specs.Canvas.{is_on_frame, covers, glyph_of, glyph_at, row_text, canvas_text}
use Rattle.std.proofs.lemmas.List.{length-take-le, length-replicate, get_or_append_left, get_or_at, ext_get_or}
use Rattle.std.proofs.lemmas.List.Concat.{get_or-flat_map}
use Rattle.std.proofs.lemmas.Grind.{elements}
use Rattle.std.specs.List.{range_with_len, flat_map}
use Rattle.std.proofs.lemmas.List.FromFn.{length-range_with_len, get_or-range_with_len, length-map-range_with_len, get_or-map-range_with_len}
use Rattle.wb_names.specs.Values.{DrawopValue}
use Rattle.wb_names.specs.declared.parts.Op.{Op}

-- ---- one thing drawn after another

-- a cell has the glyph where it is covered, and stays as it was where it is not
changed : (b : Bool) (n o g : ℕ) → (b ≡ true → n ≡ g) → (b ≡ false → n ≡ o) → n ≡ cond b g o
changed true n o g hit miss = hit refl
changed false n o g hit miss = miss refl

-- one glyph put into the canvas
pub plotted : (w h px py g : ℕ) (old : List ℕ) → px < w → py < h → length old ≡ h * (w + 1) → Overlays w h (is_at px py) (λ _. g) old (set old (py * (w + 1) + px) g)
plotted w h px py g old lx ly len = record {
  len = length-set old (py * (w + 1) + px) g;
  cells = λ x y hx hy. changed (nat_lt x w && is_at px py x y) _ _ g (λ e. hit x y e) (λ e. miss x y hx e);
} where
  hit : (x y : ℕ) → (nat_lt x w && is_at px py x y) ≡ true → get_or (set old (py * (w + 1) + px) g) (place w x y) 0 ≡ g
  hit x y e = grind (arith, common_steps)

  miss : (x y : ℕ) → x ≤ w → (nat_lt x w && is_at px py x y) ≡ false → get_or (set old (py * (w + 1) + px) g) (place w x y) 0 ≡ get_or old (place w x y) 0
  miss x y hx e = get_or-set_other old (place w px py) (place w x y) g 0 (λ s. let p = same_from_place y x py px (w + 1) (omega arith) (omega arith) s in absurd (grind (arith, nat_tests)))

-- nothing drawn
pub untouched : (w h : ℕ) (glyph : ℕ → ℕ) (old : List ℕ) → Overlays w h (λ x y. false) glyph old old
untouched w h glyph old = grind (arith, common_steps)

-- one thing over another, as one
pub drawn_over : (w h : ℕ) (a b c : ℕ → ℕ → Bool) (ga gb g : ℕ → ℕ) (old mid new : List ℕ) → Overlays w h a ga old mid → Overlays w h b gb mid new
    → ((x y : ℕ) → c x y ≡ (a x y || b x y)) → ((x y : ℕ) → a x y ≡ true → b x y ≡ false → ga x ≡ g x) → ((x y : ℕ) → b x y ≡ true → gb x ≡ g x) → Overlays w h c g old new
drawn_over w h a b c ga gb g old mid new first second all p q = grind (arith, common_steps)

-- what covers the same points of the canvas, with the same glyphs there, is the same
pub agreeing : (w h : ℕ) (a b : ℕ → ℕ → Bool) (g : ℕ → ℕ) (old new : List ℕ) → Overlays w h a g old new → ((x y : ℕ) → x < w → y < h → a x y ≡ b x y) → Overlays w h b g old new
agreeing w h a b g old new drawn same = grind (arith, common_steps)

-- ---- rows, columns and texts, drawn a cell at a time

-- the cells of a column from one row up to another, not included
abbrev pub column_upto : ℕ → ℕ → ℕ → ℕ → ℕ → Bool
column_upto low end px x y = nat_eq x px && (nat_le low y && nat_lt y end)

-- two rows and two columns are a frame
frame_sides : (a b c d x y : ℕ) → is_on_frame a b c d x y ≡ (((is_on_row a c b x y || is_on_row a c d x y) || is_on_column b d a x y) || is_on_column b d c x y)
frame_sides a b c d x y = grind (arith, nat_tests)

pub frame_drawn : (w h a b c d g : ℕ) (s0 s1 s2 s3 s4 : List ℕ) → Overlays w h (is_on_row a c b) (λ _. g) s0 s1 → Overlays w h (is_on_row a c d) (λ _. g) s1 s2 → Overlays w h (is_on_column b d a) (λ _. g) s2 s3 → Overlays w h (is_on_column b d c) (λ _. g) s3 s4 → Overlays w h (is_on_frame a b c d) (λ _. g) s0 s4
frame_drawn w h a b c d g s0 s1 s2 s3 s4 top low left right =
    let two = drawn_over w h (is_on_row a c b) (is_on_row a c d) (λ x y. is_on_row a c b x y || is_on_row a c d x y) (λ _. g) (λ _. g) (λ _. g) s0 s1 s2 top low (λ x y. refl) (λ x y p q. refl) (λ x y p. refl) in
    let three = drawn_over w h (λ x y. is_on_row a c b x y || is_on_row a c d x y) (is_on_column b d a) (λ x y. (is_on_row a c b x y || is_on_row a c d x y) || is_on_column b d a x y) (λ _. g) (λ _. g) (λ _. g) s0 s2 s3 two left (λ x y. refl) (λ x y p q. refl) (λ x y p. refl) in
    drawn_over w h (λ x y. (is_on_row a c b x y || is_on_row a c d x y) || is_on_column b d a x y) (is_on_column b d c) (is_on_frame a b c d) (λ _. g) (λ _. g) (λ _. g) s0 s3 s4 three right (frame_sides a b c d) (λ x y p q. refl) (λ x y p. refl)

-- ---- a row, filled at once

-- cells of which those from one place up to another are now others
abbrev filled : ℕ → ℕ → List ℕ → List ℕ → List ℕ
filled s e ys old = take s old ++ (ys ++ drop (e - s) (drop s old))

module _ (s e g : ℕ) (old ys : List ℕ) (order : s ≤ e) (room : e ≤ length old) (all : ys ≡ replicate (length (take (e - s) (drop s old))) g) where
  count : length ys ≡ e - s
  count = ap length all ∙ length-replicate _ g ∙ length-take-le (e - s) (drop s old) (omega (arith, length-drop s old))

  length-filled : length (filled s e ys old) ≡ length old
  length-filled = grind (arith, elements, count)

  within : (i : ℕ) → s ≤ i → i < e → get_or (filled s e ys old) i 0 ≡ g
  within i le lt = grind (arith, elements, count)

  kept : (i : ℕ) → (i < s) ⊎ (e ≤ i) → get_or (filled s e ys old) i 0 ≡ get_or old i 0
  kept i (inl lt) = grind (arith, elements, count)
  kept i (inr le) = grind (arith, elements, count)

-- the cells that the code fills, by what `fill` tells of them
pub row_filled : (w h a b py g r first end : ℕ) (old ys : List ℕ) → r ≡ py → first ≡ min a b → end ≡ min (max a b + 1) w → first < end → py < h → length old ≡ h * (w + 1)
    → ys ≡ replicate (length (take (r * (w + 1) + end - (r * (w + 1) + first)) (drop (r * (w + 1) + first) old))) g
    → Overlays w h (is_on_row a b py) (λ _. g) old (filled (r * (w + 1) + first) (r * (w + 1) + end) ys old)
row_filled w h a b py g r first end old ys er ef ee some low len all = rw (← er) (record {
  len = length-filled s e g old ys order room all;
  cells = λ x y hx hy. changed (nat_lt x w && is_on_row a b r x y) _ _ g (λ t. hit x y t) (λ t. kept s e g old ys order room all (place w x y) (miss x y hx t (cases_lt (place w x y) s) (cases_lt (place w x y) e)));
}) where
  s : ℕ
  s = r * (w + 1) + first

  e : ℕ
  e = r * (w + 1) + end

  order : s ≤ e
  order = omega arith

  room : e ≤ length old
  room = omega (arith, mul-add-lt r (w + 1) w h (omega arith) (omega arith), len)

  hit : (x y : ℕ) → (nat_lt x w && is_on_row a b r x y) ≡ true → get_or (filled s e ys old) (place w x y) 0 ≡ g
  hit x y t =
      let same : y ≡ r = grind (arith, nat_tests) in
      let from : first ≤ x = grind (arith, nat_tests) in
      let to : x < end = grind (arith, nat_tests) in
      within s e g old ys order room all (place w x y) (rw same (omega arith)) (rw same (omega arith))

  miss : (x y : ℕ) → x ≤ w → (nat_lt x w && is_on_row a b r x y) ≡ false → (place w x y < s) ⊎ (s ≤ place w x y) → (place w x y < e) ⊎ (e ≤ place w x y) → (place w x y < s) ⊎ (e ≤ place w x y)
  miss x y hx t (inl early) _ = inl early
  miss x y hx t (inr _) (inr late) = inr late
  miss x y hx t (inr from) (inl to) =
      let p = same_from_place y x r (place w x y - r * (w + 1)) (w + 1) (omega arith) (omega arith) (omega arith) in
      absurd (grind (arith, nat_tests))

-- ---- cells that show a list are its canvas text

-- rows of one length, one after another
module _ (row : ℕ → List ℕ) (n : ℕ) (even : (y : ℕ) → length (row y) ≡ n) where
  length-rows : (ys : List ℕ) → length (flat_map row ys) ≡ length ys * n
  length-rows [] = omega arith
  length-rows (y ∷ ys) = omega (arith, length-append (row y) (flat_map row ys), even y, length-rows ys)

  get_or-rows : (h y x : ℕ) → y < h → x < n → get_or (flat_map row (range_with_len 0 h)) (y * n + x) 0 ≡ get_or (row y) x 0
  get_or-rows h y x hy hx =
      let ys = range_with_len 0 h in
      let there : y < length ys = omega (arith, length-range_with_len 0 h) in
      let at : y * n + x ≡ length (flat_map row (take y ys)) + x = omega (arith, length-rows (take y ys), ap (λ (k : ℕ). k * n) (length-take-le y ys (omega arith))) in
      ap (λ (i : ℕ). get_or (flat_map row ys) i 0) at
      ∙ get_or-flat_map row ys y x y 0 there (omega (arith, even (get_or ys y y)))
      ∙ ap (λ (k : ℕ). get_or (row k) x 0) (get_or-range_with_len 0 h y y hy ∙ (let e : 0 + y ≡ y = omega arith in e))

length-row : (ds : List DrawopValue) (w y : ℕ) → length (row_text ds w y) ≡ w + 1
length-row ds w y = omega (arith, length-append (map (λ x. glyph_at ds x y) (range_with_len 0 w)) (10 ∷ []), length-map-range_with_len (λ x. glyph_at ds x y) 0 w)

in_row : (ds : List DrawopValue) (w y x : ℕ) → x < w → get_or (row_text ds w y) x 0 ≡ glyph_at ds x y
in_row ds w y x lt =
    get_or_append_left (map (λ x. glyph_at ds x y) (range_with_len 0 w)) (10 ∷ []) 0 x (omega (arith, length-map-range_with_len (λ x. glyph_at ds x y) 0 w))
    ∙ get_or-map-range_with_len (λ x. glyph_at ds x y) 0 w x x 0 lt (omega arith)

at_feed : (ds : List DrawopValue) (w y : ℕ) → get_or (row_text ds w y) w 0 ≡ 10
at_feed ds w y = get_or_at (map (λ x. glyph_at ds x y) (range_with_len 0 w)) 10 [] 0 w (length-map-range_with_len (λ x. glyph_at ds x y) 0 w)

-- cells that show a list are its canvas text
pub shown_text : (w h : ℕ) (ds : List DrawopValue) (cells : List ℕ) → Shows w h ds cells → cells ≡ canvas_text ds w h
shown_text w h ds cells s =
    ext_get_or 0 cells (canvas_text ds w h) (s.len ∙ sym (length-rows (row_text ds w) (w + 1) (length-row ds w) (range_with_len 0 h) ∙ ap (λ (k : ℕ). k * (w + 1)) (length-range_with_len 0 h)))
    (λ i lt. here i (i / (w + 1)) (i % (w + 1)) (div-add-mod' i (w + 1)) (div_below i (w + 1) h (omega arith) (let l = s.len in omega arith)) (mod_below i (w + 1) (omega arith))) where
      cell : (y x : ℕ) → y < h → x < w + 1 → (x < w) ⊎ (w ≤ x) → get_or cells (place w x y) 0 ≡ get_or (row_text ds w y) x 0
      cell y x hy hx (inl lt) = s.columns x y lt hy ∙ sym (in_row ds w y x lt)
      cell y x hy hx (inr le) =
          let e : x ≡ w = omega arith in
          ap (λ (t : ℕ). get_or cells (place w t y) 0) e ∙ s.feeds y hy ∙ sym (at_feed ds w y) ∙ ap (λ (t : ℕ). get_or (row_text ds w y) t 0) (sym e)

      here : (i y x : ℕ) → y * (w + 1) + x ≡ i → y < h → x < w + 1 → get_or cells i 0 ≡ get_or (canvas_text ds w h) i 0
      here i y x e hy hx =
          ap (λ (t : ℕ). get_or cells t 0) (sym e) ∙ cell y x hy hx (cases_lt x w) ∙ sym (get_or-rows (row_text ds w) (w + 1) (length-row ds w) h y x hy hx) ∙ ap (λ (t : ℕ). get_or (canvas_text ds w h) t 0) e

-- one more line feed: the columns stay as they were, and the feeds above too
pub fed_columns : (w h y : ℕ) (cells : List ℕ) → ((a b : ℕ) → a < w → b < h → get_or cells (place w a b) 0 ≡ 32) → (a b : ℕ) → a < w → b < h → get_or (set cells (y * (w + 1) + w) 10) (place w a b) 0 ≡ 32
fed_columns w h y cells blank a b ha hb =
    let other : place w a b ≢ place w w y = λ s. (let e = (same_from_place b a y w (w + 1) (omega arith) (omega arith) s).1 in omega arith) in
    get_or-set_other cells (place w w y) (place w a b) 10 0 other ∙ blank a b ha hb

pub fed_feeds : (w h y : ℕ) (cells : List ℕ) → y < h → length cells ≡ h * (w + 1) → ((b : ℕ) → b < y → get_or cells (place w w b) 0 ≡ 10) → (b : ℕ) → b < y + 1 → get_or (set cells (y * (w + 1) + w) 10) (place w w b) 0 ≡ 10
fed_feeds w h y cells hy len fed =
    let P : ℕ → Type 0 = λ b. get_or (set cells (y * (w + 1) + w) 10) (place w w b) 0 ≡ 10 in
    below_more P y
    (λ b hb. let other : place w w b ≢ place w w y = λ s. (let e = (same_from_place b w y w (w + 1) (omega arith) (omega arith) s).0 in omega arith) in get_or-set_other cells (place w w y) (place w w b) 10 0 other ∙ fed b hb)
    (get_or-set_same cells (place w w y) 10 0 (omega (arith, mul-add-lt y (w + 1) w h hy (omega arith), len)))

pub ruleset fed = (fed_columns, fed_feeds)

-- the same, at a step of a loop over the list
pub shows_next : (w h : ℕ) (ds : List DrawopValue) (i : ℕ) (d : DrawopValue) (op : Op) (old new : List ℕ) → i < length ds → d ≡ get_or ds i d → op ≡ d.op → Shows w h (take i ds) old → Overlays w h (covers op) (glyph_of op) old new → Shows w h (take (i + 1) ds) new
shows_next w h ds i d op old new lt is same s over = grind (arith, common_steps)
