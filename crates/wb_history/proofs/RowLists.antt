-- Rows as ranges: the last one, and ranges that are cut after some rows.
use Rattle.std.proofs.lemmas.Grind.{common_steps}
use Rattle.std.proofs.Common.{◌≡◌, ℕ, zero, suc, ◌+◌, ◌-◌, ◌<◌, ◌≤◌, List, [], ◌∷◌, ◌++◌, length, get_or, take, drop, slice_set, refl, sym, ap, ◌∙◌, subst, arith, append_assoc, length-append}
use Rattle.std.specs.List.{range_with_len}
use Rattle.std.proofs.lemmas.List.{append-nil, take-append-drop, take_more, length-take-le}
use Rattle.std.proofs.lemmas.List.FromFn.{length-range_with_len}
use mathlib.Core.Option.{some}
use lib.ListN.{get_elem?}
use Rattle.std.specs.Prelude.{All}
use Rattle.std.proofs.lemmas.List.Elements.{All-take, All-drop, All-push, All-head, All-tail, All-cons}
use Rattle.atomic_table.proofs.Lists.{drop_at}
use Rattle.wb_history.specs.declared.ranges.RowRange.{RowRange}
use Rattle.wb_history.specs.RowRanges.{rows_of, rows_in, IsRange}
use Rattle.wb_history.proofs.Lists.{at_after}

pub rows-append : (rs ss : List RowRange) → rows_in (rs ++ ss) ≡ rows_in rs ++ rows_in ss
rows-append [] ss = refl
rows-append (r ∷ rs) ss = grind (arith, common_steps, append_assoc, rows-append rs ss)

range-append : (a m n : ℕ) → range_with_len a (m + n) ≡ range_with_len a m ++ range_with_len (a + m) n
range-append a zero n = grind (arith, common_steps)
range-append a (suc m) n =
    let e : suc m + n ≡ suc (m + n) = omega arith in
    let f : a + 1 + m ≡ a + suc m = omega arith in
    ap (λ k. range_with_len a k) e ∙ ap (λ (l : List ℕ). a ∷ l) (range-append (a + 1) m n ∙ ap (λ k. range_with_len (a + 1) m ++ range_with_len k n) f)

range_at : (a n i : ℕ) → i < n → get_elem? (range_with_len a n) i ≡ some (a + i)
range_at a zero i h = absurd (omega arith)
range_at a (suc n) zero h = let e : a ≡ a + 0 = omega arith in ap some e
range_at a (suc n) (suc i) h = grind (arith, common_steps, range_at (a + 1) n i (omega arith))

-- a list in two parts, cut where the first one ends
pub cut_at : (xs front back : List ℕ) (k : ℕ) → xs ≡ front ++ back → length front ≡ k → (take k xs ≡ front) × (drop k xs ≡ back)
cut_at xs front back k is long = grind (arith, common_steps)

-- ranges, by the last of them
pub last_range : (rs : List RowRange) (n : ℕ) (r : RowRange) → length rs ≡ n + 1 → r ≡ get_or rs n r → rs ≡ take n rs ++ r ∷ []
last_range rs n r long at = grind (arith, common_steps)

pub last_rows : (rs : List RowRange) (n : ℕ) (r : RowRange) → length rs ≡ n + 1 → r ≡ get_or rs n r → rows_in rs ≡ rows_in (take n rs) ++ rows_of r
last_rows rs n r long at = grind (arith, common_steps, last_range, rows-append, append-nil)

-- the last row
pub last_is : (rs : List RowRange) (n : ℕ) (r : RowRange) → length rs ≡ n + 1 → r ≡ get_or rs n r → 0 < r.count → get_elem? (rows_in rs) (length (rows_in rs) - 1) ≡ some (r.first + (r.count - 1))
last_is rs n r long at some_rows =
    let is = last_rows rs n r long at in
    let many = ap length is ∙ length-append (rows_in (take n rs)) (rows_of r) in
    let size = length-range_with_len r.first r.count in
    let place : length (rows_in rs) - 1 ≡ length (rows_in (take n rs)) + (r.count - 1) = omega arith in
    ap (λ (l : List ℕ). get_elem? l (length (rows_in rs) - 1)) is ∙ (ap (λ (k : ℕ). get_elem? (rows_in (take n rs) ++ rows_of r) k) place
    ∙ at_after (rows_in (take n rs)) (rows_of r) (r.count - 1) (r.first + (r.count - 1)) (range_at r.first r.count (r.count - 1) (omega arith)))

-- the rows of a range, in two parts
pub range_parts : (r : RowRange) (m : ℕ) → m ≤ r.count → rows_of r ≡ range_with_len r.first m ++ range_with_len (r.first + m) (r.count - m)
range_parts r m few = let e : r.count ≡ m + (r.count - m) = omega arith in ap (λ k. range_with_len r.first k) e ∙ range-append r.first m (r.count - m)

-- without the last row
pub without_last : (rs : List RowRange) (n : ℕ) (r : RowRange) → length rs ≡ n + 1 → r ≡ get_or rs n r → 0 < r.count → take (length (rows_in rs) - 1) (rows_in rs) ≡ rows_in (take n rs) ++ range_with_len r.first (r.count - 1)
without_last rs n r long at some_rows =
    let front = rows_in (take n rs) ++ range_with_len r.first (r.count - 1) in
    let back = range_with_len (r.first + (r.count - 1)) (r.count - (r.count - 1)) in
    let is : rows_in rs ≡ front ++ back = last_rows rs n r long at ∙ (ap (λ (l : List ℕ). rows_in (take n rs) ++ l) (range_parts r (r.count - 1) (omega arith)) ∙ sym (append_assoc (rows_in (take n rs)) (range_with_len r.first (r.count - 1)) back)) in
    let many = ap length is ∙ length-append front back in
    let one = length-range_with_len (r.first + (r.count - 1)) (r.count - (r.count - 1)) in
    (cut_at (rows_in rs) front back (length (rows_in rs) - 1) is (omega arith)).0

-- ranges cut between two of them, and inside of one
pub cut_between : (rs : List RowRange) (n : ℕ) → rows_in rs ≡ rows_in (take n rs) ++ rows_in (drop n rs)
cut_between rs n = ap rows_in (sym (take-append-drop n rs)) ∙ rows-append (take n rs) (drop n rs)

pub cut_inside : (rs rest : List RowRange) (n m : ℕ) (r front back : RowRange) → drop n rs ≡ r ∷ rest → m ≤ r.count → rows_of front ≡ range_with_len r.first m → rows_of back ≡ range_with_len (r.first + m) (r.count - m)
    → rows_in rs ≡ rows_in (take n rs ++ front ∷ []) ++ rows_in (back ∷ rest)
cut_inside rs rest n m r front back from few first second =
    let a = rows_in (take n rs) in
    let f = range_with_len r.first m in
    let b = range_with_len (r.first + m) (r.count - m) in
    let whole : rows_in rs ≡ a ++ ((f ++ b) ++ rows_in rest) = cut_between rs n ∙ (ap (λ (l : List RowRange). a ++ rows_in l) from ∙ ap (λ (l : List ℕ). a ++ (l ++ rows_in rest)) (range_parts r m few)) in
    let left : rows_in (take n rs ++ front ∷ []) ≡ a ++ f = rows-append (take n rs) (front ∷ []) ∙ (ap (λ (l : List ℕ). a ++ l) (append-nil (rows_of front)) ∙ ap (λ (l : List ℕ). a ++ l) first) in
    let right : rows_in (back ∷ rest) ≡ b ++ rows_in rest = ap (λ (l : List ℕ). l ++ rows_in rest) second in
    whole ∙ (ap (λ (l : List ℕ). a ++ l) (append_assoc f b (rows_in rest)) ∙ (sym (append_assoc a f (b ++ rows_in rest)) ∙ (ap (λ (l : List ℕ). l ++ (b ++ rows_in rest)) (sym left) ∙ ap (λ (l : List ℕ). rows_in (take n rs ++ front ∷ []) ++ l) (sym right))))

-- the ranges so far, and one more
pub rows_more : (rs : List RowRange) (i : ℕ) (z : RowRange) → i < length rs → length (rows_in (take (i + 1) rs)) ≡ length (rows_in (take i rs)) + (get_or rs i z).count
rows_more rs i z below = grind (arith, common_steps, length-range_with_len, take_more, rows-append, length-append, append-nil)

pub some_range : (rs : List RowRange) → 0 < length (rows_in rs) → 0 < length rs
some_range [] h = absurd (omega arith)
some_range (r ∷ rs) h = omega arith

-- The ranges have the rows of a list but for its last `rows` rows. It has `count` rows
pub record HaveFirst (items : List ℕ) (count rows : ℕ) (kept : List RowRange) : Type 0 where
  pub first : rows_in kept ≡ take (length items - rows) items
  pub many : count - rows ≡ length (rows_in kept)
  pub ranges : All IsRange kept

-- the ranges have the last `rows` rows of a list
pub record HaveLast (items : List ℕ) (rows : ℕ) (cut : List RowRange) : Type 0 where
  pub last : rows_in cut ≡ drop (length items - rows) items
  pub many : rows ≡ length (rows_in cut)
  pub ranges : All IsRange cut

-- the rows of ranges, which are counted
module _ (rs : List RowRange) (count rows : ℕ) (items : List ℕ) (is : rows_in rs ≡ items) (lawful : (count ≡ length (rows_in rs)) × All IsRange rs) (few : rows ≤ length items) where
  in_two : (kept cut : List RowRange) → rows_in rs ≡ rows_in kept ++ rows_in cut → length (rows_in kept) ≡ count - rows → All IsRange kept → All IsRange cut → HaveFirst items count rows kept × HaveLast items rows cut
  in_two kept cut parts long first second = grind (arith, common_steps)

  -- cut at a place that a slice of them tells: between two ranges
  module _ (slice : List RowRange) (at part : ℕ) (same : slice ≡ rs) (before : length (rows_in (take at slice)) + part ≡ count - rows) where
    here : length (rows_in (take at rs)) + part ≡ count - rows
    here = grind (arith, common_steps)

    pub parts_between : part ≡ 0 → HaveFirst items count rows (take at rs) × HaveLast items rows (drop at rs)
    parts_between none = let kept = here in in_two (take at rs) (drop at rs) (cut_between rs at) (omega arith) (All-take IsRange at rs lawful.1) (All-drop IsRange at rs lawful.1)

    -- or inside of one
    pub parts_inside : (tail : List RowRange) (r : RowRange) → (0 < part → (x : RowRange) × (get_elem? slice at ≡ some x) × (part < x.count)) → tail ≡ drop at rs → 0 < part → r ≡ get_or tail 0 r
        → IsRange r × (part < r.count) × HaveFirst items count rows (take at rs ++ record { first = r.first; count = part } ∷ []) × HaveLast items rows (slice_set tail 0 record { first = r.first + part; count = r.count - part })
    parts_inside tail r inside cut some_rows read =
        let there = inside some_rows in
        let from : tail ≡ there.0 ∷ drop (suc at) rs = cut ∙ drop_at rs at there.0 (subst (λ (l : List RowRange). get_elem? l at ≡ some there.0) same there.1) in
        let is_r : there.0 ≡ r = sym (read ∙ ap (λ (l : List RowRange). get_or l 0 r) from) in
        let begins : drop at rs ≡ r ∷ drop (suc at) rs = sym cut ∙ (from ∙ ap (λ (x : RowRange). x ∷ drop (suc at) rs) is_r) in
        let split = subst (All IsRange) begins (All-drop IsRange at rs lawful.1) in
        let one = All-head IsRange r (drop (suc at) rs) split in
        let high : part < r.count = subst (λ (x : RowRange). part < x.count) is_r there.2 in
        let end = one.1 in
        let front : RowRange = record { first = r.first; count = part } in
        let back : RowRange = record { first = r.first + part; count = r.count - part } in
        let kept = here in
        let many = ap length (rows-append (take at rs) (front ∷ []) ∙ ap (λ (l : List ℕ). rows_in (take at rs) ++ l) (append-nil (rows_of front))) ∙ (length-append (rows_in (take at rs)) (rows_of front) ∙ ap (λ j. length (rows_in (take at rs)) + j) (length-range_with_len r.first part)) in
        let two = in_two (take at rs ++ front ∷ []) (back ∷ drop (suc at) rs) (cut_inside rs (drop (suc at) rs) at part r front back begins (omega arith) refl refl) (many ∙ kept)
        (All-push IsRange (take at rs) front (All-take IsRange at rs lawful.1) (some_rows, omega arith))
        (All-cons IsRange back (drop (suc at) rs) (omega arith, omega arith) (All-tail IsRange r (drop (suc at) rs) split)) in
        (one, high, two.0, subst (HaveLast items rows) (sym (ap (λ (l : List RowRange). slice_set l 0 back) from)) two.1)

-- without the last row: the last range has one less, or had it alone
module _ (rs : List RowRange) (count size : ℕ) (r : RowRange) (items : List ℕ) (is : rows_in rs ≡ items) (lawful : (count ≡ length (rows_in rs)) × All IsRange rs) (some_rows : 0 < length items) (sized : size ≡ length rs) (at : r ≡ get_or rs (size - 1) r) where
  long : length rs ≡ (size - 1) + 1
  long = grind (arith, common_steps, some_range)

  one : IsRange r
  one = grind (arith, common_steps, long)

  but_last : (kept : List RowRange) → rows_in (take (size - 1) rs) ++ range_with_len r.first (r.count - 1) ≡ rows_in kept → All IsRange kept → HaveFirst items count 1 kept
  but_last kept same ranges =
      let low = one.0 in
      let counted = lawful.0 in
      let first = without_last rs (size - 1) r long at low ∙ same in
      let rest = sym (length-take-le (length (rows_in rs) - 1) (rows_in rs) (omega arith)) ∙ ap length first in
      record { first = sym first ∙ ap (λ (l : List ℕ). take (length l - 1) l) is; many = omega arith; ranges = ranges }

  pub one_less : 1 < r.count → HaveFirst items count 1 (take (size - 1) rs ++ record { first = r.first; count = r.count - 1 } ∷ [])
  one_less more =
      let s : RowRange = record { first = r.first; count = r.count - 1 } in
      let high = one.1 in
      but_last (take (size - 1) rs ++ s ∷ []) (sym (rows-append (take (size - 1) rs) (s ∷ []) ∙ ap (λ (l : List ℕ). rows_in (take (size - 1) rs) ++ l) (append-nil (rows_of s))))
      (All-push IsRange (take (size - 1) rs) s (All-take IsRange (size - 1) rs lawful.1) (omega arith, omega arith))

  pub none_left : r.count ≤ 1 → HaveFirst items count 1 (take (size - 1) rs)
  none_left few = grind (arith, common_steps, but_last, append-nil, All-take)
