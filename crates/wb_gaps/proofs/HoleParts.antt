-- The holes of a page are its gaps: greatest ranges of numbers that it lacks, each right below a range that it has.
use Rattle.std.proofs.Common.{◌≡◌, ℕ, ◌+◌, ◌-◌, ◌<◌, ◌≤◌, Bool, true, false, List, [], get_or, length, refl, ap, ◌∙◌, sym, subst, arith, ◌⊎◌, inl, inr, ⊎_elim, Option, Some, true≢false}
use Rattle.std.specs.Prelude.{AllPairs, Contains, ◌≢◌}
use Rattle.std.specs.BTreeMap.{BTreeMap, IsOrdered}
use Rattle.std.proofs.lemmas.Bool.{cases_eq, cases_lt}
use Rattle.std.proofs.lemmas.List.{get_or_default}
use Rattle.std.proofs.lemmas.List.Elements.{All-contains}
use Rattle.wb_names.specs.History.{IsHeld, highest}
use Rattle.wb_names.specs.Marks.{known}
use Rattle.wb_names.specs.Values.{DrawopValue}
use Rattle.wb_names.specs.declared.gap.Gap.{Gap}
use Rattle.wb_names.specs.declared.name.PageId.{PageId}
use Rattle.wb_gaps.specs.Answers.{gaps_of, is_held}
use Rattle.wb_gaps.specs.Gaps.{AreGaps, IsApart, IsMissing, Covers as Lacked}
use Rattle.wb_gaps.specs.Holdings.{HoldNamesOf}
use Rattle.wb_gaps.specs.Starts.{AreApart, AreRanges, Covers, IsHole, last_at, ranges_of, start_cmp}
use Rattle.wb_gaps.specs.declared.holdings.Start.{Start}
use Rattle.wb_gaps.proofs.Adding.{some_is}
use Rattle.wb_gaps.proofs.HeldNames.{held-by, held-from}
use Rattle.wb_gaps.proofs.MissingRanges.{gaps_of_page}
use Rattle.wb_gaps.proofs.PageRanges.{cover_held, held_cover}
use Rattle.wb_gaps.proofs.Reports.{greatest_held}

-- ---- the hole right below a range

module _ (f : ℕ → Option ℕ) (a : AreApart f) (x y : ℕ) (here : f x ≡ Some y) (above : 1 < x) where
  at_top : Covers f (x - 1 + 1)
  at_top = let full = a.filled x y here in (x, y, here, omega arith, omega arith)

  pub hole_from_one : ((j l : ℕ) → f j ≡ Some l → x - 1 < j) → IsHole f 1 (x - 1)
  hole_from_one none = record {
    counted = omega arith;
    filled = omega arith;
    free = λ n low high c. let lt = none c.0 c.1 c.2 in let le = c.3 in omega arith;
    below = inl refl;
    above = at_top;
  }

  pub hole_between : (j l : ℕ) → f j ≡ Some l → j ≤ x - 1 → ((k m : ℕ) → f k ≡ Some m → k ≤ x - 1 → k ≤ j) → IsHole f (l + 1) (x - 1)
  hole_between j l at low last =
      let apart = a.apart j l x y at here (omega arith) in
      let full = a.filled j l at in
      record {
        counted = omega arith;
        filled = omega arith;
        free = λ n from to c.
            let start = c.3 in
            let end = c.4 in
            let le = last c.0 c.1 c.2 (omega arith) in
            ⊎_elim
            (λ (is : c.0 ≡ j). let same : c.1 ≡ l = some_is c.1 l (sym c.2 ∙ ap f is ∙ at) in omega arith)
            (λ (ne : c.0 ≢ j). let less = a.apart c.0 c.1 j l c.2 at (omega (arith, ne)) in omega arith)
            (cases_eq c.0 j);
        below = inr (j, l, at, omega arith, omega arith);
        above = at_top;
      }

-- ---- two holes

module _ (f : ℕ → Option ℕ) where
  -- one that reaches below another has none of its numbers
  low_first : (a b c d n : ℕ) → IsHole f a b → IsHole f c d → a ≤ n → n ≤ b → c ≤ n → n ≤ d → c ≤ a
  low_first a b c d n h g l1 h1 l2 h2 = ⊎_elim
      (λ (lt : a < c). ⊎_elim
      (λ (one : c ≡ 1). let low = h.counted in absurd (omega arith))
      (λ (cover : Covers f (c - 1)). absurd (h.free (c - 1) (omega arith) (omega arith) cover))
      g.below)
      (λ (le : c ≤ a). le)
      (cases_lt a c)

  high_last : (a b c d n : ℕ) → IsHole f a b → IsHole f c d → a ≤ n → n ≤ b → c ≤ n → n ≤ d → b ≤ d
  high_last a b c d n h g l1 h1 l2 h2 = ⊎_elim
      (λ (lt : d < b). absurd (h.free (d + 1) (omega arith) (omega arith) g.above))
      (λ (le : b ≤ d). le)
      (cases_lt d b)

  pub one_hole : (a b c d n : ℕ) → IsHole f a b → IsHole f c d → a ≤ n → n ≤ b → c ≤ n → n ≤ d → (a ≡ c) × (b ≡ d)
  one_hole a b c d n h g l1 h1 l2 h2 =
      let p = low_first a b c d n h g l1 h1 l2 h2 in
      let q = low_first c d a b n g h l2 h2 l1 h1 in
      let r = high_last a b c d n h g l1 h1 l2 h2 in
      let s = high_last c d a b n g h l2 h2 l1 h1 in
      (omega arith, omega arith)

-- ---- gaps of a list: they are the same, or one comes before the other

abbrev pub gap : ℕ → ℕ → ℕ → Gap
gap source first last = record { source = source; first = first; last = last }

gap_parts : (s t a b x y : ℕ) → s ≡ t → a ≡ b → x ≡ y → gap s a x ≡ gap t b y
gap_parts s t a b x y d e f = cc

pairs_of : {X : Type 0} (R : X → X → Type 0) (xs : List X) (x y : X) → AllPairs R xs → Contains xs x → Contains xs y → (x ≡ y) ⊎ (R x y ⊎ R y x)
pairs_of {X} R xs x y all (i, inside, e) (j, within, g) = ⊎_elim
    (λ (lt : i < j). inr (inl (subst (λ (v : X). R v y) e (subst (λ (w : X). R (get_or xs i x) w) (get_same j within g) (all i j x lt within)))))
    (λ (le : j ≤ i). ⊎_elim
    (λ (lt : j < i). inr (inr (subst (λ (v : X). R y v) e (subst (λ (w : X). R w (get_or xs i x)) (get_same j within g) (all j i x lt inside)))))
    (λ (ge : i ≤ j). let same : i ≡ j = omega arith in inl (sym e ∙ ap (λ (k : ℕ). get_or xs k x) same ∙ get_same j within g))
    (cases_lt j i))
    (cases_lt i j) where
      get_same : (j : ℕ) → j < length xs → get_or xs j y ≡ y → get_or xs j x ≡ y
      get_same j lt g = get_or_default xs j x y lt ∙ g

module _ (m : BTreeMap Start ℕ) (ordered : IsOrdered start_cmp m) (ranges : AreRanges m.entries) (history : List DrawopValue) (held : HoldNamesOf history (ranges_of m.entries)) (page : PageId) where
  abbrev lasts : ℕ → ℕ → Option ℕ
  lasts source = last_at m.entries page source

  abbrev gaps : List Gap
  gaps = gaps_of history page []

  are : AreGaps history page [] gaps
  are = gaps_of_page history page []

  -- a number is in a range, or it is not held
  covered : (s n : ℕ) → Covers (lasts s) n ⊎ ¬ IsHeld history page s n
  covered s n = at (is_held history page s n) refl where
    at : (b : Bool) → is_held history page s n ≡ b → Covers (lasts s) n ⊎ ¬ IsHeld history page s n
    at true e = inl (held_cover m ordered ranges history held page s n (held-by history page s n e))
    at false e = inr (λ h. true≢false (sym (held-from history page s n h) ∙ e))

  -- no other gap has a number beside a gap
  none_beside : (g : Gap) (n : ℕ) → Contains gaps g → (n ≡ g.last + 1) ⊎ (n + 1 ≡ g.first) → Lacked gaps g.source n → ⊥
  none_beside g n c beside lacked =
      let h : Gap = lacked.0 in
      let same = lacked.2 in
      let low = lacked.3 in
      let high = lacked.4 in
      let full : g.first ≤ g.last = All-contains (λ (k : Gap). k.first ≤ k.last) gaps g are.filled c in
      ⊎_elim
      (λ (is : g ≡ h).
      let first : g.first ≡ h.first = ap (λ (k : Gap). k.first) is in
      let last : g.last ≡ h.last = ap (λ (k : Gap). k.last) is in
      ⊎_elim (λ (e : n ≡ g.last + 1). omega arith) (λ (e : n + 1 ≡ g.first). omega arith) beside)
      (λ (other : IsApart g h ⊎ IsApart h g). ⊎_elim
      (λ (ap : IsApart g h). ⊎_elim
      (λ (lt : g.source < h.source). omega arith)
      (λ (p : (g.source ≡ h.source) × (g.last + 1 < h.first)). let lt = p.1 in ⊎_elim (λ (e : n ≡ g.last + 1). omega arith) (λ (e : n + 1 ≡ g.first). omega arith) beside)
      ap)
      (λ (ap : IsApart h g). ⊎_elim
      (λ (lt : h.source < g.source). omega arith)
      (λ (p : (h.source ≡ g.source) × (h.last + 1 < g.first)). let lt = p.1 in ⊎_elim (λ (e : n ≡ g.last + 1). omega arith) (λ (e : n + 1 ≡ g.first). omega arith) beside)
      ap)
      other)
      (pairs_of IsApart gaps g h are.apart c lacked.1)

  pub hole_of : (g : Gap) → Contains gaps g → IsHole (lasts g.source) g.first g.last
  hole_of g c = record {
    counted = first_missing.counted;
    filled = full;
    free = λ n low high cover. (missing n low high).not_held (cover_held m ordered ranges history held page g.source n cover);
    below = ⊎_elim
        (λ (one : g.first ≡ 1). inl one)
        (λ (ne : g.first ≢ 1).
        let counted = first_missing.counted in
        let known = first_missing.below in
        ⊎_elim
        (λ (cover : Covers (lasts g.source) (g.first - 1)). inr cover)
        (λ (free : ¬ IsHeld history page g.source (g.first - 1)). absurd (none_beside g (g.first - 1) c (inr (omega (arith, ne)))
        ((are.missing g.source (g.first - 1)).1 (record { counted = omega (arith, ne); below = omega arith; not_held = free }))))
        (covered g.source (g.first - 1)))
        (cases_eq g.first 1);
    above = ⊎_elim
        (λ (cover : Covers (lasts g.source) (g.last + 1)). cover)
        (λ (free : ¬ IsHeld history page g.source (g.last + 1)). absurd (none_beside g (g.last + 1) c (inl refl)
        ((are.missing g.source (g.last + 1)).1 (record { counted = omega arith; below = last_below; not_held = free }))))
        (covered g.source (g.last + 1));
  } where
    full : g.first ≤ g.last
    full = All-contains (λ (k : Gap). k.first ≤ k.last) gaps g are.filled c

    missing : (n : ℕ) → g.first ≤ n → n ≤ g.last → IsMissing history page [] g.source n
    missing n low high = (are.missing g.source n).0 (g, c, refl, low, high)

    first_missing : IsMissing history page [] g.source g.first
    first_missing = missing g.first (omega arith) full

    last_missing : IsMissing history page [] g.source g.last
    last_missing = missing g.last full (omega arith)

    last_below : g.last + 1 ≤ known history page [] g.source
    last_below =
        let counted = last_missing.counted in
        let below = last_missing.below in
        ⊎_elim
        (λ (none : highest page g.source history ≡ 0). absurd (omega arith))
        (λ (top : IsHeld history page g.source (highest page g.source history)). ⊎_elim
        (λ (is : highest page g.source history ≡ g.last). absurd (last_missing.not_held (subst (IsHeld history page g.source) is top)))
        (λ (ne : highest page g.source history ≢ g.last). omega (arith, ne))
        (cases_eq (highest page g.source history) g.last))
        (greatest_held history page g.source).reached

  pub gap_of_hole : (s a b : ℕ) → IsHole (lasts s) a b → Contains gaps (gap s a b)
  gap_of_hole s a b h =
      let top = (greatest_held history page s).bound (b + 1) (cover_held m ordered ranges history held page s (b + 1) h.above) in
      let full = h.filled in
      let lacked = (are.missing s a).1 (record { counted = h.counted; below = omega arith; not_held = λ is. h.free a (omega arith) full (held_cover m ordered ranges history held page s a is) }) in
      let g : Gap = lacked.0 in
      let own : IsHole (lasts s) g.first g.last = subst (λ (t : ℕ). IsHole (lasts t) g.first g.last) lacked.2 (hole_of g lacked.1) in
      let same = one_hole (lasts s) a b g.first g.last a h own (omega arith) full lacked.3 lacked.4 in
      subst (Contains gaps) (gap_parts g.source s g.first a g.last b lacked.2 (sym same.0) (sym same.1)) lacked.1
