-- The next source of a page, and its last one, by one look-up among ranges that are in order.
use Rattle.std.proofs.Common.{◌≡◌, ℕ, ◌≤◌, ◌<◌, Bool, true, false, List, [], ◌∷◌, refl, ap, ◌∙◌, sym, subst, arith, true≢false, Option, None, Some}
use Rattle.std.specs.Prelude.{IsSome}
use Rattle.std.specs.BTreeMap.{BTreeMap, IsOrdered, get}
use Rattle.std.specs.BTreeMap.Range.{IsEntryInRange, IsFromStart, IsInRange, IsRangeOf}
use Rattle.std.specs.Ordering.{is_eq, is_gt, is_lt, nat_cmp, ordering_reverse, ordering_then}
use Rattle.std.specs.declared.cmp.Ordering.{Ordering}
use Rattle.std.specs.declared.cmp.Ordering.TheVariants.{Less, Equal, Greater}
use Rattle.std.specs.declared.ops.Bound.TheVariants.{Included, Unbounded}
use Rattle.std.proofs.lemmas.Bool.Decides.{nat_tests}
use Rattle.wb_names.specs.Ascending.{is_above}
use Rattle.wb_names.specs.Orders.{page_cmp}
use Rattle.wb_names.specs.declared.name.PageId.{PageId}
use Rattle.wb_names.proofs.Orders.{page_total}
use Rattle.wb_gaps.specs.Starts.{AreRanges, IsLastSource, IsNextSource, last_at, past_source, start, start_cmp}
use Rattle.wb_gaps.specs.declared.holdings.Start.{Start}
use Rattle.wb_gaps.proofs.Adding.{none_some}
use Rattle.wb_gaps.proofs.Starts.{page_is, page_itself}

-- of one page, the order is that of the sources and then of the numbers
abbrev place_cmp : ℕ → ℕ → ℕ → ℕ → Ordering
place_cmp s x t y = ordering_then (nat_cmp s t) (nat_cmp x y)

on_page : (page : PageId) (s x t y : ℕ) → start_cmp (start page s x) (start page t y) ≡ place_cmp s x t y
on_page page s x t y = ap (λ (o : Ordering). ordering_then o (place_cmp s x t y)) (page_itself page)

from_nothing : (s x : ℕ) → is_gt (place_cmp 0 0 s x) ≡ false
from_nothing s x = grind (arith, nat_tests)

beyond : (most l s x : ℕ) → nat_cmp l s ≡ Less → place_cmp l most s x ≡ Less
beyond most l s x less = ap (λ (o : Ordering). ordering_then o (nat_cmp most x)) less

above_is : (l s x : ℕ) → x ≤ 4294967295 → place_cmp l 4294967295 s x ≡ Less → l < s
above_is l s x fits less = grind (arith, nat_tests)

above_tested : (l s : ℕ) → is_above (Some l) s ≡ true → nat_cmp l s ≡ Less
above_tested l s above = grind (arith, nat_tests)

-- a later page
later : (p q : PageId) (r : Ordering) → is_gt (ordering_then (page_cmp p q) r) ≡ false → (q ≡ p → ⊥) → page_cmp p q ≡ Less
later p q r h unlike = at (page_cmp p q) refl h where
  at : (o : Ordering) → page_cmp p q ≡ o → is_gt (ordering_then o r) ≡ false → page_cmp p q ≡ Less
  at Less e h = e
  at Equal e h = absurd (unlike (sym (page_is p q (ap is_eq e))))
  at Greater e h = absurd (true≢false h)

-- what is not below a start of a later page is not of this one
not_here : (p q : PageId) (r : Ordering) → page_cmp p q ≡ Less → is_gt (ordering_then (page_cmp q p) r) ≡ false → ⊥
not_here p q r less h = true≢false (sym (ap (λ (o : Ordering). is_gt (ordering_then o r)) (page_total.antisymm q p ∙ ap ordering_reverse less)) ∙ h)

some_found : (v : ℕ) {o : Option ℕ} → o ≡ Some v → IsSome o
some_found v e = subst IsSome (sym e) refl

module _ (m : BTreeMap Start ℕ) (ordered : IsOrdered start_cmp m) (ranges : AreRanges m.entries) (page : PageId) where
  small : (s x l : ℕ) → last_at m.entries page s x ≡ Some l → x ≤ 4294967295
  small s x l found =
      let a = ranges.apart page s in
      let full = a.filled x l found in
      let fits = a.fits x l found in
      omega arith

  -- ---- the next source

  module _ (last : Option ℕ) where
    from_above : (s x : ℕ) → is_above last s ≡ true → IsFromStart start_cmp (past_source page last) (start page s x)
    from_above s x above = at last above where
      at : (o : Option ℕ) → is_above o s ≡ true → IsFromStart start_cmp (past_source page o) (start page s x)
      at None e = ap is_gt (on_page page 0 0 s x) ∙ from_nothing s x
      at (Some l) e = on_page page l 4294967295 s x ∙ beyond 4294967295 l s x (above_tested l s e)

    above_from : (s x : ℕ) → x ≤ 4294967295 → IsFromStart start_cmp (past_source page last) (start page s x) → is_above last s ≡ true
    above_from s x fits from = at last from where
      at : (o : Option ℕ) → IsFromStart start_cmp (past_source page o) (start page s x) → is_above o s ≡ true
      at None e = refl
      at (Some l) e = let lt = above_is l s x fits (sym (on_page page l 4294967295 s x) ∙ e) in grind (arith, nat_tests)

    later_from : (e : Start) → IsFromStart start_cmp (past_source page last) e → (e.page ≡ page → ⊥) → page_cmp page e.page ≡ Less
    later_from e from unlike = at last from where
      at : (o : Option ℕ) → IsFromStart start_cmp (past_source page o) e → page_cmp page e.page ≡ Less
      at None f = later page e.page _ f unlike
      at (Some l) f = later page e.page _ (ap is_gt f) unlike

    pub none_next : (r : List (Start × ℕ)) → r ≡ [] → IsRangeOf start_cmp (past_source page last) Unbounded m r → IsNextSource m.entries page last None
    none_next r none i s h = at (is_above last s) refl where
      at : (b : Bool) → is_above last s ≡ b → is_above last s ≡ false
      at false e = e
      at true e = absurd (none_some h.1 (sym (i.5 none (start page s h.0) (from_above s h.0 e, tt)) ∙ h.2))

    module _ (e : Start × ℕ) (t r : List (Start × ℕ)) (is : r ≡ e ∷ t) (i : IsRangeOf start_cmp (past_source page last) Unbounded m r) where
      first_range : IsRangeOf start_cmp (past_source page last) Unbounded m (e ∷ t)
      first_range = subst (IsRangeOf start_cmp (past_source page last) Unbounded m) is i

      -- it is of a later page
      pub other_next : (e.0.page ≡ page → ⊥) → IsNextSource m.entries page last None
      other_next unlike s h = at (is_above last s) refl where
        at : (b : Bool) → is_above last s ≡ b → is_above last s ≡ false
        at false f = f
        at true f =
            let j = first_range in
            absurd (not_here page e.0.page _ (later_from e.0 j.1.0.0 unlike) (j.2 (start page s h.0) (from_above s h.0 f, tt) (some_found h.1 h.2)))

      pub own_next : e.0.page ≡ page → IsNextSource m.entries page last (Some e.0.source)
      own_next same =
          let j = first_range in
          let here : last_at m.entries page e.0.source e.0.first ≡ Some e.1 = subst (λ (p : PageId). last_at m.entries p e.0.source e.0.first ≡ Some e.1) same j.1.1 in
          let from = subst (λ (p : PageId). IsFromStart start_cmp (past_source page last) (start p e.0.source e.0.first)) same j.1.0.0 in (
            (e.0.first, e.1, here),
            above_from e.0.source e.0.first (small e.0.source e.0.first e.1 here) from,
            λ s h above. not_below e.0.source e.0.first s h.0
                (sym (ap is_gt (on_page page e.0.source e.0.first s h.0))
                ∙ subst (λ (p : PageId). is_gt (start_cmp (start p e.0.source e.0.first) (start page s h.0)) ≡ false) same (j.2 (start page s h.0) (from_above s h.0 above, tt) (some_found h.1 h.2))),
          ) where
            not_below : (a x b y : ℕ) → is_gt (place_cmp a x b y) ≡ false → a ≤ b
            not_below a x b y h = grind (arith, nat_tests)

  -- ---- the last source

  abbrev end : Start
  end = start page 4294967295 4294967295

  in_range : (s x l : ℕ) → last_at m.entries page s x ≡ Some l → IsInRange start_cmp Unbounded (Included end) (start page s x)
  in_range s x l found = (tt, ap is_gt (on_page page s x 4294967295 4294967295) ∙ up_to_end s x (ranges.sources page s x l found) (small s x l found)) where
    up_to_end : (s x : ℕ) → s ≤ 4294967295 → x ≤ 4294967295 → is_gt (place_cmp s x 4294967295 4294967295) ≡ false
    up_to_end s x a b = grind (arith, nat_tests)

  pub none_last : ((q : Start) → IsInRange start_cmp Unbounded (Included end) q → get start_cmp m q ≡ None) → IsLastSource m.entries page None
  none_last none s h = none_some h.1 (sym (none (start page s h.0) (in_range s h.0 h.1 h.2)) ∙ h.2)

  module _ (e : Start) (l : ℕ) (here : IsEntryInRange start_cmp Unbounded (Included end) m (e, l)) (top : (q : Start) → IsInRange start_cmp Unbounded (Included end) q → IsSome (get start_cmp m q) → is_lt (start_cmp e q) ≡ false) where
    -- it is of an earlier page
    pub other_last : (e.page ≡ page → ⊥) → IsLastSource m.entries page None
    other_last unlike s h = earlier e.page page _ _ here.0.1 (top (start page s h.0) (in_range s h.0 h.1 h.2) (some_found h.1 h.2)) unlike where
      earlier : (p q : PageId) (r t : Ordering) → is_gt (ordering_then (page_cmp p q) r) ≡ false → is_lt (ordering_then (page_cmp p q) t) ≡ false → (p ≡ q → ⊥) → ⊥
      earlier p q r t low high other = at (page_cmp p q) refl low high where
        at : (o : Ordering) → page_cmp p q ≡ o → is_gt (ordering_then o r) ≡ false → is_lt (ordering_then o t) ≡ false → ⊥
        at Less e low high = true≢false high
        at Equal e low high = other (page_is p q (ap is_eq e))
        at Greater e low high = true≢false low

    pub own_last : e.page ≡ page → IsLastSource m.entries page (Some e.source)
    own_last same = (
      (e.first, l, subst (λ (p : PageId). last_at m.entries p e.source e.first ≡ Some l) same here.1),
      λ s h. not_above e.source e.first s h.0
          (sym (ap is_lt (on_page page e.source e.first s h.0))
          ∙ subst (λ (p : PageId). is_lt (start_cmp (start p e.source e.first) (start page s h.0)) ≡ false) same (top (start page s h.0) (in_range s h.0 h.1 h.2) (some_found h.1 h.2))),
    ) where
      not_above : (a x b y : ℕ) → is_lt (place_cmp a x b y) ≡ false → b ≤ a
      not_above a x b y h = grind (arith, nat_tests)
