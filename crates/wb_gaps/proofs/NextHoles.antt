-- The first hole after a place, by where ranges begin that do not begin at 1.
use Rattle.std.proofs.Common.{◌≡◌, ℕ, suc, ◌+◌, ◌<◌, ◌≤◌, Bool, true, false, cond, List, [], ◌∷◌, ◌++◌, refl, ap, ◌∙◌, sym, subst, arith, ◌⊎◌, inl, inr, ⊎_elim, None, Some, true≢false}
use Rattle.std.specs.Prelude.{All, AllPairs, Contains, IsTrue, ◌&&◌, is_some, map, nat_lt}
use Rattle.std.specs.BTreeMap.{BTreeMap}
use Rattle.std.specs.List.{find, flat_map}
use Rattle.std.specs.List.Sorted.{IsStrictlySortedBy}
use Rattle.std.specs.Ordering.{is_eq, is_gt, is_lt, nat_cmp, ordering_reverse, ordering_then}
use Rattle.std.specs.declared.cmp.Ordering.{Ordering}
use Rattle.std.specs.declared.cmp.Ordering.TheVariants.{Less, Equal, Greater}
use Rattle.std.proofs.lemmas.Bool.{cases_lt}
use Rattle.std.proofs.lemmas.Bool.Decides.{nat_tests}
use Rattle.std.proofs.lemmas.List.Elements.{All-head, All-tail, Contains-append_cases, Contains-append_left, Contains-append_right}
use Rattle.std.proofs.lemmas.Map.Keys.{sorted_tail}
use Rattle.wb_names.specs.Orders.{page_cmp}
use Rattle.wb_names.specs.Values.{DrawopValue}
use Rattle.wb_names.specs.declared.gap.Gap.{Gap}
use Rattle.wb_names.specs.declared.name.PageId.{PageId}
use Rattle.wb_names.proofs.Listings.{Any-from_map, Contains-cases, Contains-here, Contains-map, Contains-none, Contains-there, below_all}
use Rattle.wb_names.proofs.Orders.{page_total}
use Rattle.wb_gaps.specs.Answers.{gaps_of, pages_of}
use Rattle.wb_gaps.specs.Gaps.{IsApart}
use Rattle.wb_gaps.specs.Holdings.{HoldNamesOf}
use Rattle.wb_gaps.specs.Holes.{begins_after, hole_on, holes_of, holes_on}
use Rattle.wb_gaps.specs.Starts.{AreKept, Covers, IsHole, is_among, last_at, ranges_of, start, start_cmp}
use Rattle.wb_gaps.specs.declared.holdings.Start.{Start}
use Rattle.wb_gaps.specs.declared.holes.Hole.{Hole}
use Rattle.wb_gaps.proofs.HoleParts.{gap_of_hole, hole_of, one_hole}
use Rattle.wb_gaps.proofs.ListParts.{Rising}
use Rattle.wb_gaps.proofs.MissingRanges.{gaps_of_page}
use Rattle.wb_gaps.proofs.OneGaps.{apart_tail}
use Rattle.wb_gaps.proofs.PageAnswers.{pages_of_history}
use Rattle.wb_gaps.proofs.PageRanges.{held_page}
use Rattle.wb_gaps.proofs.Starts.{is_less, page_is, page_itself, start_is, start_parts, start_total}

-- ---- places in order

-- of an earlier page, or of this page and an earlier source, or of this one and a lower number
abbrev Earlier : Start → Start → Type 0
Earlier s t = (page_cmp s.page t.page ≡ Less) ⊎ ((s.page ≡ t.page) × ((s.source < t.source) ⊎ ((s.source ≡ t.source) × (s.first < t.first))))

numbers_less : (a b x y : ℕ) → ordering_then (nat_cmp a b) (nat_cmp x y) ≡ Less → (a < b) ⊎ ((a ≡ b) × (x < y))
numbers_less a b x y e = grind (arith, nat_tests, cases_lt)

less_numbers : (a b x y : ℕ) → (a < b) ⊎ ((a ≡ b) × (x < y)) → ordering_then (nat_cmp a b) (nat_cmp x y) ≡ Less
less_numbers a b x y e = grind (arith, nat_tests)

earlier : (s t : Start) → start_cmp s t ≡ Less → Earlier s t
earlier s t less = at (page_cmp s.page t.page) refl less where
  at : (o : Ordering) → page_cmp s.page t.page ≡ o → ordering_then o (ordering_then (nat_cmp s.source t.source) (nat_cmp s.first t.first)) ≡ Less → Earlier s t
  at Less e f = inl e
  at Equal e f = inr (page_is s.page t.page (ap is_eq e), numbers_less s.source t.source s.first t.first f)
  at Greater e f = absurd cc

comes : (s t : Start) → Earlier s t → start_cmp s t ≡ Less
comes s t e = ⊎_elim
    (λ (less : page_cmp s.page t.page ≡ Less). ap (λ (o : Ordering). ordering_then o (ordering_then (nat_cmp s.source t.source) (nat_cmp s.first t.first))) less)
    (λ (p : (s.page ≡ t.page) × ((s.source < t.source) ⊎ ((s.source ≡ t.source) × (s.first < t.first)))).
    ap (λ (o : Ordering). ordering_then o (ordering_then (nat_cmp s.source t.source) (nat_cmp s.first t.first))) (subst (λ (q : PageId). page_cmp s.page q ≡ Equal) p.0 (page_itself s.page))
    ∙ less_numbers s.source t.source s.first t.first p.1)
    e

lower : (s : Start) (x y : ℕ) → x < y → start_cmp (start s.page s.source x) (start s.page s.source y) ≡ Less
lower s x y lt = comes (start s.page s.source x) (start s.page s.source y) (inr (refl, inr (refl, lt)))

-- a place that does not come after another is the same, or comes before it
same_or_before : (s t : Start) → is_gt (start_cmp s t) ≡ false → (s ≡ t) ⊎ (start_cmp s t ≡ Less)
same_or_before s t h = at (start_cmp s t) refl h where
  at : (o : Ordering) → start_cmp s t ≡ o → is_gt o ≡ false → (s ≡ t) ⊎ (start_cmp s t ≡ Less)
  at Less e f = inr e
  at Equal e f = inl (start_is s t (ap is_eq e))
  at Greater e f = absurd (true≢false f)

not_itself : (s : Start) → start_cmp s s ≡ Less → ⊥
not_itself s less = let e : Less ≡ Greater = sym less ∙ start_total.antisymm s s ∙ ap ordering_reverse less in cc

-- ---- the first of a list that rises

module _ {X : Type 0} (Before : X → X → Type 0) (p : X → Bool) where
  pub first_found : (xs : List X) (x : X) → Rising Before xs → Contains xs x → p x ≡ true → ((y : X) → Contains xs y → Before y x → p y ≡ false) → find p xs ≡ Some x
  first_found [] x up c passes fails = absurd (Contains-none x c)
  first_found (y ∷ xs) x up c passes fails = ⊎_elim
      (λ (e : y ≡ x). ap (λ (b : Bool). cond b (Some y) (find p xs)) (ap p e ∙ passes) ∙ ap (λ (z : X). Some z) e)
      (λ (later : Contains xs x). ap (λ (b : Bool). cond b (Some y) (find p xs)) (fails y (Contains-here y xs) (up.0 x later))
      ∙ first_found xs x up.1 later passes (λ z d. fails z (Contains-there y z xs d)))
      (Contains-cases y x xs c)

  pub none_found : (xs : List X) → ((y : X) → Contains xs y → p y ≡ false) → find p xs ≡ None
  none_found [] fails = refl
  none_found (y ∷ xs) fails = ap (λ (b : Bool). cond b (Some y) (find p xs)) (fails y (Contains-here y xs)) ∙ none_found xs (λ z d. fails z (Contains-there y z xs d))

rising_both : {X : Type 0} (Before : X → X → Type 0) (xs ys : List X) → Rising Before xs → Rising Before ys → ((x y : X) → Contains xs x → Contains ys y → Before x y) → Rising Before (xs ++ ys)
rising_both {X} Before [] ys up down across = down
rising_both {X} Before (x ∷ xs) ys up down across = (
  λ y c. ⊎_elim (λ (d : Contains xs y). up.0 y d) (λ (d : Contains ys y). across x y (Contains-here x xs) d) (Contains-append_cases xs ys y c),
  rising_both Before xs ys up.1 down (λ z y c d. across z y (Contains-there x z xs c) d),
)

apart_first : (g : Gap) (gaps : List Gap) (k : Gap) → AllPairs IsApart (g ∷ gaps) → Contains gaps k → IsApart g k
apart_first g gaps k apart c = subst (λ (v : Gap). IsApart g v) c.2 (apart 0 (suc c.0) k (omega arith) (omega (arith, c.1)))

-- ---- the holes of a list

abbrev begin : Hole → Start
begin h = start h.page h.gap.source h.gap.first

-- where the range right above it begins
abbrev top : Hole → Start
top h = start h.page h.gap.source (h.gap.last + 1)

abbrev Before : Hole → Hole → Type 0
Before g h = start_cmp (begin g) (begin h) ≡ Less

module _ (m : BTreeMap Start ℕ) (behind : List Start) (kept : AreKept m.entries behind) (history : List DrawopValue) (held : HoldNamesOf history (ranges_of m.entries)) where
  abbrev IsOne : Hole → Type 0
  IsOne h = IsHole (last_at m.entries h.page h.gap.source) h.gap.first h.gap.last

  -- ---- they are what lies between ranges

  on_page : (page : PageId) (h : Hole) → Contains (holes_on history page) h → (h.page ≡ page) × IsOne h
  on_page page h c =
      let a = Any-from_map (hole_on page) (gaps_of history page []) h c in
      (sym (ap (λ (k : Hole). k.page) a.4), subst IsOne a.4 (hole_of m kept.ordered kept.ranges history held page a.1 (a.0, a.2, a.3)))

  on_pages : (pages : List PageId) (h : Hole) → Contains (flat_map (holes_on history) pages) h → Contains pages h.page × IsOne h
  on_pages [] h c = absurd (Contains-none h c)
  on_pages (page ∷ pages) h c = ⊎_elim
      (λ (d : Contains (holes_on history page) h). let on = on_page page h d in (subst (λ (p : PageId). Contains (page ∷ pages) p) (sym on.0) (Contains-here page pages), on.1))
      (λ (d : Contains (flat_map (holes_on history) pages) h). let on = on_pages pages h d in (Contains-there page h.page pages on.0, on.1))
      (Contains-append_cases (holes_on history page) (flat_map (holes_on history) pages) h c)

  among_pages : (pages : List PageId) (h : Hole) → Contains pages h.page → IsOne h → Contains (flat_map (holes_on history) pages) h
  among_pages [] h c one = absurd (Contains-none h.page c)
  among_pages (page ∷ pages) h c one = ⊎_elim
      (λ (e : page ≡ h.page).
      let d = gap_of_hole m kept.ordered kept.ranges history held h.page h.gap.source h.gap.first h.gap.last one in
      Contains-append_left (holes_on history page) (flat_map (holes_on history) pages) h
      (subst (λ (p : PageId). Contains (holes_on history p) h) (sym e) (Contains-map (hole_on h.page) (gaps_of history h.page []) h (d.0, h.gap, d.1, d.2, refl))))
      (λ (d : Contains pages h.page). Contains-append_right (holes_on history page) (flat_map (holes_on history) pages) h (among_pages pages h d one))
      (Contains-cases page h.page pages c)

  range_above : (h : Hole) → IsOne h → (last : ℕ) × (last_at m.entries h.page h.gap.source (h.gap.last + 1) ≡ Some last)
  range_above h one =
      let c = one.above in
      let low = c.3 in
      let high = c.4 in
      ⊎_elim
      (λ (lt : c.0 < h.gap.last + 1). absurd (one.free h.gap.last one.filled (omega arith) (c.0, c.1, c.2, omega arith, omega arith)))
      (λ (le : h.gap.last + 1 ≤ c.0). let is : c.0 ≡ h.gap.last + 1 = omega arith in (c.1, subst (λ (n : ℕ). last_at m.entries h.page h.gap.source n ≡ Some c.1) is c.2))
      (cases_lt c.0 (h.gap.last + 1))

  is_one : (h : Hole) → Contains (holes_of history) h → IsOne h
  is_one h c = (on_pages (pages_of history) h c).1

  among : (h : Hole) → IsOne h → Contains (holes_of history) h
  among h one =
      let r = range_above h one in
      among_pages (pages_of history) h (((pages_of_history history).members h.page).1 (held_page m kept.ordered kept.ranges history held h.page (h.gap.source, h.gap.last + 1, r.0, r.1))) one

  -- ---- in order

  rising_gaps : (page : PageId) (gaps : List Gap) → AllPairs IsApart gaps → All (λ g. g.first ≤ g.last) gaps → Rising Before (map (hole_on page) gaps)
  rising_gaps page [] apart filled = tt
  rising_gaps page (g ∷ gaps) apart filled = (
    λ h c.
        let a = Any-from_map (hole_on page) gaps h c in
        let full : g.first ≤ g.last = All-head (λ (k : Gap). k.first ≤ k.last) g gaps filled in
        subst (λ (k : Hole). Before (hole_on page g) k) a.4 (comes (begin (hole_on page g)) (begin (hole_on page a.1)) (inr (refl, next g a.1 full (apart_first g gaps a.1 apart (a.0, a.2, a.3))))),
    rising_gaps page gaps (apart_tail g gaps apart) (All-tail (λ (k : Gap). k.first ≤ k.last) g gaps filled),
  ) where
    next : (g k : Gap) → g.first ≤ g.last → IsApart g k → (g.source < k.source) ⊎ ((g.source ≡ k.source) × (g.first < k.first))
    next g k full a = ⊎_elim (λ (lt : g.source < k.source). inl lt) (λ (p : (g.source ≡ k.source) × (g.last + 1 < k.first)). let lt = p.1 in inr (p.0, omega arith)) a

  rising_pages : (pages : List PageId) → IsStrictlySortedBy page_cmp pages → Rising Before (flat_map (holes_on history) pages)
  rising_pages [] rises = tt
  rising_pages (page ∷ pages) rises =
      let are = gaps_of_page history page [] in
      rising_both Before (holes_on history page) (flat_map (holes_on history) pages)
      (rising_gaps page (gaps_of history page []) are.apart are.filled)
      (rising_pages pages (sorted_tail page_cmp page pages rises))
      (λ h k c d. let on = on_page page h c in comes (begin h) (begin k) (inl (subst (λ (p : PageId). page_cmp p k.page ≡ Less) (sym on.0) (below_all page_total page k.page pages rises (on_pages pages k d).0))))

  rising : Rising Before (holes_of history)
  rising = rising_pages (pages_of history) (pages_of_history history).rising

  -- ---- the ranges right above them

  top_among : (h : Hole) → IsOne h → is_among behind (top h) ≡ true
  top_among h one =
      let r = range_above h one in
      kept.behind (top h) ∙ ap (λ (b : Bool). b && nat_lt 1 (h.gap.last + 1)) (ap is_some r.1) ∙ above_one h.gap.last one.counted one.filled where
        above_one : (n : ℕ) {k : ℕ} → 1 ≤ k → k ≤ n → (true && nat_lt 1 (n + 1)) ≡ true
        above_one n low le = grind (arith, nat_tests)

  -- the range above a hole begins before the next hole does
  top_before : (g h : Hole) → IsOne g → IsOne h → start_cmp (top g) (top h) ≡ Less → start_cmp (top g) (begin h) ≡ Less
  top_before g h one other less = comes (top g) (begin h) (⊎_elim
      (λ (page : page_cmp g.page h.page ≡ Less). inl page)
      (λ (p : (g.page ≡ h.page) × ((g.gap.source < h.gap.source) ⊎ ((g.gap.source ≡ h.gap.source) × (g.gap.last + 1 < h.gap.last + 1)))). inr (
        p.0,
        ⊎_elim
            (λ (lt : g.gap.source < h.gap.source). inl lt)
            (λ (q : (g.gap.source ≡ h.gap.source) × (g.gap.last + 1 < h.gap.last + 1)).
            let lt = q.1 in
            let cover : Covers (last_at m.entries h.page h.gap.source) (g.gap.last + 1) = subst (λ (s : ℕ). Covers (last_at m.entries h.page s) (g.gap.last + 1)) q.0 (subst (λ (page : PageId). Covers (last_at m.entries page g.gap.source) (g.gap.last + 1)) p.0 one.above) in
            inr (
              q.0,
              ⊎_elim
                  (λ (above : g.gap.last + 1 < h.gap.first). above)
                  (λ (le : h.gap.first ≤ g.gap.last + 1). absurd (other.free (g.gap.last + 1) le (omega arith) cover))
                  (cases_lt (g.gap.last + 1) h.gap.first),
            ))
            p.1,
      ))
      (earlier (top g) (top h) less))

  begin_before : (h : Hole) → IsOne h → start_cmp (begin h) (top h) ≡ Less
  begin_before h one = let full = one.filled in lower (begin h) h.gap.first (h.gap.last + 1) (omega arith)

  -- holes below the same range are the same
  one_top : (g h : Hole) → IsOne g → IsOne h → top g ≡ top h → begin g ≡ begin h
  one_top g h one other same =
      let page : g.page ≡ h.page = ap (λ (s : Start). s.page) same in
      let source : g.gap.source ≡ h.gap.source = ap (λ (s : Start). s.source) same in
      let last : g.gap.last + 1 ≡ h.gap.last + 1 = ap (λ (s : Start). s.first) same in
      let here : IsHole (last_at m.entries h.page h.gap.source) g.gap.first g.gap.last = subst (λ (s : ℕ). IsHole (last_at m.entries h.page s) g.gap.first g.gap.last) source (subst (λ (p : PageId). IsHole (last_at m.entries p g.gap.source) g.gap.first g.gap.last) page one) in
      let full = one.filled in
      let fuller = other.filled in
      let firsts = one_hole (last_at m.entries h.page h.gap.source) g.gap.first g.gap.last h.gap.first h.gap.last g.gap.last here other full (omega arith) (omega arith) (omega arith) in
      start_parts g.page h.page g.gap.source h.gap.source g.gap.first h.gap.first page source firsts.0

  -- ---- as they are found: right below a range

  pub record EndsBelow (s : Start) (h : Hole) : Type 0 where
    pub page : h.page ≡ s.page
    pub source : h.gap.source ≡ s.source
    pub last : h.gap.last + 1 ≡ s.first
    pub hole : IsHole (last_at m.entries s.page s.source) h.gap.first h.gap.last

  top_is : (s : Start) (h : Hole) → EndsBelow s h → top h ≡ s
  top_is s h e = start_parts h.page s.page h.gap.source s.source (h.gap.last + 1) s.first e.page e.source e.last

  one_below : (s : Start) (h : Hole) → EndsBelow s h → IsOne h
  one_below s h e = subst (λ (p : PageId). IsHole (last_at m.entries p h.gap.source) h.gap.first h.gap.last) (sym e.page) (subst (λ (t : ℕ). IsHole (last_at m.entries s.page t) h.gap.first h.gap.last) (sym e.source) e.hole)

  module _ (place : Start) where
    abbrev after : Hole → Bool
    after h = begins_after place h

    after_less : (h : Hole) → after h ≡ true → start_cmp place (begin h) ≡ Less
    after_less h e = is_less (start_cmp place (begin h)) e

    -- the range above a hole after the place is after it too
    top_after : (h : Hole) → IsOne h → after h ≡ true → start_cmp place (top h) ≡ Less
    top_after h one e = start_total.trans place (begin h) (top h) (after_less h e) (begin_before h one)

    -- a hole that can't begin after the place does not
    fails_unless : (h : Hole) → (after h ≡ true → ⊥) → after h ≡ false
    fails_unless h no_one = at (after h) refl where
      at : (b : Bool) → after h ≡ b → after h ≡ false
      at false e = e
      at true e = absurd (no_one e)

    pub no_hole : ((s : Start) → start_cmp place s ≡ Less → is_among behind s ≡ false) → find (begins_after place) (holes_of history) ≡ None
    no_hole none = none_found Before after (holes_of history) (λ h c. fails_unless h (λ e. let one = is_one h c in true≢false (sym (top_among h one) ∙ none (top h) (top_after h one e))))

    -- the first start after `from`
    abbrev IsFirst : Start → Start → Type 0
    IsFirst from next = IsTrue (is_among behind next) × (start_cmp from next ≡ Less) × ((s : Start) → IsTrue (is_among behind s) → start_cmp from s ≡ Less → is_gt (start_cmp next s) ≡ false)

    -- no hole that begins before h begins after the place
    found : (h : Hole) → IsOne h → after h ≡ true → ((k : Hole) → IsOne k → after k ≡ true → (top h ≡ top k) ⊎ (start_cmp (top h) (top k) ≡ Less)) → find (begins_after place) (holes_of history) ≡ Some h
    found h one e least = first_found Before after (holes_of history) h rising (among h one) e (λ k c less. fails_unless k (λ f.
        let other = is_one k c in
        ⊎_elim
        (λ (same : top h ≡ top k). not_itself (begin k) (subst (λ (s : Start). start_cmp (begin k) s ≡ Less) (one_top h k one other same) less))
        (λ (later : start_cmp (top h) (top k) ≡ Less).
        let round = start_total.trans (begin k) (begin h) (top h) less (begin_before h one) in
        not_itself (begin k) (start_total.trans (begin k) (top h) (begin k) round (top_before h k one other later)))
        (least k other f)))

    pub first_hole : (s : Start) (h : Hole) → EndsBelow s h → IsFirst place s → after h ≡ true → find (begins_after place) (holes_of history) ≡ Some h
    first_hole s h ends next e =
        let first : IsFirst place (top h) = subst (IsFirst place) (sym (top_is s h ends)) next in
        found h (one_below s h ends) e (λ k other f. same_or_before (top h) (top k) (first.2 (top k) (top_among k other) (top_after k other f)))

    module _ (s : Start) (g : Hole) (ends : EndsBelow s g) (next : IsFirst place s) (here : after g ≡ false) where
      one : IsOne g
      one = one_below s g ends

      first : IsFirst place (top g)
      first = subst (IsFirst place) (sym (top_is s g ends)) next

      -- the range above a hole that begins after the place comes after the one above g
      behind_top : (k : Hole) → IsOne k → after k ≡ true → start_cmp s (top k) ≡ Less
      behind_top k other f = subst (λ (t : Start). start_cmp t (top k) ≡ Less) (top_is s g ends) (⊎_elim
          (λ (same : top g ≡ top k). absurd (true≢false (sym f ∙ ap (λ (s : Start). is_lt (start_cmp place s)) (sym (one_top g k one other same)) ∙ here)))
          (λ (less : start_cmp (top g) (top k) ≡ Less). less)
          (same_or_before (top g) (top k) (first.2 (top k) (top_among k other) (top_after k other f))))

      pub no_second : ((t : Start) → start_cmp s t ≡ Less → is_among behind t ≡ false) → find (begins_after place) (holes_of history) ≡ None
      no_second none = none_found Before after (holes_of history) (λ h c. fails_unless h (λ e. let other = is_one h c in true≢false (sym (top_among h other) ∙ none (top h) (behind_top h other e))))

      pub second_hole : (t : Start) (h : Hole) → EndsBelow t h → IsFirst s t → find (begins_after place) (holes_of history) ≡ Some h
      second_hole t h below later =
          let other = one_below t h below in
          let second : IsFirst s (top h) = subst (IsFirst s) (sym (top_is t h below)) later in
          let above : start_cmp (top g) (top h) ≡ Less = subst (λ (u : Start). start_cmp u (top h) ≡ Less) (sym (top_is s g ends)) second.1 in
          found h other (ap is_lt (start_total.trans place (top g) (begin h) first.1 (top_before g h one other above)))
          (λ k third f. same_or_before (top h) (top k) (second.2 (top k) (top_among k third) (behind_top k third f)))
