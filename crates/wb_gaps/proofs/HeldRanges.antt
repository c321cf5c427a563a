-- What ranges hold, by where they begin.
use Rattle.std.proofs.Common.{◌≡◌, ℕ, ◌+◌, ◌-◌, ◌<◌, ◌≤◌, Bool, true, false, List, [], ◌∷◌, ◌++◌, refl, ap, ◌∙◌, sym, subst, arith, eqb-true, true≢false, ◌⊎◌, inl, inr, ⊎_elim, Option, Some, None}
use Rattle.std.specs.Prelude.{◌≢◌, Contains, IsSome, nat_eq, nat_le, not, ◌&&◌, ◌||◌}
use Rattle.std.specs.BTreeMap.Range.{IsInRange, IsEntryInRange}
use Rattle.std.specs.Ordering.{is_gt, is_lt}
use Rattle.std.specs.declared.ops.Bound.TheVariants.{Included, Unbounded}
use Rattle.std.proofs.lemmas.Bool.{and_from, cases_lt, cases_eq, or_left, or_right}
use Rattle.std.specs.BTreeMap.{BTreeMap, IsOrdered, Updates, UpdatesBy, get}
use Rattle.std.specs.Cmp.{nat_eq_equiv, eq_by_cmp_equiv}
use Rattle.std.proofs.lemmas.Bool.Decides.{nat_tests}
use Rattle.std.proofs.lemmas.List.Elements.{All-contains}
use Rattle.std.proofs.lemmas.Map.Views.{All-found, Contains-from_lookup}
use Rattle.std.specs.List.{list_any}
use Rattle.std.proofs.lemmas.Grind.{common_steps}
use Rattle.wb_names.specs.Values.{NameValue, DrawopValue}
use Rattle.wb_names.specs.Orders.{same_page, same_name}
use Rattle.wb_names.specs.declared.name.PageId.{PageId}
use Rattle.wb_names.proofs.Listings.{Contains-here, Contains-there, Contains-cases, Contains-none}
use Rattle.wb_names.proofs.Orders.{page_total, page_ties, and_both, same_page-is, same_name-is, name_parts}
use Rattle.wb_gaps.specs.Holdings.{HeldRange, has_name, holds, HoldsToo, HoldNamesOf, IsHighest}
use Rattle.wb_names.specs.History.{highest, name_of, IsHeld}
use Rattle.wb_gaps.specs.Starts.{start_cmp, start, range_of, ranges_of, last_at, AreApart, AreRanges, Covers, Begins, Ends}
use Rattle.wb_gaps.specs.Greatest.{IsWholeFrom}
use Rattle.wb_gaps.specs.declared.holdings.Start.{Start}
use Rattle.wb_gaps.proofs.Adding.{stay_apart, one_of, itself, still, some_is, none_some}
use Rattle.wb_gaps.proofs.GreatestNumbers.{one_greatest}
use Rattle.wb_gaps.proofs.HeldNames.{held-by, held-from}
use Rattle.wb_gaps.proofs.Reports.{greatest_held}
use Rattle.wb_gaps.proofs.Starts.{start_total, start_is, start_not, start_parts, between, up_to, up_to_is, from_is}

or_bits : (a b c : Bool) → (a ≡ true → (b ≡ true) ⊎ (c ≡ true)) → (b ≡ true → a ≡ true) → (c ≡ true → a ≡ true) → a ≡ (b || c)
or_bits true true c f g h = refl
or_bits true false true f g h = refl
or_bits true false false f g h = ⊎_elim (λ (e : false ≡ true). sym e) (λ (e : false ≡ true). sym e) (f refl)
or_bits false true c f g h = g refl
or_bits false false true f g h = h refl
or_bits false false false f g h = refl

le_is : (a b : ℕ) → nat_le a b ≡ true → a ≤ b
le_is a b h = grind (arith, nat_tests)

le_tested : (a b : ℕ) → a ≤ b → nat_le a b ≡ true
le_tested a b h = grind (arith, nat_tests)

page_tested : (p : PageId) → same_page p p ≡ true
page_tested p = page_ties p p ∙ (eq_by_cmp_equiv page_total).refl p

module _ (name : NameValue) where
  found_entry : (es : List (Start × ℕ)) → holds (ranges_of es) name ≡ true → (e : Start × ℕ) × Contains es e × (has_name name (range_of e) ≡ true)
  found_entry [] h = absurd (true≢false (sym h))
  found_entry (e ∷ es) h = from (found_entry es) (has_name name (range_of e)) refl h where
    from : (holds (ranges_of es) name ≡ true → (d : Start × ℕ) × Contains es d × (has_name name (range_of d) ≡ true)) → (b : Bool) → has_name name (range_of e) ≡ b → (b || holds (ranges_of es) name) ≡ true → (d : Start × ℕ) × Contains (e ∷ es) d × (has_name name (range_of d) ≡ true)
    from rest true is g = (e, Contains-here e es, is)
    from rest false is g = let r = rest g in (r.0, Contains-there e r.0 es r.1, r.2)

  entry_found : (es : List (Start × ℕ)) (e : Start × ℕ) → Contains es e → has_name name (range_of e) ≡ true → holds (ranges_of es) name ≡ true
  entry_found [] e c h = absurd (Contains-none e c)
  entry_found (x ∷ es) e c h = ⊎_elim
      (λ (q : x ≡ e). or_left (has_name name (range_of x)) (holds (ranges_of es) name) (ap (λ (y : Start × ℕ). has_name name (range_of y)) q ∙ h))
      (λ (d : Contains es e). or_right (has_name name (range_of x)) (holds (ranges_of es) name) (entry_found es e d h))
      (Contains-cases x e es c)

  module _ (m : BTreeMap Start ℕ) where
    pub covers_name : IsOrdered start_cmp m → holds (ranges_of m.entries) name ≡ true → Covers (last_at m.entries name.page name.source) name.seq
    covers_name ordered h =
        let r = found_entry m.entries h in
        let e : Start × ℕ = r.0 in
        let t = and_both (same_page e.0.page name.page && nat_eq e.0.source name.source) _ r.2 in
        let u = and_both (same_page e.0.page name.page) _ t.0 in
        let v = and_both (nat_le e.0.first name.seq) _ t.1 in
        let got = All-contains (λ (d : Start × ℕ). get start_cmp m d.0 ≡ Some d.1) m.entries e (All-found start_total m ordered) r.1 in
        let place : e.0 ≡ start name.page name.source e.0.first = start_parts e.0.page name.page e.0.source name.source e.0.first e.0.first (same_page-is _ _ u.0) (eqb-true e.0.source name.source u.1) refl in
        (e.0.first, e.1, subst (λ (k : Start). get start_cmp m k ≡ Some e.1) place got, le_is e.0.first name.seq v.0, le_is name.seq e.1 v.1)

    pub name_covered : Covers (last_at m.entries name.page name.source) name.seq → holds (ranges_of m.entries) name ≡ true
    name_covered c =
        entry_found m.entries (start name.page name.source c.0, c.1) (Contains-from_lookup start_is (start name.page name.source c.0) c.1 m.entries c.2)
        (and_from _ _ (and_from _ _ (page_tested name.page) (nat_eq_equiv.refl name.source)) (and_from _ _ (le_tested c.0 name.seq c.3) (le_tested name.seq c.1 c.4)))

apart_as : (f g : ℕ → Option ℕ) → ((j : ℕ) → g j ≡ f j) → AreApart f → AreApart g
apart_as f g is a = grind (arith, common_steps, nat_tests)

covers_as : (f g : ℕ → Option ℕ) → ((j : ℕ) → g j ≡ f j) → (n : ℕ) → Covers f n → Covers g n
covers_as f g is n c = (c.0, c.1, is c.0 ∙ c.2, c.3, c.4)

-- the map n is m with the range of one more number
module _ (m n : BTreeMap Start ℕ) (page : PageId) (source x s e : ℕ) (low : source ≤ 4294967295) (fits : e ≤ 4294967295) (ranges : AreRanges m.entries) (b : Begins (last_at m.entries page source) x s) (d : Ends (last_at m.entries page source) x e) (here : last_at n.entries page source s ≡ Some e) (gone : last_at n.entries page source (x + 1) ≡ None) (others : (q : Start) → (start page source s ≡ q → ⊥) → (start page source (x + 1) ≡ q → ⊥) → get start_cmp n q ≡ get start_cmp m q) where
  own : (j : ℕ) → j ≢ s → j ≢ x + 1 → last_at n.entries page source j ≡ last_at m.entries page source j
  own j p q = others (start page source j) (λ f. p (sym (ap (λ (t : Start). t.first) f))) (λ f. q (sym (ap (λ (t : Start). t.first) f)))

  elsewhere : (p : PageId) (t : ℕ) → ((p ≡ page) × (t ≡ source) → ⊥) → (j : ℕ) → last_at n.entries p t j ≡ last_at m.entries p t j
  elsewhere p t unlike j = others (start p t j) (λ f. unlike (sym (ap (λ (k : Start). k.page) f), sym (ap (λ (k : Start). k.source) f))) (λ f. unlike (sym (ap (λ (k : Start). k.page) f), sym (ap (λ (k : Start). k.source) f)))

  place : (p : PageId) (t : ℕ) → ((p ≡ page) × (t ≡ source)) ⊎ ((p ≡ page) × (t ≡ source) → ⊥)
  place p t = grind (arith, common_steps, nat_tests, and_from, page_tested, eqb-true, nat_eq_equiv, and_both, same_page-is)

  apart_after : (p : PageId) (t : ℕ) → AreApart (last_at n.entries p t)
  apart_after p t = ⊎_elim
      (λ (g : (p ≡ page) × (t ≡ source)). subst (λ (q : PageId). AreApart (last_at n.entries q t)) (sym g.0) (subst (λ (u : ℕ). AreApart (last_at n.entries page u)) (sym g.1) (stay_apart (last_at m.entries page source) (last_at n.entries page source) x s e fits (ranges.apart page source) b d here gone own)))
      (λ (unlike : (p ≡ page) × (t ≡ source) → ⊥). apart_as (last_at m.entries p t) (last_at n.entries p t) (elsewhere p t unlike) (ranges.apart p t))
      (place p t)

  sources_after : (p : PageId) (t first last : ℕ) → last_at n.entries p t first ≡ Some last → t ≤ 4294967295
  sources_after p t first last h = grind (arith, common_steps, nat_tests, elsewhere, place)

  pub ranges_after : AreRanges n.entries
  ranges_after = record { apart = apart_after; sources = sources_after }

  abbrev pub name : NameValue
  name = record { source = source; page = page; seq = x }

  name_as : (o : NameValue) → o.page ≡ page → o.source ≡ source → o ≡ record { source = source; page = page; seq = o.seq }
  name_as o f g = name_parts o.source source o.page page o.seq o.seq g f refl

  name_tested : same_name name name ≡ true
  name_tested = and_from _ _ (and_from _ _ (nat_eq_equiv.refl source) (page_tested page)) (nat_eq_equiv.refl x)

  pub holds_too : IsOrdered start_cmp m → IsOrdered start_cmp n → HoldsToo (ranges_of m.entries) name (ranges_of n.entries)
  holds_too om on o = or_bits (holds (ranges_of n.entries) o) (same_name name o) (holds (ranges_of m.entries) o)
      (λ h. ⊎_elim
      (λ (g : (o.page ≡ page) × (o.source ≡ source)).
      let c = covers_name o n on h in
      let c' : Covers (last_at n.entries page source) o.seq = subst (λ (u : ℕ). Covers (last_at n.entries page u) o.seq) g.1 (subst (λ (q : PageId). Covers (last_at n.entries q o.source) o.seq) g.0 c) in
      ⊎_elim
      (λ (is : o.seq ≡ x). inl (ap (same_name name) (name_as o g.0 g.1 ∙ ap (λ (k : ℕ). record { source = source; page = page; seq = k }) is) ∙ name_tested))
      (λ (f : Covers (last_at m.entries page source) o.seq). inr (name_covered o m (subst (λ (q : PageId). Covers (last_at m.entries q o.source) o.seq) (sym g.0) (subst (λ (u : ℕ). Covers (last_at m.entries page u) o.seq) (sym g.1) f))))
      (one_of (last_at m.entries page source) (last_at n.entries page source) x s e fits (ranges.apart page source) b d here gone own o.seq c'))
      (λ (unlike : (o.page ≡ page) × (o.source ≡ source) → ⊥). inr (name_covered o m (covers_as (last_at n.entries o.page o.source) (last_at m.entries o.page o.source) (λ j. sym (elsewhere o.page o.source unlike j)) o.seq (covers_name o n on h))))
      (place o.page o.source))
      (λ h. let is = same_name-is name o h in subst (λ (w : NameValue). holds (ranges_of n.entries) w ≡ true) is (name_covered name n (itself (last_at m.entries page source) (last_at n.entries page source) x s e fits (ranges.apart page source) b d here gone own)))
      (λ h. let c = covers_name o m om h in ⊎_elim
      (λ (g : (o.page ≡ page) × (o.source ≡ source)).
      let c' : Covers (last_at m.entries page source) o.seq = subst (λ (u : ℕ). Covers (last_at m.entries page u) o.seq) g.1 (subst (λ (q : PageId). Covers (last_at m.entries q o.source) o.seq) g.0 c) in
      let f = still (last_at m.entries page source) (last_at n.entries page source) x s e fits (ranges.apart page source) b d here gone own o.seq c' in
      name_covered o n (subst (λ (q : PageId). Covers (last_at n.entries q o.source) o.seq) (sym g.0) (subst (λ (u : ℕ). Covers (last_at n.entries page u) o.seq) (sym g.1) f)))
      (λ (unlike : (o.page ≡ page) × (o.source ≡ source) → ⊥). name_covered o n (covers_as (last_at m.entries o.page o.source) (last_at n.entries o.page o.source) (elsewhere o.page o.source unlike) o.seq c))
      (place o.page o.source))

abbrev pub name_at : PageId → ℕ → ℕ → NameValue
name_at page source x = record { source = source; page = page; seq = x }

-- a name that is held is put again
pub already : (m : BTreeMap Start ℕ) (page : PageId) (source x : ℕ) → Covers (last_at m.entries page source) x → HoldsToo (ranges_of m.entries) (name_at page source x) (ranges_of m.entries)
already m page source x c o = grind (arith, common_steps, nat_tests, or_bits, name_covered, same_name-is)

-- a number that is taken in with the range above it
pub joined_after : (m mid n : BTreeMap Start ℕ) (page : PageId) (source x e : ℕ) (k next : Start) → source ≤ 4294967295 → AreRanges m.entries → k.page ≡ page → k.source ≡ source → Begins (last_at m.entries page source) x k.first → next.page ≡ page → next.source ≡ source → next.first ≡ x + 1 → last_at m.entries page source (x + 1) ≡ Some e → Updates start_cmp m mid k (Some e) → UpdatesBy start_cmp (start_cmp next) mid n None → IsOrdered start_cmp m → IsOrdered start_cmp n → AreRanges n.entries × HoldsToo (ranges_of m.entries) (name_at page source x) (ranges_of n.entries)
joined_after m mid n page source x e k next small ranges kp ks b np ns nf at put removed om on =
    let k' : Start = start page source k.first in
    let next' : Start = start page source (x + 1) in
    let put' = subst (λ (q : Start). Updates start_cmp m mid q (Some e)) (start_parts k.page page k.source source k.first k.first kp ks refl) put in
    let removed' = subst (λ (q : Start). UpdatesBy start_cmp (start_cmp q) mid n None) (start_parts next.page page next.source source next.first (x + 1) np ns nf) removed in
    let low = b.low in
    let here : last_at n.entries page source k.first ≡ Some e = removed'.2 k' (start_not next' k' (λ f. let g : x + 1 ≡ k.first = ap (λ (q : Start). q.first) f in let w : ⊥ = omega arith in w)) ∙ put'.1 in
    let others : (q : Start) → (k' ≡ q → ⊥) → (next' ≡ q → ⊥) → get start_cmp n q ≡ get start_cmp m q = λ q f g. removed'.2 q (start_not next' q g) ∙ put'.2 q (start_not k' q f) in
    let d : Ends (last_at m.entries page source) x e = record { joined = λ end h. some_is e end (sym at ∙ h); alone = λ h. absurd (none_some e (sym h ∙ at)) } in
    let fits = (ranges.apart page source).fits (x + 1) e at in
    (ranges_after m n page source x k.first e small fits ranges b d here removed'.1 others, holds_too m n page source x k.first e small fits ranges b d here removed'.1 others om on)

-- a number with no range above it
pub lone_after : (m n : BTreeMap Start ℕ) (page : PageId) (source x : ℕ) (k : Start) → source ≤ 4294967295 → x ≤ 4294967295 → AreRanges m.entries → k.page ≡ page → k.source ≡ source → Begins (last_at m.entries page source) x k.first → last_at m.entries page source (x + 1) ≡ None → Updates start_cmp m n k (Some x) → IsOrdered start_cmp m → IsOrdered start_cmp n → AreRanges n.entries × HoldsToo (ranges_of m.entries) (name_at page source x) (ranges_of n.entries)
lone_after m n page source x k small fits ranges kp ks b at put om on =
    let k' : Start = start page source k.first in
    let next' : Start = start page source (x + 1) in
    let put' = subst (λ (q : Start). Updates start_cmp m n q (Some x)) (start_parts k.page page k.source source k.first k.first kp ks refl) put in
    let low = b.low in
    let gone : last_at n.entries page source (x + 1) ≡ None = put'.2 next' (start_not k' next' (λ f. let g : k.first ≡ x + 1 = ap (λ (q : Start). q.first) f in let w : ⊥ = omega arith in w)) ∙ at in
    let others : (q : Start) → (k' ≡ q → ⊥) → (next' ≡ q → ⊥) → get start_cmp n q ≡ get start_cmp m q = λ q f g. put'.2 q (start_not k' q f) in
    let d : Ends (last_at m.entries page source) x x = record { joined = λ end h. absurd (none_some end (sym at ∙ h)); alone = λ h. refl } in
    (ranges_after m n page source x k.first x small fits ranges b d put'.1 gone others, holds_too m n page source x k.first x small fits ranges b d put'.1 gone others om on)

some_there : (o : Option ℕ) (l : ℕ) → o ≡ Some l → IsSome o
some_there o l h = subst (λ (p : Option ℕ). IsSome p) (sym h) refl

-- what `range(..=at)` says of the ranges of the page and source of `at`
module _ (m : BTreeMap Start ℕ) (at : Start) where
  pub none_up_to : ((q : Start) → IsInRange start_cmp Unbounded (Included at) q → get start_cmp m q ≡ None) → (first last : ℕ) → last_at m.entries at.page at.source first ≡ Some last → at.first < first
  none_up_to none first last h = grind (arith, common_steps, nat_tests, cases_lt, none_some, up_to)

  module _ (e : Start) (l : ℕ) (here : IsEntryInRange start_cmp Unbounded (Included at) m (e, l)) (top : (q : Start) → IsInRange start_cmp Unbounded (Included at) q → IsSome (get start_cmp m q) → is_lt (start_cmp e q) ≡ false) where
    pub others_up_to : ((e.page ≡ at.page) × (e.source ≡ at.source) → ⊥) → (first last : ℕ) → last_at m.entries at.page at.source first ≡ Some last → at.first < first
    others_up_to unlike first last h = grind (arith, common_steps, nat_tests, some_there, cases_lt, between, up_to)

    pub last_up_to : e.page ≡ at.page → e.source ≡ at.source → (e.page ≡ at.page) × (e.source ≡ at.source) × (e.first ≤ at.first) × (last_at m.entries at.page at.source e.first ≡ Some l) × ((first last : ℕ) → last_at m.entries at.page at.source first ≡ Some last → first ≤ at.first → first ≤ e.first)
    last_up_to p s =
        let place : e ≡ start at.page at.source e.first = start_parts e.page at.page e.source at.source e.first e.first p s refl in
        (p, s, up_to_is at.page at.source e.first at.first (subst (λ (k : Start). is_gt (start_cmp k at) ≡ false) place here.0.1), subst (λ (k : Start). get start_cmp m k ≡ Some l) place here.1, λ first last h le. from_is at.page at.source e.first first (subst (λ (k : Start). is_lt (start_cmp k (start at.page at.source first)) ≡ false) place (top (start at.page at.source first) (tt, up_to at.page at.source first at.first le) (some_there _ last h))))

pub same_pages : (p q : PageId) → not (same_page p q) ≡ false → p ≡ q
same_pages p q h = grind (arith, common_steps, nat_tests, same_page-is)

pub other_pages : (p q : PageId) → not (same_page p q) ≡ true → p ≡ q → ⊥
other_pages p q h is = grind (arith, common_steps, nat_tests, page_tested)

-- the greatest number is the end of the last range
module _ (m : BTreeMap Start ℕ) (ordered : IsOrdered start_cmp m) (ranges : AreRanges m.entries) (page : PageId) (source : ℕ) where
  pub none_highest : ((first last : ℕ) → last_at m.entries page source first ≡ Some last → 4294967295 < first) → IsHighest (ranges_of m.entries) page source 0
  none_highest none = record {
    bound = λ n h. let c = covers_name (name_of page source n) m ordered h in let over = none c.0 c.1 c.2 in let a = (ranges.apart page source).filled c.0 c.1 c.2 in let b = (ranges.apart page source).fits c.0 c.1 c.2 in absurd (omega arith);
    reached = inl refl;
  }

  pub last_highest : (first last : ℕ) → last_at m.entries page source first ≡ Some last → ((j l : ℕ) → last_at m.entries page source j ≡ Some l → j ≤ 4294967295 → j ≤ first) → IsHighest (ranges_of m.entries) page source last
  last_highest first last at top = record {
    bound = λ n h. let c = covers_name (name_of page source n) m ordered h in let a = (ranges.apart page source).filled c.0 c.1 c.2 in let b = (ranges.apart page source).fits c.0 c.1 c.2 in let t = top c.0 c.1 c.2 (omega arith) in let high = c.4 in ⊎_elim
        (λ (is : c.0 ≡ first). let u : c.1 ≡ last = some_is c.1 last (sym c.2 ∙ ap (last_at m.entries page source) is ∙ at) in omega arith)
        (λ (ne : c.0 ≢ first). let u = (ranges.apart page source).apart c.0 c.1 first last c.2 at (omega (arith, ne)) in let v = (ranges.apart page source).filled first last at in omega arith)
        (cases_eq c.0 first);
    reached = inr (name_covered (name_of page source last) m (first, last, at, (ranges.apart page source).filled first last at, omega arith));
  }

  -- and from where the last range begins, all are held
  pub none_whole : ((first last : ℕ) → last_at m.entries page source first ≡ Some last → 4294967295 < first) → (high : ℕ) → IsHighest (ranges_of m.entries) page source high → IsWholeFrom (λ n. holds (ranges_of m.entries) (name_of page source n) ≡ true) high 0
  none_whole none high top =
      let nothing : (n : ℕ) → holds (ranges_of m.entries) (name_of page source n) ≡ true → ⊥ = λ n h. let c = covers_name (name_of page source n) m ordered h in let over = none c.0 c.1 c.2 in let a = (ranges.apart page source).filled c.0 c.1 c.2 in let b = (ranges.apart page source).fits c.0 c.1 c.2 in absurd (omega arith) in record {
        whole = λ n low from to. absurd (⊎_elim (λ (e : high ≡ 0). omega arith) (nothing high) top.reached);
        bound = omega arith;
        positive = λ some. absurd (⊎_elim (λ (e : high ≡ 0). omega arith) (nothing high) top.reached);
        below = nothing 0;
      }

  pub last_whole : (first last : ℕ) → last_at m.entries page source first ≡ Some last → ((j l : ℕ) → last_at m.entries page source j ≡ Some l → j ≤ 4294967295 → j ≤ first) → (high : ℕ) → IsHighest (ranges_of m.entries) page source high → IsWholeFrom (λ n. holds (ranges_of m.entries) (name_of page source n) ≡ true) high first
  last_whole first last at last_of high top =
      let P : ℕ → Type 0 = λ n. holds (ranges_of m.entries) (name_of page source n) ≡ true in
      let is : high ≡ last = one_greatest P P high last top (last_highest first last at last_of) (λ n h. h) (λ n h. h) in
      let full = (ranges.apart page source).filled first last at in record {
        whole = λ n low from to. name_covered (name_of page source n) m (first, last, at, from, omega arith);
        bound = omega arith;
        positive = λ _. (ranges.apart page source).positive first last at;
        below = λ h. let c = covers_name (name_of page source (first - 1)) m ordered h in let low = (ranges.apart page source).positive first last at in let under = c.3 in let over = c.4 in let apart = (ranges.apart page source).apart c.0 c.1 first last c.2 at (omega arith) in omega arith;
      }

last_any : {X : Type 0} (p : X → Bool) (xs : List X) (x : X) → list_any p (xs ++ x ∷ []) ≡ (p x || list_any p xs)
last_any p [] x = refl
last_any p (y ∷ xs) x = grind (arith, common_steps, nat_tests, last_any p xs x)

-- a number that would begin a range, or be the next of one, is in none
pub not_covered : (lasts : ℕ → Option ℕ) (n first : ℕ) → Begins lasts n first → Covers lasts n → ⊥
not_covered lasts n first b c = grind (arith, common_steps, nat_tests, cases_lt)

-- so a name that is held begins none
pub held_begins_none : (m : BTreeMap Start ℕ) (page : PageId) (source n first : ℕ) → IsOrdered start_cmp m → Begins (last_at m.entries page source) n first → holds (ranges_of m.entries) (name_of page source n) ≡ true → ⊥
held_begins_none m page source n first ordered b h = not_covered (last_at m.entries page source) n first b (covers_name (name_of page source n) m ordered h)

-- what is held after one more name is held of one more drawop
pub one_more : (before after : List HeldRange) (d : DrawopValue) → HoldsToo before d.name after → (history : List DrawopValue) → HoldNamesOf history before → HoldNamesOf (history ++ d ∷ []) after
one_more before after d too history held name =
    too name ∙ ap (λ (b : Bool). same_name d.name name || b) (held name) ∙ sym (last_any (λ (e : DrawopValue). same_name e.name name) history d)

-- the greatest number that is held is that of the list
pub highest_is : (ranges : List HeldRange) (page : PageId) (source high : ℕ) → IsHighest ranges page source high → (history : List DrawopValue) → HoldNamesOf history ranges → high ≡ highest page source history
highest_is ranges page source high top history held =
    one_greatest (λ (n : ℕ). holds ranges (name_of page source n) ≡ true) (IsHeld history page source) _ _ top (greatest_held history page source)
    (λ n h. held-by history page source n (sym (held (name_of page source n)) ∙ h))
    (λ n h. held (name_of page source n) ∙ held-from history page source n h)

-- from where on all are held is the same of the list
pub whole_is : (ranges : List HeldRange) (page : PageId) (source first : ℕ) → ((high : ℕ) → IsHighest ranges page source high → IsWholeFrom (λ n. holds ranges (name_of page source n) ≡ true) high first) → (history : List DrawopValue) → HoldNamesOf history ranges → IsWholeFrom (IsHeld history page source) (highest page source history) first
whole_is ranges page source first from history held =
    let there : (n : ℕ) → holds ranges (name_of page source n) ≡ true → IsHeld history page source n = λ n h. held-by history page source n (sym (held (name_of page source n)) ∙ h) in
    let back : (n : ℕ) → IsHeld history page source n → holds ranges (name_of page source n) ≡ true = λ n h. held (name_of page source n) ∙ held-from history page source n h in
    let g = greatest_held history page source in
    let w = from (highest page source history) (record {
      bound = λ n h. g.bound n (there n h);
      reached = ⊎_elim (λ (e : highest page source history ≡ 0). inl e) (λ (h : IsHeld history page source (highest page source history)). inr (back _ h)) g.reached;
    }) in record {
      whole = λ n low here to. there n (w.whole n low here to);
      bound = w.bound;
      positive = w.positive;
      below = λ h. w.below (back _ h);
    }
