-- The names in the gaps of a page ascend, and are those that are missing: so what a keeper wants is the first of them.
use Rattle.std.proofs.Common.{◌≡◌, ℕ, zero, suc, ◌+◌, ◌-◌, ◌<◌, ◌≤◌, List, [], ◌∷◌, ◌++◌, refl, ap, ◌∙◌, sym, subst, arith, ◌⊎◌, inl, inr, ⊎_elim}
use Rattle.std.specs.Prelude.{All, AllPairs, Contains, filter}
use Rattle.std.specs.Cmp.{nat_cmp_is}
use Rattle.std.specs.List.{AllByRecursion}
use Rattle.std.specs.List.Sorted.{IsStrictlySortedBy}
use Rattle.std.specs.Ordering.{nat_cmp, ordering_then}
use Rattle.std.specs.declared.cmp.Ordering.{Ordering}
use Rattle.std.specs.declared.cmp.Ordering.TheVariants.{Less, Equal}
use Rattle.std.proofs.lemmas.List.Elements.{All-contains, All-head, All-tail, Contains-append_left, Contains-append_right, Contains-append_cases}
use Rattle.std.proofs.lemmas.List.Kept.{IsStrictlySortedBy-filter}
use Rattle.std.proofs.lemmas.Map.Keys.{sorted_tail}
use Rattle.wb_names.specs.Values.{NameValue, DrawopValue, MarkValue}
use Rattle.wb_names.specs.History.{name_of}
use Rattle.wb_names.specs.Orders.{name_cmp, page_cmp}
use Rattle.wb_names.specs.declared.gap.Gap.{Gap}
use Rattle.wb_names.specs.declared.name.PageId.{PageId}
use Rattle.wb_names.proofs.Listings.{Contains-here, Contains-there, Contains-cases, Contains-none, Contains-filter, Contains-from_filter, below_all}
use Rattle.wb_names.proofs.Orders.{name_total}
use Rattle.wb_gaps.specs.Answers.{gaps_of}
use Rattle.wb_gaps.specs.Gaps.{AreGaps, Covers, IsApart}
use Rattle.wb_gaps.proofs.MissingRanges.{gaps_of_page}
use Rattle.wb_gaps.proofs.OneGaps.{apart_tail}
use Rattle.wb_gaps.proofs.Starts.{page_itself}
use Rattle.wb_recovery.specs.Events.{timers_of}
use Rattle.wb_recovery.specs.declared.timers.Timers.{Timers}
use Rattle.wb_keeper.specs.Missing.{is_unasked, names_in_gap, names_in_gaps, IsWanted, FirstAreWanted}
use Rattle.wb_keeper.proofs.WantedNames.{part}

-- ---- the order of names of one page

less_by_number : (m n : NameValue) → m.source ≡ n.source → m.page ≡ n.page → m.seq < n.seq → name_cmp m n ≡ Less
less_by_number m n source page lt =
    ap (λ (o : Ordering). ordering_then o (ordering_then (page_cmp m.page n.page) (nat_cmp m.seq n.seq))) (sym (nat_cmp_is m.source n.source Equal source))
    ∙ ap (λ (o : Ordering). ordering_then o (nat_cmp m.seq n.seq)) (ap (page_cmp m.page) (sym page) ∙ page_itself m.page)
    ∙ sym (nat_cmp_is m.seq n.seq Less lt)

less_by_source : (m n : NameValue) → m.source < n.source → name_cmp m n ≡ Less
less_by_source m n lt = ap (λ (o : Ordering). ordering_then o (ordering_then (page_cmp m.page n.page) (nat_cmp m.seq n.seq))) (sym (nat_cmp_is m.source n.source Less lt))

-- ---- lists that rise
all_from : (P : NameValue → Type 0) (xs : List NameValue) → ((z : NameValue) → Contains xs z → P z) → AllByRecursion P xs
all_from P [] f = tt
all_from P (x ∷ xs) f = (f x (Contains-here x xs), all_from P xs (λ z c. f z (Contains-there x z xs c)))

none_rise : IsStrictlySortedBy name_cmp []
unfolding IsStrictlySortedBy
none_rise = tt

one_rises : (x : NameValue) (xs : List NameValue) → ((z : NameValue) → Contains xs z → name_cmp x z ≡ Less) → IsStrictlySortedBy name_cmp xs → IsStrictlySortedBy name_cmp (x ∷ xs)
unfolding IsStrictlySortedBy
one_rises x xs f s = (all_from (λ y. name_cmp x y ≡ Less) xs f, s)

both_rise : (xs ys : List NameValue) → IsStrictlySortedBy name_cmp xs → IsStrictlySortedBy name_cmp ys → ((x y : NameValue) → Contains xs x → Contains ys y → name_cmp x y ≡ Less) → IsStrictlySortedBy name_cmp (xs ++ ys)
both_rise [] ys s t f = t
both_rise (x ∷ xs) ys s t f =
    one_rises x (xs ++ ys) (λ z c. ⊎_elim (λ (a : Contains xs z). below_all name_total x z xs s a) (λ (b : Contains ys z). f x z (Contains-here x xs) b) (Contains-append_cases xs ys z c))
    (both_rise xs ys (sorted_tail name_cmp x xs s) t (λ a b c d. f a b (Contains-there x a xs c) d))

-- ---- the names of a range
record IsIn (page : PageId) (source first count : ℕ) (n : NameValue) : Type 0 where
  on_page : n.page ≡ page
  of_source : n.source ≡ source
  low : first ≤ n.seq
  high : n.seq < first + count

in_part : (page : PageId) (source first count : ℕ) (n : NameValue) → Contains (part page source first count) n → IsIn page source first count n
in_part page source first zero n c = absurd (Contains-none n c)
in_part page source first (suc count) n c = ⊎_elim
    (λ (e : name_of page source first ≡ n). record {
      on_page = sym (ap (λ (m : NameValue). m.page) e);
      of_source = sym (ap (λ (m : NameValue). m.source) e);
      low = let s : first ≡ n.seq = ap (λ (m : NameValue). m.seq) e in omega arith;
      high = let s : first ≡ n.seq = ap (λ (m : NameValue). m.seq) e in omega arith;
    })
    (λ (d : Contains (part page source (first + 1) count) n). let r = in_part page source (first + 1) count n d in record {
      on_page = r.on_page;
      of_source = r.of_source;
      low = let l = r.low in omega arith;
      high = let h = r.high in omega arith;
    })
    (Contains-cases (name_of page source first) n (part page source (first + 1) count) c)

pub first_or_later : (a b : ℕ) → a ≤ b → (a ≡ b) ⊎ (a < b)
first_or_later zero zero le = inl refl
first_or_later zero (suc b) le = inr (omega arith)
first_or_later (suc a) zero le = absurd (omega arith)
first_or_later (suc a) (suc b) le = ⊎_elim (λ (e : a ≡ b). inl (ap suc e)) (λ (l : a < b). inr (omega arith)) (first_or_later a b (omega arith))

part_has : (page : PageId) (source first count seq : ℕ) → first ≤ seq → seq < first + count → Contains (part page source first count) (name_of page source seq)
part_has page source first zero seq low high = absurd (omega arith)
part_has page source first (suc count) seq low high = ⊎_elim
    (λ (e : first ≡ seq). subst (λ (k : ℕ). Contains (part page source first (suc count)) (name_of page source k)) e (Contains-here (name_of page source first) (part page source (first + 1) count)))
    (λ (l : first < seq). Contains-there (name_of page source first) (name_of page source seq) (part page source (first + 1) count) (part_has page source (first + 1) count seq (omega arith) (omega arith)))
    (first_or_later first seq low)

part_rises : (page : PageId) (source first count : ℕ) → IsStrictlySortedBy name_cmp (part page source first count)
part_rises page source first zero = none_rise
part_rises page source first (suc count) =
    one_rises (name_of page source first) (part page source (first + 1) count)
    (λ z c. let r = in_part page source (first + 1) count z c in let l = r.low in less_by_number (name_of page source first) z (sym r.of_source) (sym r.on_page) (omega arith))
    (part_rises page source (first + 1) count)

-- ---- the names of all ranges
record IsInOne (page : PageId) (gaps : List Gap) (n : NameValue) : Type 0 where
  gap : Gap
  there : Contains gaps gap
  inside : IsIn page gap.source gap.first (gap.last + 1 - gap.first) n

in_gaps : (page : PageId) (gaps : List Gap) (n : NameValue) → Contains (names_in_gaps page gaps) n → IsInOne page gaps n
in_gaps page [] n c = absurd (Contains-none n c)
in_gaps page (g ∷ gaps) n c = ⊎_elim
    (λ (d : Contains (names_in_gap page g) n). record { gap = g; there = Contains-here g gaps; inside = in_part page g.source g.first (g.last + 1 - g.first) n d })
    (λ (d : Contains (names_in_gaps page gaps) n). let r = in_gaps page gaps n d in record { gap = r.gap; there = Contains-there g r.gap gaps r.there; inside = r.inside })
    (Contains-append_cases (names_in_gap page g) (names_in_gaps page gaps) n c)

gaps_have : (page : PageId) (gaps : List Gap) (g : Gap) (n : NameValue) → Contains gaps g → Contains (names_in_gap page g) n → Contains (names_in_gaps page gaps) n
gaps_have page [] g n c d = absurd (Contains-none g c)
gaps_have page (x ∷ gaps) g n c d = ⊎_elim
    (λ (e : x ≡ g). Contains-append_left (names_in_gap page x) (names_in_gaps page gaps) n (subst (λ (h : Gap). Contains (names_in_gap page h) n) (sym e) d))
    (λ (k : Contains gaps g). Contains-append_right (names_in_gap page x) (names_in_gaps page gaps) n (gaps_have page gaps g n k d))
    (Contains-cases x g gaps c)

apart_head : (x : Gap) (xs : List Gap) (g : Gap) → AllPairs IsApart (x ∷ xs) → Contains xs g → IsApart x g
apart_head x xs g a (k, h, e) = subst (λ (v : Gap). IsApart x v) e (a 0 (suc k) g (omega arith) (omega arith))

names_rise : (page : PageId) (gaps : List Gap) → All (λ g. g.first ≤ g.last) gaps → AllPairs IsApart gaps → IsStrictlySortedBy name_cmp (names_in_gaps page gaps)
names_rise page [] filled apart = none_rise
names_rise page (g ∷ gaps) filled apart =
    both_rise (names_in_gap page g) (names_in_gaps page gaps) (part_rises page g.source g.first (g.last + 1 - g.first))
    (names_rise page gaps (All-tail (λ (h : Gap). h.first ≤ h.last) g gaps filled) (apart_tail g gaps apart))
    (λ x y c d.
    let full : g.first ≤ g.last = All-head (λ (h : Gap). h.first ≤ h.last) g gaps filled in
    let a = in_part page g.source g.first (g.last + 1 - g.first) x c in
    let r = in_gaps page gaps y d in
    let b = r.inside in
    let high = a.high in
    let low = b.low in
    let left = a.of_source in
    let right = b.of_source in
    ⊎_elim
    (λ (p : g.source < r.gap.source). less_by_source x y (omega arith))
    (λ (p : (g.source ≡ r.gap.source) × (g.last + 1 < r.gap.first)). let e = p.0 in let l = p.1 in less_by_number x y (left ∙ e ∙ sym right) (a.on_page ∙ sym b.on_page) (omega arith))
    (apart_head g gaps r.gap apart r.there))

-- ---- what is wanted
module _ (timers : NameValue → Timers) (history : List DrawopValue) (page : PageId) (marks : List MarkValue) (gaps : List Gap) (are : AreGaps history page marks gaps) where
  is_wanted : (n : NameValue) → Contains (filter (is_unasked timers) (names_in_gaps page gaps)) n → IsWanted timers history page marks n
  is_wanted n c =
      let f = Contains-from_filter (is_unasked timers) (names_in_gaps page gaps) n c in
      let r = in_gaps page gaps n f.0 in
      let inside = r.inside in
      let full : r.gap.first ≤ r.gap.last = All-contains (λ (h : Gap). h.first ≤ h.last) gaps r.gap are.filled r.there in
      let high = inside.high in
      record {
        on_page = inside.on_page;
        missing = (are.missing n.source n.seq).0 (r.gap, r.there, sym inside.of_source, inside.low, omega arith);
        unasked = f.1;
      }

  has_wanted : (n : NameValue) → IsWanted timers history page marks n → Contains (filter (is_unasked timers) (names_in_gaps page gaps)) n
  has_wanted n w = from ((are.missing n.source n.seq).1 w.missing) where
    from : Covers gaps n.source n.seq → Contains (filter (is_unasked timers) (names_in_gaps page gaps)) n
    from (g, there, source, low, high) =
        let here : Contains (part page g.source g.first (g.last + 1 - g.first)) (name_of page g.source n.seq) = part_has page g.source g.first (g.last + 1 - g.first) n.seq low (omega arith) in
        let named : name_of page g.source n.seq ≡ n = ap (λ (k : ℕ). name_of page k n.seq) source ∙ ap (λ (p : PageId). name_of p n.source n.seq) (sym w.on_page) in
        Contains-filter (is_unasked timers) (names_in_gaps page gaps) n (gaps_have page gaps g n there (subst (λ (m : NameValue). Contains (names_in_gap page g) m) named here)) w.unasked

pub first_are_wanted : FirstAreWanted
first_are_wanted constants events history page marks =
    let gaps = gaps_of history page marks in
    let are = gaps_of_page history page marks in
    let timers = timers_of constants events in (
      filter (is_unasked timers) (names_in_gaps page gaps),
      record {
        rising = IsStrictlySortedBy-filter name_cmp (is_unasked timers) (names_in_gaps page gaps) (names_rise page gaps are.filled are.apart);
        members = λ n. (is_wanted timers history page marks gaps are n, has_wanted timers history page marks gaps are n);
      },
      refl,
    )
