-- The ranges that are kept, page by page: as runs they hold what the page holds, and their pages are those of the drawops.
use Rattle.std.proofs.Common.{◌≡◌, ℕ, ◌<◌, ◌≤◌, Bool, true, false, cond, List, [], ◌∷◌, get_or, length, refl, ap, ◌∙◌, sym, subst, arith, ◌⊎◌, inl, inr, ⊎_elim, Some}
use Rattle.std.specs.Prelude.{All, AllPairs, Any, Contains, filter, map, not, ◌&&◌}
use Rattle.std.specs.BTreeMap.{BTreeMap, IsOrdered, get}
use Rattle.std.specs.BTreeMap.Range.{entries_between, range_contains}
use Rattle.std.specs.List.Sorted.{IsStrictlySortedBy}
use Rattle.std.specs.Map.{keys_of}
use Rattle.std.specs.Ordering.{is_eq, is_le, is_lt, nat_cmp, ordering_then}
use Rattle.std.specs.declared.cmp.Ordering.{Ordering}
use Rattle.std.specs.declared.cmp.Ordering.TheVariants.{Less, Equal, Greater}
use Rattle.std.specs.declared.ops.Bound.TheVariants.{Included}
use Rattle.std.proofs.lemmas.Bool.{cases_lt}
use Rattle.std.proofs.lemmas.Bool.Decides.{nat_tests}
use Rattle.std.proofs.lemmas.List.{length-map}
use Rattle.std.proofs.lemmas.List.Elements.{All-nil, All-cons, All-head, All-tail, All-map, All-contains, All-from_recursion, Contains-get_or}
use Rattle.std.proofs.lemmas.List.Sums.{count_by-le-length, length-filter}
use Rattle.std.proofs.lemmas.List.Kept.{AllPairs-cons}
use Rattle.std.proofs.lemmas.Map.Keys.{sorted_head, sorted_tail}
use Rattle.std.proofs.lemmas.Map.Views.{All-found, Contains-from_lookup}
use Rattle.wb_names.specs.History.{IsHeld, name_of}
use Rattle.wb_names.specs.Listing.{Lists}
use Rattle.wb_names.specs.Orders.{page_cmp}
use Rattle.wb_names.specs.Values.{DrawopValue, NameValue}
use Rattle.wb_names.specs.declared.name.PageId.{PageId}
use Rattle.wb_names.proofs.Listings.{Any-from_map, Contains-filter, Contains-from_filter, Contains-map, lists_same}
use Rattle.wb_names.proofs.Orders.{name_parts, page_ties, page_total, same_page-is}
use Rattle.wb_gaps.specs.Holdings.{HoldNamesOf}
use Rattle.wb_gaps.specs.Pages.{ArePages}
use Rattle.wb_gaps.specs.Runs.{AreRuns, AreRunsOf, InRuns, IsBelow}
use Rattle.wb_gaps.specs.Starts.{AreRanges, Covers, HasPage, is_on, last_at, range_of, ranges_of, run_of, runs_on, start, start_cmp}
use Rattle.wb_gaps.specs.declared.holdings.Start.{Start}
use Rattle.wb_gaps.specs.declared.run.Run.{Run}
use Rattle.wb_gaps.proofs.HeldNames.{held-by, held-from}
use Rattle.wb_gaps.proofs.HeldNumbers.{same_page-here}
use Rattle.wb_gaps.proofs.HeldRanges.{covers_name, name_covered}
use Rattle.wb_gaps.proofs.Starts.{page_itself, start_is, start_total}

-- a page has at most as many runs as ranges
pub few_runs : (page : PageId) (es : List (Start × ℕ)) → length (runs_on page es) ≤ length (ranges_of es)
few_runs page es =
    let on = length-filter (is_on page) es in
    let few = count_by-le-length (is_on page) es in
    let runs = length-map (filter (is_on page) es) run_of in
    let all = length-map es range_of in
    omega arith

-- ---- which of the starts lie between the first and the last start of a page

between_ends : (r a b : Ordering) → is_le a ≡ true → is_lt b ≡ false → (is_le (ordering_then r a) && not (is_lt (ordering_then r b))) ≡ is_eq r
between_ends Less a b low high = refl
between_ends Equal a b low high = ap (λ (c : Bool). c && not (is_lt b)) low ∙ ap (λ (c : Bool). true && not c) high
between_ends Greater a b low high = refl

from_zero : (s f : ℕ) → is_le (ordering_then (nat_cmp 0 s) (nat_cmp 0 f)) ≡ true
from_zero s f = grind (arith, nat_tests)

pub up_to_most : (most s f : ℕ) → s ≤ most → f ≤ most → is_lt (ordering_then (nat_cmp most s) (nat_cmp most f)) ≡ false
up_to_most most s f small low = grind (arith, nat_tests)

lies_on : (page : PageId) (e : Start × ℕ) → e.0.source ≤ 4294967295 → e.0.first ≤ 4294967295 → range_contains start_cmp (Included (start page 0 0)) (Included (start page 4294967295 4294967295)) e.0 ≡ is_on page e
lies_on page e small low =
    between_ends (page_cmp page e.0.page) (ordering_then (nat_cmp 0 e.0.source) (nat_cmp 0 e.0.first)) (ordering_then (nat_cmp 4294967295 e.0.source) (nat_cmp 4294967295 e.0.first)) (from_zero e.0.source e.0.first) (up_to_most 4294967295 e.0.source e.0.first small low)
    ∙ sym (page_ties page e.0.page)

pub same_filter : {X : Type 0} (p q : X → Bool) (xs : List X) → All (λ x. p x ≡ q x) xs → filter p xs ≡ filter q xs
same_filter {X} p q [] all = refl
same_filter {X} p q (x ∷ xs) all =
    ap (λ (b : Bool). cond b (x ∷ filter p xs) (filter p xs)) (All-head (λ (y : X). p y ≡ q y) x xs all)
    ∙ ap (λ (ys : List X). cond (q x) (x ∷ ys) ys) (same_filter p q xs (All-tail (λ (y : X). p y ≡ q y) x xs all))

-- the entries after one in order
pub after_all : (e : Start × ℕ) (es : List (Start × ℕ)) → IsStrictlySortedBy start_cmp (keys_of (e ∷ es)) → All (λ f. start_cmp e.0 f.0 ≡ Less) es
after_all e es rising = keyed (λ (k : Start). start_cmp e.0 k ≡ Less) es (All-from_recursion _ (keys_of es) (sorted_head start_cmp e.0 (keys_of es) rising)) where
  keyed : (P : Start → Type 0) (fs : List (Start × ℕ)) → All P (keys_of fs) → All (λ f. P f.0) fs
  keyed P [] all = All-nil _
  keyed P (f ∷ fs) all = All-cons (λ (g : Start × ℕ). P g.0) f fs (All-head P f.0 (keys_of fs) all) (keyed P fs (All-tail P f.0 (keys_of fs) all))

module _ (m : BTreeMap Start ℕ) (ordered : IsOrdered start_cmp m) (ranges : AreRanges m.entries) where
  -- what is known of each range
  pub record Kept (e : Start × ℕ) : Type 0 where
    pub found : last_at m.entries e.0.page e.0.source e.0.first ≡ Some e.1
    pub counted : 1 ≤ e.0.first
    pub filled : e.0.first ≤ e.1
    pub fits : e.1 ≤ 4294967295
    pub small : e.0.source ≤ 4294967295

  pub kept : (e : Start × ℕ) → get start_cmp m e.0 ≡ Some e.1 → Kept e
  kept e found =
      let a = ranges.apart e.0.page e.0.source in
      record { found = found; counted = a.positive e.0.first e.1 found; filled = a.filled e.0.first e.1 found; fits = a.fits e.0.first e.1 found; small = ranges.sources e.0.page e.0.source e.0.first e.1 found }

  all_kept : All Kept m.entries
  all_kept k d lt = kept _ (All-found start_total m ordered k d lt)

  lies_kept : (page : PageId) (e : Start × ℕ) → Kept e → range_contains start_cmp (Included (start page 0 0)) (Included (start page 4294967295 4294967295)) e.0 ≡ is_on page e
  lies_kept page e h =
      let full = h.filled in
      let fits = h.fits in
      lies_on page e h.small (omega arith)

  -- the ranges between the first and the last start of a page are those of the page
  pub between_starts : (page : PageId) → entries_between start_cmp (Included (start page 0 0)) (Included (start page 4294967295 4294967295)) m.entries ≡ filter (is_on page) m.entries
  between_starts page = same_filter (λ e. range_contains start_cmp (Included (start page 0 0)) (Included (start page 4294967295 4294967295)) e.0) (is_on page) m.entries
      (λ k d lt. lies_kept page (get_or m.entries k d) (all_kept k d lt))

  -- ---- ranges of a page ascend

  less_parts : (a b c d : ℕ) → ordering_then (nat_cmp a b) (nat_cmp c d) ≡ Less → (a < b) ⊎ ((a ≡ b) × (c < d))
  less_parts a b c d e = grind (arith, nat_tests, cases_lt)

  run_below : (page : PageId) (e f : Start × ℕ) → Kept e → Kept f → start_cmp e.0 f.0 ≡ Less → is_on page e ≡ true → is_on page f ≡ true → IsBelow (run_of e) (run_of f)
  run_below page e f h g before on_e on_f =
      let pe : page ≡ e.0.page = same_page-is page e.0.page on_e in
      let pf : page ≡ f.0.page = same_page-is page f.0.page on_f in
      let same : page_cmp e.0.page f.0.page ≡ Equal = subst (λ (p : PageId). page_cmp p f.0.page ≡ Equal) pe (subst (λ (p : PageId). page_cmp page p ≡ Equal) pf (page_itself page)) in
      let less : ordering_then (nat_cmp e.0.source f.0.source) (nat_cmp e.0.first f.0.first) ≡ Less = sym (ap (λ (r : Ordering). ordering_then r (ordering_then (nat_cmp e.0.source f.0.source) (nat_cmp e.0.first f.0.first))) same) ∙ before in
      record {
        order = ⊎_elim
            (λ (lt : e.0.source < f.0.source). inl lt)
            (λ (q : (e.0.source ≡ f.0.source) × (e.0.first < f.0.first)).
            let there : last_at m.entries e.0.page e.0.source f.0.first ≡ Some f.1 = subst (λ (p : PageId). last_at m.entries p e.0.source f.0.first ≡ Some f.1) (sym pf ∙ pe) (subst (λ (s : ℕ). last_at m.entries f.0.page s f.0.first ≡ Some f.1) (sym q.0) g.found) in
            let apart = (ranges.apart e.0.page e.0.source).apart e.0.first e.1 f.0.first f.1 h.found there q.1 in
            inr (q.0, omega arith))
            (less_parts e.0.source f.0.source e.0.first f.0.first less);
      }

  each_in : {X : Type 0} (P : X → Type 0) (p : X → Bool) (xs : List X) → ((x : X) → Contains xs x → p x ≡ true → P x) → All P (filter p xs)
  each_in {X} P p xs f k d lt = let c = Contains-from_filter p xs _ (Contains-get_or (filter p xs) k d lt) in f _ c.0 c.1

  runs_ascend : (page : PageId) (es : List (Start × ℕ)) → IsStrictlySortedBy start_cmp (keys_of es) → All Kept es → AllPairs IsBelow (runs_on page es)
  runs_ascend page [] rising all = λ i j d ij lt. absurd (omega arith)
  runs_ascend page (e ∷ es) rising all =
      let rest : AllPairs IsBelow (runs_on page es) = runs_ascend page es (sorted_tail start_cmp e.0 (keys_of es) rising) (All-tail Kept e es all) in
      elim (is_on page e) as (λ b. is_on page e ≡ b → AllPairs IsBelow (map run_of (cond b (e ∷ filter (is_on page) es) (filter (is_on page) es)))) [
        | true ↦ λ on. AllPairs-cons IsBelow (run_of e) (runs_on page es)
            (All-map (IsBelow (run_of e)) run_of (filter (is_on page) es)
            (each_in (λ (f : Start × ℕ). IsBelow (run_of e) (run_of f)) (is_on page) es
            (λ f c on_f. run_below page e f (All-head Kept e es all) (All-contains Kept es f (All-tail Kept e es all) c) (All-contains (λ (g : Start × ℕ). start_cmp e.0 g.0 ≡ Less) es f (after_all e es rising) c) on on_f)))
            rest
        | false ↦ λ off. rest
      ] refl

  all_runs : (page : PageId) (P : Run → Type 0) → ((e : Start × ℕ) → Kept e → P (run_of e)) → All P (runs_on page m.entries)
  all_runs page P f = All-map P run_of (filter (is_on page) m.entries) (each_in (λ (e : Start × ℕ). P (run_of e)) (is_on page) m.entries (λ e c on. f e (All-contains Kept m.entries e all_kept c)))

  pub runs_are : (page : PageId) → AreRuns (runs_on page m.entries)
  runs_are page = record {
    counted = all_runs page (λ (r : Run). 1 ≤ r.first) (λ e h. h.counted);
    filled = all_runs page (λ (r : Run). r.first ≤ r.last) (λ e h. h.filled);
    ascending = runs_ascend page m.entries ordered all_kept;
  }

  -- ---- what the runs of a page hold

  pub to_cover : (page : PageId) (source n : ℕ) → InRuns (runs_on page m.entries) source n → Covers (last_at m.entries page source) n
  to_cover page source n h =
      let r : Run = h.0 in
      let a = Any-from_map run_of (filter (is_on page) m.entries) r h.1 in
      let e : Start × ℕ = a.1 in
      let c = Contains-from_filter (is_on page) m.entries e (a.0, a.2, a.3) in
      let k : Kept e = All-contains Kept m.entries e all_kept c.0 in
      let here : page ≡ e.0.page = same_page-is page e.0.page c.1 in
      let is : run_of e ≡ r = a.4 in
      let source_is : e.0.source ≡ source = ap (λ (v : Run). v.source) is ∙ h.2 in (
        e.0.first,
        e.1,
        subst (λ (p : PageId). last_at m.entries p source e.0.first ≡ Some e.1) (sym here) (subst (λ (s : ℕ). last_at m.entries e.0.page s e.0.first ≡ Some e.1) source_is k.found),
        subst (λ (v : Run). v.first ≤ n) (sym is) h.3,
        subst (λ (v : Run). n ≤ v.last) (sym is) h.4,
      )

  pub from_cover : (page : PageId) (source n : ℕ) → Covers (last_at m.entries page source) n → InRuns (runs_on page m.entries) source n
  from_cover page source n c =
      let e : Start × ℕ = (start page source c.0, c.1) in
      let at = Contains-filter (is_on page) m.entries e (Contains-from_lookup start_is (start page source c.0) c.1 m.entries c.2) (same_page-here page page refl) in
      (run_of e, Contains-map run_of (filter (is_on page) m.entries) (run_of e) (at.0, e, at.1, at.2, refl), refl, c.3, c.4)

  module _ (history : List DrawopValue) (held : HoldNamesOf history (ranges_of m.entries)) where
    pub cover_held : (page : PageId) (source n : ℕ) → Covers (last_at m.entries page source) n → IsHeld history page source n
    cover_held page source n c = held-by history page source n (sym (held (name_of page source n)) ∙ name_covered (name_of page source n) m c)

    pub held_cover : (page : PageId) (source n : ℕ) → IsHeld history page source n → Covers (last_at m.entries page source) n
    held_cover page source n h = covers_name (name_of page source n) m ordered (held (name_of page source n) ∙ held-from history page source n h)

    -- the runs of a page hold exactly the numbers that the drawops have there
    pub runs_hold : (page : PageId) → AreRunsOf history page (runs_on page m.entries)
    runs_hold page = record {
      lawful = runs_are page;
      held = λ s n. (λ h. cover_held page s n (to_cover page s n h), λ h. from_cover page s n (held_cover page s n h));
    }

    -- ---- pages

    pub held_page : (page : PageId) → HasPage m.entries page → Any (λ (d : DrawopValue). d.name.page ≡ page) history
    held_page page h =
        let is_held = cover_held page h.0 h.1 (h.1, h.2, h.3, omega arith, (ranges.apart page h.0).filled h.1 h.2 h.3) in
        (is_held.0, is_held.1, is_held.2, is_held.3, ap (λ (v : NameValue). v.page) is_held.4)

    pub page_held : (page : PageId) → Any (λ (d : DrawopValue). d.name.page ≡ page) history → HasPage m.entries page
    page_held page h =
        let d : DrawopValue = h.1 in
        let c = held_cover page d.name.source d.name.seq (h.0, d, h.2, h.3, name_on d.name page h.4) in
        (d.name.source, c.0, c.1, c.2) where
          name_on : (n : NameValue) (page : PageId) → n.page ≡ page → n ≡ name_of page n.source n.seq
          name_on n page e = name_parts n.source n.source n.page page n.seq n.seq refl e refl

    pub pages_are : (pages : List PageId) → Lists page_cmp (HasPage m.entries) pages → ArePages history pages
    pages_are pages = lists_same page_total (HasPage m.entries) (λ page. Any (λ (d : DrawopValue). d.name.page ≡ page) history) pages held_page page_held

    pub pages_held : (pages : List PageId) → ArePages history pages → Lists page_cmp (HasPage m.entries) pages
    pages_held pages = lists_same page_total (λ page. Any (λ (d : DrawopValue). d.name.page ≡ page) history) (HasPage m.entries) pages page_held held_page
