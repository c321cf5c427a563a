-- The next page, by one look-up among ranges that are in order.
use Rattle.std.proofs.Common.{◌≡◌, ℕ, ◌≤◌, Bool, true, false, List, [], ◌∷◌, length, refl, ap, ◌∙◌, sym, subst, arith, true≢false, Option, None, Some}
use Rattle.std.specs.Prelude.{Contains, IsSome, filter, map}
use Rattle.std.specs.BTreeMap.{BTreeMap, IsOrdered, get}
use Rattle.std.specs.BTreeMap.Range.{IsFromStart, IsRangeOf}
use Rattle.std.specs.List.Sorted.{IsStrictlySortedBy}
use Rattle.std.specs.Ordering.{is_eq, is_gt, is_lt, nat_cmp, ordering_reverse, ordering_then}
use Rattle.std.specs.declared.cmp.Ordering.{Ordering}
use Rattle.std.specs.declared.cmp.Ordering.TheVariants.{Less, Equal, Greater}
use Rattle.std.specs.declared.ops.Bound.{Bound}
use Rattle.std.specs.declared.ops.Bound.TheVariants.{Included, Excluded, Unbounded}
use Rattle.std.specs.Range.Bound.{IsForward}
use Rattle.std.proofs.lemmas.List.{length-map}
use Rattle.std.proofs.lemmas.List.Elements.{All-contains}
use Rattle.std.proofs.lemmas.Map.Keys.{sorted_tail}
use Rattle.std.proofs.lemmas.Map.Views.{All-found, Contains-from_lookup}
use Rattle.wb_names.specs.Listing.{Lists}
use Rattle.wb_names.specs.Orders.{page_cmp}
use Rattle.wb_names.specs.declared.name.PageId.{PageId}
use Rattle.wb_names.proofs.Listings.{Any-from_map, Contains-map, below_all, lists_same}
use Rattle.wb_names.proofs.Orders.{page_total}
use Rattle.wb_gaps.specs.Sorting.{sorted}
use Rattle.wb_gaps.specs.Starts.{AreRanges, HasPage, IsNextPage, IsPast, is_past, last_at, past_page, start, start_cmp}
use Rattle.wb_gaps.specs.declared.holdings.Start.{Start}
use Rattle.wb_gaps.proofs.Adding.{none_some}
use Rattle.wb_gaps.proofs.ListParts.{Rising, first_left, none_left}
use Rattle.wb_gaps.proofs.PageRanges.{kept, up_to_most}
use Rattle.wb_gaps.proofs.Sorting.{length-sorted-le, lists_sorted}
use Rattle.wb_gaps.proofs.Starts.{not_gt_first, page_is, page_itself, start_is, start_total, is_less}

-- ---- the first place past a page

abbrev rest_of : Start → Ordering
rest_of s = ordering_then (nat_cmp 4294967295 s.source) (nat_cmp 4294967295 s.first)

past_from : (last : Option PageId) (s : Start) → s.source ≤ 4294967295 → s.first ≤ 4294967295 → IsFromStart start_cmp (past_page last) s → IsPast last s.page
past_from None s small low from = tt
past_from (Some p) s small low from = past (page_cmp p s.page) from where
  past : (o : Ordering) → ordering_then o (rest_of s) ≡ Less → o ≡ Less
  past Less e = refl
  past Equal e = absurd (true≢false (sym (ap is_lt e) ∙ up_to_most 4294967295 s.source s.first small low))
  past Greater e = e

from_past : (last : Option PageId) (s : Start) → IsPast last s.page → IsFromStart start_cmp (past_page last) s
from_past None s past = tt
from_past (Some p) s less = ap (λ (o : Ordering). ordering_then o (rest_of s)) less

not_less : (p q : PageId) (r : Ordering) → is_gt (ordering_then (page_cmp p q) r) ≡ false → is_lt (page_cmp q p) ≡ false
not_less p q r h = at (page_cmp p q) (not_gt_first (page_cmp p q) r h) (page_total.antisymm q p) where
  at : (o : Ordering) → is_gt o ≡ false → page_cmp q p ≡ ordering_reverse o → is_lt (page_cmp q p) ≡ false
  at Less h e = ap is_lt e
  at Equal h e = ap is_lt e
  at Greater h e = absurd (true≢false h)

pub forward : {A : Type 0} (P Q : A → A → Type 0) (b : Bound A) → IsForward P Q b Unbounded
forward P Q (Included a) = tt
forward P Q (Excluded a) = tt
forward P Q Unbounded = tt

module _ (m : BTreeMap Start ℕ) (ordered : IsOrdered start_cmp m) (ranges : AreRanges m.entries) (last : Option PageId) where
  pub next_none : (r : List (Start × ℕ)) → r ≡ [] → IsRangeOf start_cmp (past_page last) Unbounded m r → IsNextPage m.entries last None
  next_none r none i page h past = none_some h.2 (sym (i.5 none (start page h.0 h.1) (from_past last (start page h.0 h.1) past, tt)) ∙ h.3)

  pub next_some : (e : Start × ℕ) (t r : List (Start × ℕ)) → r ≡ e ∷ t → IsRangeOf start_cmp (past_page last) Unbounded m r → IsNextPage m.entries last (Some e.0.page)
  next_some e t r is i =
      let j = subst (IsRangeOf start_cmp (past_page last) Unbounded m) is i in
      let k = kept m ordered ranges e j.1.1 in
      let full = k.filled in
      let fits = k.fits in (
        (e.0.source, e.0.first, e.1, j.1.1),
        past_from last e.0 k.small (omega arith) j.1.0.0,
        λ page h past. not_less e.0.page page _ (j.2 (start page h.0 h.1) (from_past last (start page h.0 h.1) past, tt) (some_found h.2 h.3)),
      ) where
        some_found : (v : ℕ) {o : Option ℕ} → o ≡ Some v → IsSome o
        some_found v e = subst IsSome (sym e) refl

-- ---- the next page of a list

past_is : (last : Option PageId) (page : PageId) → IsPast last page → is_past last page ≡ true
past_is None page past = refl
past_is (Some p) page less = ap is_lt less

is_past-is : (last : Option PageId) (page : PageId) → is_past last page ≡ true → IsPast last page
is_past-is None page h = tt
is_past-is (Some p) page h = is_less (page_cmp p page) h

past_on : (last : Option PageId) (next page : PageId) → IsPast last next → page_cmp next page ≡ Less → IsPast last page
past_on None next page past less = tt
past_on (Some p) next page past less = page_total.trans p next page past less

not_past : (last : Option PageId) (page : PageId) → ¬ IsPast last page → is_past last page ≡ false
not_past last page not = at (is_past last page) refl where
  at : (b : Bool) → is_past last page ≡ b → is_past last page ≡ false
  at false e = e
  at true e = absurd (not (is_past-is last page e))

abbrev Before : PageId → PageId → Type 0
Before p q = page_cmp p q ≡ Less

rising : (pages : List PageId) → IsStrictlySortedBy page_cmp pages → Rising Before pages
rising [] rises = tt
rising (p ∷ pages) rises = (λ q c. below_all page_total p q pages rises c, rising pages (sorted_tail page_cmp p pages rises))

module _ (entries : List (Start × ℕ)) (all : List PageId) (listed : Lists page_cmp (HasPage entries) all) (last : Option PageId) where
  pub none_past : IsNextPage entries last None → filter (is_past last) all ≡ []
  none_past none = none_left (is_past last) all (λ page c. not_past last page (none page ((listed.members page).0 c)))

  pub next_past : (next : PageId) → IsNextPage entries last (Some next) → filter (is_past last) all ≡ next ∷ filter (is_past (Some next)) all
  next_past next n =
      first_left Before (is_past last) (is_past (Some next)) next all (rising all listed.rising) ((listed.members next).1 n.0)
      (record {
        itself = (past_is last next n.1, ap is_lt (page_itself next));
        earlier = λ page c less. (
          not_past last page (λ past. true≢false (sym (ap is_lt less) ∙ n.2 page ((listed.members page).0 c) past)),
          ap is_lt (page_total.antisymm next page ∙ ap ordering_reverse less),
        );
        later = λ page less. (past_is last page (past_on last next page n.1 less), ap is_lt less);
      })

-- ---- all pages

abbrev page_of : Start × ℕ → PageId
page_of e = e.0.page

-- as many as there are ranges, or fewer
abbrev pub pages_in : List (Start × ℕ) → List PageId
pages_in entries = sorted page_cmp (map page_of entries)

pub few_pages : (entries : List (Start × ℕ)) → length (pages_in entries) ≤ length entries
few_pages entries = let few = length-sorted-le page_cmp (map page_of entries) in let same = length-map entries page_of in omega arith

module _ (m : BTreeMap Start ℕ) (ordered : IsOrdered start_cmp m) where
  pub all_pages : Lists page_cmp (HasPage m.entries) (pages_in m.entries)
  all_pages = lists_same page_total (Contains (map page_of m.entries)) (HasPage m.entries) (pages_in m.entries)
      (λ page c.
      let h = Any-from_map page_of m.entries page c in
      let e : Start × ℕ = h.1 in
      let found = All-contains (λ (d : Start × ℕ). get start_cmp m d.0 ≡ Some d.1) m.entries e (All-found start_total m ordered) (h.0, h.2, h.3) in
      (e.0.source, e.0.first, e.1, subst (λ (p : PageId). last_at m.entries p e.0.source e.0.first ≡ Some e.1) h.4 found))
      (λ page h.
      let e : Start × ℕ = (start page h.0 h.1, h.2) in
      let c = Contains-from_lookup start_is e.0 e.1 m.entries h.3 in
      Contains-map page_of m.entries page (c.0, e, c.1, c.2, refl))
      (lists_sorted page_total (map page_of m.entries) (λ p q _ _ tie. page_is p q (ap is_eq tie)))
