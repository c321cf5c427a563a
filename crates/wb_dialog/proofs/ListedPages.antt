-- There is one list of the pages that are drawn on.
use Rattle.std.proofs.lemmas.Grind.{common_steps}
use Rattle.std.proofs.Common.{◌≡◌, ℕ, zero, suc, ◌+◌, ◌<◌, Bool, true, false, List, [], ◌∷◌, length, get_or, refl, ap, ◌∙◌, sym, subst, arith, ◌⊎◌, inl, inr, ⊎_elim, true≢false}
use Rattle.std.specs.Prelude.{All, AllPairs, Any, Contains, IsPermutation, filter, map, nat_eq, nat_lt, take, ◌&&◌, ◌||◌, if◌then◌else◌}
use Rattle.std.specs.Cmp.{IsTotalOrder, nat_cmp_total}
use Rattle.std.specs.List.Sorted.{IsSorted, IsSortedBy, IsStrictlySortedBy}
use Rattle.std.specs.Ordering.{eq_by_cmp, is_eq, is_lt, nat_cmp, ordering_reverse, ordering_then}
use Rattle.std.specs.declared.cmp.Ordering.TheVariants.{Equal, Less}
use Rattle.std.proofs.lemmas.Bool.{eqb-true}
use Rattle.std.proofs.lemmas.Bool.Decides.{nat_tests}
use Rattle.std.proofs.lemmas.Cmp.{back_total, on_total, then_total}
use Rattle.std.proofs.lemmas.List.{get_or_default}
use Rattle.std.proofs.lemmas.List.Elements.{All-contains_itself, All-from_get_or, All-get_or, All-map}
use Rattle.std.proofs.lemmas.List.Kept.{AllPairs-cons}
use Rattle.std.proofs.lemmas.Map.Keys.{sorted_tail}
use Rattle.wb_names.specs.Orders.{page_cmp, same_page}
use Rattle.wb_names.specs.Values.{DrawopValue}
use Rattle.wb_names.specs.declared.name.PageId.{PageId}
use Rattle.wb_names.proofs.Listings.{Contains-here, Contains-there, below_all, lists_from_sorted, lists_same, one_list}
use Rattle.wb_names.proofs.Orders.{and_both, nat_ties, page_total, same_page-is, then_is}
use Rattle.wb_gaps.specs.Answers.{pages_of}
use Rattle.wb_gaps.specs.Sorting.{sorted}
use Rattle.wb_gaps.proofs.PageAnswers.{pages_of_history}
use Rattle.wb_gaps.proofs.Sorting.{lists_sorted}
use Rattle.wb_judge.specs.Pages.{is_listed_before, place_of}
use Rattle.wb_judge.specs.declared.pages.Listed.{Listed}
use Rattle.wb_judge.specs.declared.strange.Given.{Given}
use Rattle.wb_judging.specs.Asking.{AreListed, all_listed, last_from, last_on, listed}
use Rattle.wb_judging.specs.Judged.{Judged}
use Rattle.wb_dialog.specs.Listing.{listed_first, listing_cmp}

-- ---- the order

listing_total : IsTotalOrder listing_cmp
listing_total = then_total (on_total (λ (p : Listed). place_of p.rank) nat_cmp_total) (back_total (on_total (λ (p : Listed). p.last) nat_cmp_total))

test_is : (a b x y : ℕ) → is_lt (ordering_then (nat_cmp a b) (nat_cmp y x)) ≡ (nat_lt a b || (nat_eq a b && nat_lt y x))
test_is a b x y = grind (arith, common_steps, nat_tests)

before_is : (p q : Listed) → is_lt (listing_cmp p q) ≡ is_listed_before p q
before_is p q = test_is (place_of p.rank) (place_of q.rank) p.last q.last

as_sorted : (xs : List Listed) → IsSortedBy is_listed_before xs → IsSorted listing_cmp xs
as_sorted xs s k d from within = before_is (get_or xs (k + 1) d) (get_or xs k d) ∙ s k d from within

-- ---- where the last drawop of a page stands

-- one of these is of the page
abbrev IsIn : List DrawopValue → PageId → Type 0
IsIn held page = Any (λ (d : DrawopValue). d.name.page ≡ page) held

-- the place of one of the page, counted from a first place
record Found (page : PageId) (first place : ℕ) (held : List DrawopValue) : Type 0 where
  at : ℕ
  within : at < length held
  on : (d : DrawopValue) → (get_or held at d).name.page ≡ page
  is : place ≡ first + at

-- none is, and the place is the one that is known
abbrev LastAt : PageId → ℕ → ℕ → List DrawopValue → Type 0
LastAt page first last held = ((last_from page first last held ≡ last) × (IsIn held page → ⊥)) ⊎ Found page first (last_from page first last held) held

one_more : (page : PageId) (first place : ℕ) (d : DrawopValue) (held : List DrawopValue) → Found page (first + 1) place held → Found page first place (d ∷ held)
one_more page first place d held f = record { at = suc f.at; within = omega (arith, f.within); on = f.on; is = omega (arith, f.is) }

same_itself : (p : PageId) → same_page p p ≡ true
same_itself p = grind (arith, nat_tests)

none_more : (page : PageId) (d : DrawopValue) (held : List DrawopValue) → same_page d.name.page page ≡ false → (IsIn held page → ⊥) → IsIn (d ∷ held) page → ⊥
none_more page d held other none (zero, x, h, e, p) =
    let is : d.name.page ≡ page = ap (λ (w : DrawopValue). w.name.page) e ∙ p in
    true≢false (sym (same_itself page) ∙ ap (λ (q : PageId). same_page q page) (sym is) ∙ other)
none_more page d held other none (suc k, x, h, e, p) = none (k, x, omega arith, e, p)

last_at : (page : PageId) (first last : ℕ) (held : List DrawopValue) → LastAt page first last held
last_at page first last [] = inl (refl, λ found. absurd (omega (arith, found.2)))
last_at page first last (d ∷ held) = by (λ known. last_at page (first + 1) known held) (same_page d.name.page page) refl where
  here : ℕ → ℕ
  here known = last_from page (first + 1) known held

  by : ((known : ℕ) → LastAt page (first + 1) known held) → (t : Bool) → same_page d.name.page page ≡ t → LastAt page first last (d ∷ held)
  by rest true same =
      let goes : last_from page first last (d ∷ held) ≡ here first = ap (λ (t : Bool). here (if t then first else last)) same in
      inr (subst (λ (v : ℕ). Found page first v (d ∷ held)) (sym goes) (⊎_elim
      (λ (none : (here first ≡ first) × (IsIn held page → ⊥)). let f : Found page first (here first) (d ∷ held) = record { at = 0; within = omega arith; on = λ _. same_page-is d.name.page page same; is = omega (arith, none.0) } in f)
      (λ (f : Found page (first + 1) (here first) held). one_more page first (here first) d held f)
      (rest first)))
  by rest false other =
      let goes : last_from page first last (d ∷ held) ≡ here last = ap (λ (t : Bool). here (if t then first else last)) other in
      ⊎_elim
      (λ (none : (here last ≡ last) × (IsIn held page → ⊥)). let r : LastAt page first last (d ∷ held) = inl (goes ∙ none.0, none_more page d held other none.1) in r)
      (λ (f : Found page (first + 1) (here last) held). let r : LastAt page first last (d ∷ held) = inr (subst (λ (v : ℕ). Found page first v (d ∷ held)) (sym goes) (one_more page first (here last) d held f)) in r)
      (rest last)

found : (page : PageId) (held : List DrawopValue) → IsIn held page → Found page 0 (last_on page held) held
found page held is = ⊎_elim (λ (none : (last_on page held ≡ 0) × (IsIn held page → ⊥)). absurd (none.1 is)) (λ (f : Found page 0 (last_on page held) held). f) (last_at page 0 0 held)

-- the last drawops of two pages do not stand at one place
one_page : (p q : PageId) (held : List DrawopValue) → IsIn held p → IsIn held q → last_on p held ≡ last_on q held → p ≡ q
one_page p q held one other e =
    let f = found p held one in
    let g = found q held other in
    let same : f.at ≡ g.at = omega (arith, f.is, g.is, e) in
    sym (f.on one.1) ∙ ap (λ (k : ℕ). (get_or held k one.1).name.page) same ∙ g.on one.1

-- ---- what is listed of the pages does not tie

module _ (me : ℕ) (given : List Given) (held : List DrawopValue) where
  abbrev one_of : PageId → Listed
  one_of page = listed me given held page

  ties_alone : (p q : PageId) → IsIn held p → IsIn held q → eq_by_cmp listing_cmp (one_of p) (one_of q) ≡ true → p ≡ q
  ties_alone p q one other tie =
      let both = and_both _ _ (sym (then_is (nat_cmp (place_of (one_of p).rank) (place_of (one_of q).rank)) (nat_cmp (last_on q held) (last_on p held))) ∙ tie) in
      one_page p q held one other (sym (eqb-true (last_on q held) (last_on p held) (nat_ties (last_on q held) (last_on p held) ∙ both.1)))

  not_below : (p q : PageId) → page_cmp p q ≡ Less → p ≡ q → ⊥
  not_below p q less e = let l : page_cmp q q ≡ Less = subst (λ (w : PageId). page_cmp w q ≡ Less) e less in absurd (grind (arith, common_steps, l))

  apart : (p q : PageId) → page_cmp p q ≡ Less → IsIn held p → IsIn held q → eq_by_cmp listing_cmp (one_of p) (one_of q) ≡ false
  apart p q less one other = by (eq_by_cmp listing_cmp (one_of p) (one_of q)) refl where
    by : (t : Bool) → eq_by_cmp listing_cmp (one_of p) (one_of q) ≡ t → t ≡ false
    by false e = refl
    by true e = absurd (not_below p q less (ties_alone p q one other e))

  all_apart : (pages : List PageId) → IsStrictlySortedBy page_cmp pages → ((p : PageId) → Contains pages p → IsIn held p) → AllPairs (λ x y. eq_by_cmp listing_cmp x y ≡ false) (map one_of pages)
  all_apart [] rising is = λ i j d one other. absurd (omega arith)
  all_apart (p ∷ pages) rising is =
      let later : All (λ q. eq_by_cmp listing_cmp (one_of p) (one_of q) ≡ false) pages = All-from_get_or (λ q. eq_by_cmp listing_cmp (one_of p) (one_of q) ≡ false) pages p (λ i within.
      let there : Contains pages (get_or pages i p) = All-get_or (Contains pages) pages i p within (All-contains_itself pages) in
      apart p (get_or pages i p) (below_all page_total p (get_or pages i p) pages rising there) (is p (Contains-here p pages)) (is (get_or pages i p) (Contains-there p (get_or pages i p) pages there))) in
      AllPairs-cons (λ x y. eq_by_cmp listing_cmp x y ≡ false) (one_of p) (map one_of pages) (All-map (λ x. eq_by_cmp listing_cmp (one_of p) x ≡ false) one_of pages later)
      (all_apart pages (sorted_tail page_cmp p pages rising) (λ q there. is q (Contains-there p q pages there)))

  listed_apart : AllPairs (λ x y. eq_by_cmp listing_cmp x y ≡ false) (map one_of (pages_of held))
  listed_apart = all_apart (pages_of held) (pages_of_history held).rising (λ p there. ((pages_of_history held).members p).0 there)

-- two members of a list that do not tie with others tie with themselves alone
tie_is_one : (xs : List Listed) → AllPairs (λ x y. eq_by_cmp listing_cmp x y ≡ false) xs → (x y : Listed) → Contains xs x → Contains xs y → listing_cmp x y ≡ Equal → x ≡ y
tie_is_one xs apart x y (i, one, at) (j, other, there) e = by (nat_lt i j) (nat_lt j i) refl refl where
  flipped : listing_cmp y x ≡ Equal
  flipped = listing_total.antisymm y x ∙ ap ordering_reverse e

  no_tie : (v w : Listed) → eq_by_cmp listing_cmp v w ≡ false → listing_cmp v w ≡ Equal → ⊥
  no_tie v w no_such tie = true≢false (sym (ap is_eq tie) ∙ no_such)

  by : (before after : Bool) → nat_lt i j ≡ before → nat_lt j i ≡ after → x ≡ y
  by true after lt _ =
      let is : eq_by_cmp listing_cmp (get_or xs i x) (get_or xs j x) ≡ false = apart i j x (grind (arith, nat_tests, lt)) other in
      let same : get_or xs j x ≡ y = get_or_default xs j x y other ∙ there in
      absurd (no_tie x y (sym (ap (λ v. eq_by_cmp listing_cmp v y) at) ∙ sym (ap (λ v. eq_by_cmp listing_cmp (get_or xs i x) v) same) ∙ is) e)
  by false true _ gt =
      let is : eq_by_cmp listing_cmp (get_or xs j y) (get_or xs i y) ≡ false = apart j i y (grind (arith, nat_tests, gt)) one in
      let same : get_or xs i y ≡ x = get_or_default xs i y x one ∙ at in
      absurd (no_tie y x (sym (ap (λ v. eq_by_cmp listing_cmp v x) there) ∙ sym (ap (λ v. eq_by_cmp listing_cmp (get_or xs j y) v) same) ∙ is) flipped)
  by false false low high =
      let one_place : i ≡ j = grind (arith, nat_tests, low, high) in
      sym at ∙ get_or_default xs i x y one ∙ ap (λ k. get_or xs k y) one_place ∙ there

filter_all : {X : Type 0} (xs : List X) → filter (λ x. true) xs ≡ xs
filter_all [] = refl
filter_all (x ∷ xs) = ap (λ t. x ∷ t) (filter_all xs)

-- a sorted rearrangement of what is listed
one_listing : (h : Judged) (all : List Listed) → IsPermutation (all_listed h) all → IsSortedBy is_listed_before all → all ≡ sorted listing_cmp (all_listed h)
one_listing h all moved up =
    let xs = all_listed h in
    let apart = listed_apart h.judge.me h.judge.strange.given h.kept.host.is.held in
    let passed = filter_all xs in
    let lists = lists_from_sorted listing_total (λ _. true) xs all (subst (AllPairs (λ x y. eq_by_cmp listing_cmp x y ≡ false)) (sym passed) apart) (subst (λ t. IsPermutation t all) (sym passed) moved) (as_sorted all up) in
    one_list listing_total (Contains xs) all (sorted listing_cmp xs) (lists_same listing_total _ (Contains xs) all (λ x c. c.0) (λ x c. (c, refl)) lists) (lists_sorted listing_total xs (tie_is_one xs apart))

pub listed_are : (most : ℕ) (h : Judged) (pages : List Listed) → AreListed most h pages → pages ≡ listed_first most h
listed_are most h pages are = are.3 ∙ ap (take most) (one_listing h are.0 are.1 are.2)
