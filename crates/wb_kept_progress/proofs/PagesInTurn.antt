-- The pages of a board in the order in which they have their turn, and sums over some of them.
use Rattle.std.proofs.Common.{◌≡◌, ℕ, suc, ◌+◌, ◌≤◌, Bool, true, false, cond, List, [], ◌∷◌, ◌∙◌, Option, Some, None, ap, arith, inl, inr, length, refl, subst, sym, true≢false, ⊎_elim}
use Rattle.std.specs.Prelude.{◌⊎◌, ◌&&◌, ◌||◌, Contains, not, unwrap_or}
use Rattle.std.specs.List.{find, sum_by}
use Rattle.std.specs.List.Sorted.{IsStrictlySortedBy}
use Rattle.std.specs.Option.{option_or}
use Rattle.std.specs.Ordering.{is_eq, is_lt, ordering_reverse}
use Rattle.std.specs.declared.cmp.Ordering.{Ordering}
use Rattle.std.specs.declared.cmp.Ordering.TheVariants.{Less, Equal, Greater}
use Rattle.std.proofs.lemmas.List.Sums.{sum_by-cons}
use Rattle.std.proofs.lemmas.Map.Keys.{sorted_tail}
use Rattle.std.proofs.lemmas.Option.{same_Some, none-some}
use Rattle.wb_names.specs.Orders.{page_cmp}
use Rattle.wb_names.specs.declared.name.PageId.{PageId}
use Rattle.wb_names.proofs.Listings.{Contains-cases, Contains-here, Contains-none, Contains-there, below_all}
use Rattle.wb_names.proofs.Orders.{page_total}
use Rattle.wb_gaps.proofs.Starts.{is_less, page_is, page_itself}
use Rattle.wb_policy.specs.Reports.{is_after, page_after}
use Rattle.wb_policy.specs.Turns.{nowhere}

-- ---- sums over the elements that pass a test

module _ {X : Type 0} (f : X → ℕ) where
  abbrev pub sum_where : (X → Bool) → List X → ℕ
  sum_where p [] = 0
  sum_where p (x ∷ xs) = cond (p x) (f x) 0 + sum_where p xs

  -- a test that passes less gives no more
  less_where : (p q : X → Bool) (xs : List X) → ((x : X) → q x ≡ true → p x ≡ true) → sum_where q xs ≤ sum_where p xs
  less_where p q [] implies = omega arith
  less_where p q (x ∷ xs) implies = by (p x) (q x) refl refl (less_where p q xs implies) where
    by : (a b : Bool) → p x ≡ a → q x ≡ b → sum_where q xs ≤ sum_where p xs → cond b (f x) 0 + sum_where q xs ≤ cond a (f x) 0 + sum_where p xs
    by true true e g le = omega (arith, le)
    by true false e g le = omega (arith, le)
    by false true e g le = absurd (true≢false (sym (implies x g) ∙ e))
    by false false e g le = omega (arith, le)

  -- and less by an element that passes the other alone
  pub fewer_where : (p q : X → Bool) (xs : List X) (x : X) → ((x : X) → q x ≡ true → p x ≡ true) → Contains xs x → p x ≡ true → q x ≡ false → sum_where q xs + f x ≤ sum_where p xs
  fewer_where p q [] x implies there passes fails = absurd (Contains-none x there)
  fewer_where p q (y ∷ ys) x implies there passes fails = ⊎_elim
      (λ (e : y ≡ x). here (p y) (q y) (ap p e ∙ passes) (ap q e ∙ fails) (ap f e) (less_where p q ys implies))
      (λ (c : Contains ys x). later (p y) (q y) refl refl (fewer_where p q ys x implies c passes fails))
      (Contains-cases y x ys there) where
        here : (a b : Bool) → a ≡ true → b ≡ false → f y ≡ f x → sum_where q ys ≤ sum_where p ys → cond b (f y) 0 + sum_where q ys + f x ≤ cond a (f y) 0 + sum_where p ys
        here true false e g same le = omega (arith, same, le)
        here false b e g same le = absurd (true≢false (sym e))
        here true true e g same le = absurd (true≢false g)

        later : (a b : Bool) → p y ≡ a → q y ≡ b → sum_where q ys + f x ≤ sum_where p ys → cond b (f y) 0 + sum_where q ys + f x ≤ cond a (f y) 0 + sum_where p ys
        later true true e g le = omega (arith, le)
        later true false e g le = omega (arith, le)
        later false true e g le = absurd (true≢false (sym (implies y g) ∙ e))
        later false false e g le = omega (arith, le)

  -- one that passes is at most the sum
  pub one_where : (p : X → Bool) (xs : List X) (x : X) → Contains xs x → p x ≡ true → f x ≤ sum_where p xs
  one_where p xs x there passes =
      let more = fewer_where p (λ y. false) xs x (λ y e. absurd (true≢false (sym e))) there passes refl in
      omega (arith, more)

  pub all_where : (p : X → Bool) (xs : List X) → sum_where p xs ≤ sum_by f xs
  all_where p [] = omega arith
  all_where p (x ∷ xs) = let rest = all_where p xs in let one = sum_by-cons f x xs in by (p x) rest one where
    by : (b : Bool) → sum_where p xs ≤ sum_by f xs → sum_by f (x ∷ xs) ≡ f x + sum_by f xs → cond b (f x) 0 + sum_where p xs ≤ sum_by f (x ∷ xs)
    by true le e = omega (arith, le, e)
    by false le e = omega (arith, le, e)

pub count_where : {X : Type 0} (p : X → Bool) (xs : List X) → sum_where (λ x. 1) p xs ≤ length xs
count_where {X} p [] = omega arith
count_where {X} p (x ∷ xs) = by (p x) (count_where p xs) where
  by : (b : Bool) → sum_where (λ x. 1) p xs ≤ length xs → cond b 1 0 + sum_where (λ x. 1) p xs ≤ suc (length xs)
  by true le = omega (arith, le)
  by false le = omega (arith, le)

-- ---- the order of pages

not_behind : (p q : PageId) → page_cmp p q ≡ Less → is_after q p ≡ false
not_behind p q less = ap is_lt (page_total.antisymm q p ∙ ap ordering_reverse less)

behind : (p q : PageId) → page_cmp p q ≡ Greater → is_after q p ≡ true
behind p q greater = ap is_lt (page_total.antisymm q p ∙ ap ordering_reverse greater)

after_both : (p q r : PageId) → is_after p q ≡ true → is_after q r ≡ true → is_after p r ≡ true
after_both p q r e f = ap is_lt (page_total.trans p q r (is_less (page_cmp p q) e) (is_less (page_cmp q r) f))

-- neither is after the other
apart : (p q : PageId) → is_after p q ≡ false → is_after q p ≡ false → p ≡ q
apart p q e f = by (page_cmp p q) refl where
  by : (o : Ordering) → page_cmp p q ≡ o → p ≡ q
  by Less is = absurd (true≢false (sym (ap is_lt is) ∙ e))
  by Equal is = page_is p q (ap is_eq is)
  by Greater is = absurd (true≢false (sym (behind p q is) ∙ f))

itself : (p : PageId) → is_after p p ≡ false
itself p = ap is_lt (page_itself p)

-- ---- pages between two others, in the cycle in which they have their turn

-- after the first, and up to the other
abbrev pub is_between : PageId → PageId → PageId → Bool
is_between from to page = cond (is_after from to) (is_after from page && not (is_after to page)) (is_after from page || not (is_after to page))

first_of_both : (a b : Bool) → (a && not b) ≡ true → a ≡ true
first_of_both true b e = refl
first_of_both false b e = e

second_of_both : (a b : Bool) → (a && not b) ≡ true → b ≡ false
second_of_both true true e = absurd (true≢false (sym e))
second_of_both true false e = refl
second_of_both false b e = absurd (true≢false (sym e))

one_of_both : (a b : Bool) → (a || not b) ≡ true → (a ≡ true) ⊎ (b ≡ false)
one_of_both true b e = inl refl
one_of_both false true e = absurd (true≢false (sym e))
one_of_both false false e = inr refl

are_both : (a b : Bool) → a ≡ true → b ≡ false → (a && not b) ≡ true
are_both a b e f = ap (λ (c : Bool). c && not b) e ∙ ap not f

is_first : (a b : Bool) → a ≡ true → (a || not b) ≡ true
is_first a b e = ap (λ (c : Bool). c || not b) e

is_second : (a b : Bool) → b ≡ false → (a || not b) ≡ true
is_second true b f = refl
is_second false b f = ap not f

module _ (from to : PageId) where
  abbrev by_order : PageId → Bool → Bool
  by_order page b = cond b (is_after from page && not (is_after to page)) (is_after from page || not (is_after to page))

  between_up : (page : PageId) → is_after from to ≡ true → is_after from page ≡ true → is_after to page ≡ false → is_between from to page ≡ true
  between_up page up e f = ap (by_order page) up ∙ are_both (is_after from page) (is_after to page) e f

  between_behind : (page : PageId) → is_after from to ≡ false → is_after from page ≡ true → is_between from to page ≡ true
  between_behind page down e = ap (by_order page) down ∙ is_first (is_after from page) (is_after to page) e

  between_first : (page : PageId) → is_after from to ≡ false → is_after to page ≡ false → is_between from to page ≡ true
  between_first page down f = ap (by_order page) down ∙ is_second (is_after from page) (is_after to page) f

  -- what that says
  pub reaches : is_between from to to ≡ true
  reaches = by (is_after from to) refl where
    by : (b : Bool) → is_after from to ≡ b → is_between from to to ≡ true
    by true e = between_up to e e (itself to)
    by false e = between_first to e (itself to)

  -- from one of them on there are fewer
  module _ (page : PageId) (there : is_between from to page ≡ true) (differ : page ≡ to → ⊥) where
    pub begins_behind : is_between page to page ≡ false
    begins_behind = by (is_after page to) refl where
      by : (b : Bool) → is_after page to ≡ b → is_between page to page ≡ false
      by true e = ap (λ (c : Bool). cond c (is_after page page && not (is_after to page)) (is_after page page || not (is_after to page))) e ∙ ap (λ (c : Bool). c && not (is_after to page)) (itself page)
      by false e = last (is_after to page) refl where
        last : (c : Bool) → is_after to page ≡ c → is_between page to page ≡ false
        last true f =
            ap (λ (c : Bool). cond c (is_after page page && not (is_after to page)) (is_after page page || not (is_after to page))) e
            ∙ ap (λ (c : Bool). c || not (is_after to page)) (itself page) ∙ ap not f
        last false f = absurd (differ (apart page to e f))

    pub goes_on : (other : PageId) → is_between page to other ≡ true → is_between from to other ≡ true
    goes_on other later = up_or_down (is_after from to) refl where
      -- what stands between them, by their order
      up : is_after page to ≡ true → (is_after page other ≡ true) × (is_after to other ≡ false)
      up e =
          let both = sym (ap (λ (c : Bool). cond c (is_after page other && not (is_after to other)) (is_after page other || not (is_after to other))) e) ∙ later in
          (first_of_both (is_after page other) (is_after to other) both, second_of_both (is_after page other) (is_after to other) both)

      down : is_after page to ≡ false → (is_after page other ≡ true) ⊎ (is_after to other ≡ false)
      down e = one_of_both (is_after page other) (is_after to other) (sym (ap (λ (c : Bool). cond c (is_after page other && not (is_after to other)) (is_after page other || not (is_after to other))) e) ∙ later)

      -- the page is not the last
      not_last : is_after page to ≡ false → is_after to page ≡ false → ⊥
      not_last e f = differ (apart page to e f)

      up_or_down : (b : Bool) → is_after from to ≡ b → is_between from to other ≡ true
      up_or_down true e = on (is_after page to) refl where
        both : (is_after from page && not (is_after to page)) ≡ true
        both = sym (ap (by_order page) e) ∙ there

        on : (c : Bool) → is_after page to ≡ c → is_between from to other ≡ true
        on true f = let u = up f in between_up other e (after_both from page other (first_of_both (is_after from page) (is_after to page) both) u.0) u.1
        on false f = absurd (not_last f (second_of_both (is_after from page) (is_after to page) both))
      up_or_down false e = on (is_after page to) refl where
        on : (c : Bool) → is_after page to ≡ c → is_between from to other ≡ true
        on true f = between_first other e (up f).1
        on false f = ⊎_elim
            (λ (g : is_after from page ≡ true). ⊎_elim
            (λ (h : is_after page other ≡ true). between_behind other e (after_both from page other g h))
            (λ (h : is_after to other ≡ false). between_first other e h)
            (down f))
            (λ (g : is_after to page ≡ false). absurd (not_last f g))
            (one_of_both (is_after from page) (is_after to page) (sym (ap (by_order page) e) ∙ there))

-- ---- the next page of a board

-- the first of some pages that passes
record IsFirst (p : PageId → Bool) (pages : List PageId) (page : PageId) : Type 0 where
  there : Contains pages page
  passes : p page ≡ true
  least : (other : PageId) → Contains pages other → p other ≡ true → is_after other page ≡ false

found : (p : PageId → Bool) (pages : List PageId) (page : PageId) → IsStrictlySortedBy page_cmp pages → find p pages ≡ Some page → IsFirst p pages page
found p [] page rising e = absurd (none-some page e)
found p (q ∷ pages) page rising e = by (p q) refl e (λ e. found p pages page (sorted_tail page_cmp q pages rising) e) where
  by : (b : Bool) → p q ≡ b → cond b (Some q) (find p pages) ≡ Some page → (find p pages ≡ Some page → IsFirst p pages page) → IsFirst p (q ∷ pages) page
  by true is e rest = subst (λ (r : PageId). IsFirst p (q ∷ pages) r) (same_Some q page e) (record {
    there = Contains-here q pages;
    passes = is;
    least = λ other c other_yes. ⊎_elim
        (λ (same : q ≡ other). subst (λ (r : PageId). is_after r q ≡ false) same (itself q))
        (λ (c : Contains pages other). not_behind q other (below_all page_total q other pages rising c))
        (Contains-cases q other pages c);
  })
  by false fails e rest =
      let f = rest e in
      record {
        there = Contains-there q page pages f.there;
        passes = f.passes;
        least = λ other c other_yes. ⊎_elim
            (λ (same : q ≡ other). absurd (true≢false (sym other_yes ∙ ap p (sym same) ∙ fails)))
            (λ (c : Contains pages other). f.least other c other_yes)
            (Contains-cases q other pages c);
      }

none_passes : (p : PageId → Bool) (pages : List PageId) → find p pages ≡ None → (page : PageId) → Contains pages page → p page ≡ false
none_passes p [] e page c = absurd (Contains-none page c)
none_passes p (q ∷ pages) e page c = by (p q) refl e (λ e c. none_passes p pages e page c) where
  by : (b : Bool) → p q ≡ b → cond b (Some q) (find p pages) ≡ None → (find p pages ≡ None → Contains pages page → p page ≡ false) → p page ≡ false
  by true passes e rest = absurd (none-some q (sym e))
  by false fails e rest = ⊎_elim
      (λ (same : q ≡ page). ap p (sym same) ∙ fails)
      (λ (c : Contains pages page). rest e c)
      (Contains-cases q page pages c)

-- it is one of them, and none of them stands between the last and it
pub next_page : (from to : PageId) (pages : List PageId) → IsStrictlySortedBy page_cmp pages → Contains pages to
    → Contains pages (page_after from pages) × (is_between from to (page_after from pages) ≡ true)
next_page from to [] rising there = absurd (Contains-none to there)
next_page from to (q ∷ pages) rising there = by (find (is_after from) (q ∷ pages)) refl where
  by : (o : Option PageId) → find (is_after from) (q ∷ pages) ≡ o
      → Contains (q ∷ pages) (unwrap_or (option_or o (Some q)) nowhere) × (is_between from to (unwrap_or (option_or o (Some q)) nowhere) ≡ true)
  by None e = (
    Contains-here q pages,
    between_first from to q (none_passes (is_after from) (q ∷ pages) e to there) (⊎_elim
        (λ (same : q ≡ to). subst (λ (r : PageId). is_after r q ≡ false) same (itself q))
        (λ (c : Contains pages to). not_behind q to (below_all page_total q to pages rising c))
        (Contains-cases q to pages there)),
  )
  by (Some page) e =
      let f = found (is_after from) (q ∷ pages) page rising e in
      (f.there, up_or_down (is_after from to) refl f) where
        up_or_down : (b : Bool) → is_after from to ≡ b → IsFirst (is_after from) (q ∷ pages) page → is_between from to page ≡ true
        up_or_down true g f = between_up from to page g f.passes (f.least to there g)
        up_or_down false g f = between_behind from to page g f.passes
