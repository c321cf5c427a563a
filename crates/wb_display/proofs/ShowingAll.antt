-- Many drawops are shown or hidden at once.
use Rattle.std.proofs.Common.{◌≡◌, ℕ, ◌<◌, ◌≤◌, List, [], ◌∷◌, ◌++◌, length, take, drop, refl, ap, ◌∙◌, sym, subst, arith, ◌⊎◌, inl, inr, ⊎_elim}
use Rattle.std.specs.Prelude.{Bool, true, false, cond, not, All, ◌&&◌, Contains, filter, IsPermutation, Result, Ok, Err, is_ok}
use Rattle.std.specs.Cmp.{eq_by_cmp_equiv, Equal-is}
use Rattle.std.specs.List.{dedup}
use Rattle.std.specs.List.Sorted.{IsStrictlySortedBy, IsSorted}
use Rattle.std.specs.Ordering.{eq_by_cmp, is_eq}
use Rattle.std.proofs.lemmas.Bool.{cases_lt, and_parts, not-true, not_from_false, and_from}
use Rattle.std.proofs.lemmas.List.{take_all, take-append-le}
use Rattle.std.proofs.lemmas.List.Elements.{All-contains}
use Rattle.std.proofs.lemmas.List.Folds.{list_any_none, list_any_at, Any-from_list_any}
use Rattle.std.proofs.lemmas.List.Kept.{Any-dedup, Contains-from_dedup, IsStrictlySortedBy-dedup}
use Rattle.std.proofs.lemmas.List.Sorted.{Contains-permutation, IsPermutation-sym}
use Rattle.wb_names.specs.Values.{DrawopValue}
use Rattle.wb_names.specs.Orders.{display_cmp}
use Rattle.wb_names.specs.Listing.{Lists}
use Rattle.wb_names.proofs.Listings.{Contains-here, Contains-there, Contains-filter, Contains-from_filter}
use Rattle.wb_display.specs.DisplayList.{IsPlaceOf, AreApart, Enters, ShowsOthers, TieOnce, ties_with}
use Rattle.wb_display.proofs.Deciding.{display_total, list_any_here}

-- what a search finds is whether something ties
pub placed_is : (list : List DrawopValue) (d : DrawopValue) (r : Result ℕ ℕ) → IsPlaceOf list d r → IsStrictlySortedBy display_cmp list → is_ok r ≡ ties_with list d
placed_is list d (Ok i) place up = sym (list_any_at (λ x. is_eq (display_cmp x d)) list i d place.0 (ap is_eq (place.1 d)))
placed_is list d (Err i) place up = sym (list_any_none (λ x. is_eq (display_cmp x d)) list (λ k e h. ⊎_elim (λ (lt : k < i). ap is_eq ((place.1 up).0 k e (omega arith) lt)) (λ (ge : i ≤ k). ap is_eq ((place.1 up).1 k e ge h)) (cases_lt k i)))

-- what passes and ties with nothing, sorted and each kept once
pub enters : (passes : DrawopValue → Bool) (list touched sorted entering : List DrawopValue)
    → IsPermutation (filter (λ x. passes x && not (ties_with list x)) touched) sorted → IsSorted display_cmp sorted → entering ≡ dedup (eq_by_cmp display_cmp) sorted → Enters passes list touched entering
enters passes list touched sorted entering moved up is = rw is (record {
  rising = IsStrictlySortedBy-dedup display_total (λ x y. refl) sorted up;
  from = λ x c.
      let f = Contains-from_filter (λ x. passes x && not (ties_with list x)) touched x (Contains-permutation sorted _ x (IsPermutation-sym _ _ moved) (Contains-from_dedup (eq_by_cmp display_cmp) sorted x c)) in
      let p = and_parts (passes x) _ f.1 in
      (f.0, p.0, not-true _ p.1);
  all = λ x c p t. Any-dedup (eq_by_cmp_equiv display_total) sorted x (Contains-permutation _ sorted x moved (Contains-filter (λ x. passes x && not (ties_with list x)) touched x c (and_from _ _ p (not_from_false _ t))));
})

-- a test that all pass leaves the list
pub filter_whole : (p : DrawopValue → Bool) (xs : List DrawopValue) → ((x : DrawopValue) → Contains xs x → p x ≡ true) → xs ≡ filter p xs
filter_whole p [] all = refl
filter_whole p (x ∷ xs) all =
    ap (λ (ys : List DrawopValue). x ∷ ys) (filter_whole p xs (λ y c. all y (Contains-there x y xs c)))
    ∙ sym (ap (λ (b : Bool). cond b (x ∷ filter p xs) (filter p xs)) (all x (Contains-here x xs)))

-- where all that was touched is shown, all else was shown before
pub none_hidden : (passes : DrawopValue → Bool) (list touched : List DrawopValue) → ShowsOthers passes list touched → All (λ x. passes x ≡ true) touched → list ≡ filter passes list
none_hidden passes list touched others all = filter_whole passes list (λ x c. at x c (passes x) refl) where
  at : (x : DrawopValue) → Contains list x → (b : Bool) → passes x ≡ b → passes x ≡ true
  at x c true e = e
  at x c false e = others x c (λ t. let f : true ≡ false = sym (All-contains (λ y. passes y ≡ true) touched x all t) ∙ e in cc)

-- what is hidden has left, and what is shown has entered
pub all_shown : (passes : DrawopValue → Bool) (old touched entering new : List DrawopValue)
    → TieOnce old touched → Enters passes (filter passes old) touched entering
    → Lists display_cmp (λ x. Contains (filter passes old) x ⊎ Contains entering x) new
    → Lists display_cmp (λ x. (Contains old x ⊎ Contains touched x) × (passes x ≡ true)) new
all_shown passes old touched entering new once enter listed = record {
  rising = listed.rising;
  members = λ x. ((λ c. to x ((listed.members x).0 c)), (λ s. (listed.members x).1 (from x s.0 s.1)));
} where
  to : (x : DrawopValue) → Contains (filter passes old) x ⊎ Contains entering x → (Contains old x ⊎ Contains touched x) × (passes x ≡ true)
  to x (inl c) = let f = Contains-from_filter passes old x c in (inl f.0, f.1)
  to x (inr c) = let f = enter.from x c in (inr f.0, f.1)

  fresh : (x : DrawopValue) → Contains touched x → passes x ≡ true → (b : Bool) → ties_with (filter passes old) x ≡ b → Contains (filter passes old) x ⊎ Contains entering x
  fresh x c p true t =
      let found = Any-from_list_any (λ y. is_eq (display_cmp y x)) (filter passes old) t in
      let y = found.1 in
      let cy : Contains (filter passes old) y = (found.0, found.2, found.3) in
      let is : y ≡ x = once y x (inl (Contains-from_filter passes old y cy).0) (inr c) ((Equal-is _).0 found.4) in
      inl (subst (Contains (filter passes old)) is cy)
  fresh x c p false t =
      let found = enter.all x c p t in
      let y = found.1 in
      let cy : Contains entering y = (found.0, found.2, found.3) in
      let is : x ≡ y = once x y (inr c) (inr (enter.from y cy).0) ((Equal-is _).0 found.4) in
      inr (subst (Contains entering) (sym is) cy)

  from : (x : DrawopValue) → Contains old x ⊎ Contains touched x → passes x ≡ true → Contains (filter passes old) x ⊎ Contains entering x
  from x (inl c) p = inl (Contains-filter passes old x c p)
  from x (inr c) p = fresh x c p (ties_with (filter passes old) x) refl

pub apart_from_enters : (passes : DrawopValue → Bool) (list touched entering : List DrawopValue) → Enters passes list touched entering → AreApart list entering
apart_from_enters passes list touched entering enter x y cx cy tie = let f : true ≡ false = sym (list_any_here (λ z. is_eq (display_cmp z y)) list x cx (ap is_eq tie)) ∙ (enter.from y cy).2 in cc

-- a list that grew, and was then merged in place
pub merged_in_place : (xs ys items now new : List DrawopValue) (front len : ℕ) → now ≡ items → items ≡ xs ++ ys → front ≡ length xs → length new ≡ length now → len ≡ length items
    → Lists display_cmp (λ x. Contains (take front now) x ⊎ Contains ys x) new → Lists display_cmp (λ x. Contains xs x ⊎ Contains ys x) (take len (new ++ drop (length new) items))
merged_in_place xs ys items now new front len same grown at long all listed =
    let e : take front now ≡ xs = ap (take front) (same ∙ grown) ∙ take-append-le front xs ys (omega arith) ∙ take_all front xs (omega arith) in
    let n : length now ≡ length items = ap length same in
    let f : take len (new ++ drop (length new) items) ≡ new = take-append-le len new (drop (length new) items) (omega arith) ∙ take_all len new (omega arith) in
    subst (λ (zs : List DrawopValue). Lists display_cmp (λ x. Contains xs x ⊎ Contains ys x) zs) (sym f) (subst (λ (zs : List DrawopValue). Lists display_cmp (λ x. Contains zs x ⊎ Contains ys x) new) e listed)
