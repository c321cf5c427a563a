-- Drawops that enter a list in the order of display, or leave it.
use Rattle.std.proofs.Common.{◌≡◌, ℕ, ◌+◌, ◌-◌, ◌<◌, ◌≤◌, List, [], ◌∷◌, ◌++◌, length, get_or, take, drop, refl, ap, ◌∙◌, sym, subst, arith, ⊎_elim, ◌⊎◌, inl, inr, add-one, drop-cons}
use Rattle.std.specs.Prelude.{true, false, Contains, insert, remove, Result, Ok, Err, ◌↔◌}
use Rattle.std.specs.declared.cmp.Ordering.{Ordering}
use Rattle.std.specs.declared.cmp.Ordering.TheVariants.{Less, Equal, Greater}
use Rattle.std.specs.List.{HoldsAt}
use Rattle.std.specs.List.Sorted.{IsStrictlySortedBy, IsSorted, IsPartitionPoint, IsSearchInRange, IsBinarySearchResult}
use Rattle.std.specs.Ordering.{is_lt, ordering_reverse}
use Rattle.std.proofs.lemmas.Bool.{cases_lt}
use Rattle.std.proofs.lemmas.Cmp.{tied_itself}
use Rattle.std.proofs.lemmas.List.{get_or_default, get_or-take, get_or-drop, take-append-drop, length-take, length-drop}
use Rattle.std.proofs.lemmas.List.Elements.{Contains-get_or, Contains-append_left, Contains-append_right, Contains-append_cases, recursion_from_All}
use Rattle.std.proofs.lemmas.List.Sorted.{searchable_from_sorted}
use Rattle.std.proofs.lemmas.Map.Keys.{Less-from_sorted, sorted_tail}
use Rattle.wb_names.specs.Values.{DrawopValue}
use Rattle.wb_names.specs.Orders.{display_cmp}
use Rattle.wb_names.proofs.Listings.{Contains-here, Contains-there, Contains-cases, Contains-none, below_all}
use Rattle.wb_display.specs.DisplayList.{IsPlaceOf, SetsShown, TiesAlone}
use Rattle.wb_display.proofs.Deciding.{display_total}

-- in order, each is below all later ones, and not below itself
after : (xs : List DrawopValue) (i j : ℕ) (d : DrawopValue) → IsStrictlySortedBy display_cmp xs → i < j → j < length xs → display_cmp (get_or xs i d) (get_or xs j d) ≡ Less
after xs i j d up lt h = Less-from_sorted display_cmp xs i j d up lt h

turned : (r s : Ordering) → r ≡ ordering_reverse s → r ≡ Greater → s ≡ Less
turned r Less e f = refl
turned r s e f = cc

not_lower : (r s : Ordering) → r ≡ ordering_reverse s → s ≡ Less → is_lt r ≡ false
not_lower r s e f = ap is_lt (e ∙ ap ordering_reverse f)

sorted_from_rising : (xs : List DrawopValue) → IsStrictlySortedBy display_cmp xs → IsSorted display_cmp xs
sorted_from_rising xs up k d lo h = not_lower _ _ (display_total.antisymm (get_or xs (k + 1) d) (get_or xs k d)) (after xs k (k + 1) d up (omega arith) h)

-- ---- a list with e somewhere in it: its members, and when it is in order

pub middle : (p d : List DrawopValue) (e x : DrawopValue) → Contains (p ++ e ∷ d) x ↔ ((e ≡ x) ⊎ Contains (p ++ d) x)
middle p d e x = (
  λ c. ⊎_elim (λ (a : Contains p x). inr (Contains-append_left p d x a)) (λ (b : Contains (e ∷ d) x). ⊎_elim (λ (f : e ≡ x). inl f) (λ (r : Contains d x). inr (Contains-append_right p d x r)) (Contains-cases e x d b)) (Contains-append_cases p (e ∷ d) x c),
  λ s. ⊎_elim (λ (f : e ≡ x). Contains-append_right p (e ∷ d) x (subst (Contains (e ∷ d)) f (Contains-here e d))) (λ (c : Contains (p ++ d) x). ⊎_elim (λ (a : Contains p x). Contains-append_left p (e ∷ d) x a) (λ (b : Contains d x). Contains-append_right p (e ∷ d) x (Contains-there e x d b)) (Contains-append_cases p d x c)) s,
)

rises_onto : (x : DrawopValue) (xs : List DrawopValue) → ((y : DrawopValue) → Contains xs y → display_cmp x y ≡ Less) → IsStrictlySortedBy display_cmp xs → IsStrictlySortedBy display_cmp (x ∷ xs)
unfolding IsStrictlySortedBy
rises_onto x xs below up = (recursion_from_All (λ y. display_cmp x y ≡ Less) xs (λ k d h. below (get_or xs k d) (Contains-get_or xs k d h)), up)

pub rises_around : (p d : List DrawopValue) (e : DrawopValue) → IsStrictlySortedBy display_cmp (p ++ e ∷ d)
    → ((x : DrawopValue) → Contains p x → display_cmp x e ≡ Less) × ((x : DrawopValue) → Contains d x → display_cmp e x ≡ Less) × IsStrictlySortedBy display_cmp (p ++ d)
rises_around [] d e up = (λ x c. absurd (Contains-none x c), λ x c. below_all display_total e x d up c, sorted_tail display_cmp e d up)
rises_around (y ∷ p) d e up =
    let r = rises_around p d e (sorted_tail display_cmp y (p ++ e ∷ d) up) in
    let below = λ (x : DrawopValue) (c : (e ≡ x) ⊎ Contains (p ++ d) x). below_all display_total y x (p ++ e ∷ d) up ((middle p d e x).1 c) in (
      λ x c. ⊎_elim (λ (f : y ≡ x). subst (λ (z : DrawopValue). display_cmp z e ≡ Less) f (below e (inl refl))) (λ (h : Contains p x). r.0 x h) (Contains-cases y x p c),
      r.1,
      rises_onto y (p ++ d) (λ x c. below x (inr c)) r.2,
    )

pub rises_between : (p d : List DrawopValue) (e : DrawopValue) → IsStrictlySortedBy display_cmp (p ++ d) → ((x : DrawopValue) → Contains p x → display_cmp x e ≡ Less) → ((x : DrawopValue) → Contains d x → display_cmp e x ≡ Less) → IsStrictlySortedBy display_cmp (p ++ e ∷ d)
rises_between [] d e up low high = rises_onto e d high up
rises_between (y ∷ p) d e up low high = rises_onto y (p ++ e ∷ d)
    (λ x c. ⊎_elim (λ (f : e ≡ x). subst (λ (z : DrawopValue). display_cmp y z ≡ Less) f (low y (Contains-here y p))) (λ (h : Contains (p ++ d) x). below_all display_total y x (p ++ d) up h) ((middle p d e x).0 c))
    (rises_between p d e (sorted_tail display_cmp y (p ++ d) up) (λ x c. low x (Contains-there y x p c)) high)

-- what is beside e is the same with e and without
beside : (p d : List DrawopValue) (e x : DrawopValue) → (e ≡ x → ⊥) → Contains (p ++ e ∷ d) x ↔ Contains (p ++ d) x
beside p d e x ne = (λ c. ⊎_elim (λ (f : e ≡ x). absurd (ne f)) (λ (r : Contains (p ++ d) x). r) ((middle p d e x).0 c), λ c. (middle p d e x).1 (inr c))

-- ---- what the code does

module _ (xs : List DrawopValue) (up : IsStrictlySortedBy display_cmp xs) (d : DrawopValue) (i : ℕ) where
  -- d enters
  pub entered : i ≤ length xs → IsPartitionPoint (λ x. display_cmp x d ≡ Less) (λ x. display_cmp x d ≡ Greater) xs i → SetsShown d true xs (insert xs i d)
  entered le place = subst (λ (ys : List DrawopValue). SetsShown d true ys (insert xs i d)) (take-append-drop i xs) (record {
    rising = rises_between (take i xs) (drop i xs) d (subst (IsStrictlySortedBy display_cmp) (sym (take-append-drop i xs)) up)
        (λ x c. ap (λ (y : DrawopValue). display_cmp y d) (sym c.2 ∙ get_or-take i xs c.0 x (low x c)) ∙ place.0 c.0 x (omega arith) (low x c))
        (λ x c. turned _ _ (display_total.antisymm x d) (ap (λ (y : DrawopValue). display_cmp y d) (sym c.2 ∙ get_or-drop i xs c.0 x) ∙ place.1 (i + c.0) x (omega arith) (omega (arith, c.1, length-drop i xs))));
    others = λ x ne. beside (take i xs) (drop i xs) d x (λ e. ne (sym e));
    itself = ((λ _. refl), (λ _. (middle (take i xs) (drop i xs) d d).1 (inl refl)));
  }) where
    low : (x : DrawopValue) (c : Contains (take i xs) x) → c.0 < i
    low x c = omega (arith, c.1, length-take i xs)

  -- d leaves
  pub left : i < length xs → get_or xs i d ≡ d → SetsShown d false xs (remove xs i)
  left lt is =
      let whole : take i xs ++ d ∷ drop (i + 1) xs ≡ xs = rw (add-one, ← is, ← drop-cons xs i d) (take-append-drop i xs) in
      let around = rises_around (take i xs) (drop (i + 1) xs) d (subst (IsStrictlySortedBy display_cmp) (sym whole) up) in
      let not_below : display_cmp d d ≡ Less → false ≡ true = λ e. (let t = tied_itself display_total d in cc) in
      rw add-one at (subst (λ (ys : List DrawopValue). SetsShown d false ys (take i xs ++ drop (i + 1) xs)) whole (record {
        rising = around.2;
        others = λ x ne. let b = beside (take i xs) (drop (i + 1) xs) d x (λ e. ne (sym e)) in (b.1, b.0);
        itself = ((λ c. ⊎_elim (λ (h : Contains (take i xs) d). not_below (around.0 d h)) (λ (h : Contains (drop (i + 1) xs) d). not_below (around.1 d h)) (Contains-append_cases (take i xs) (drop (i + 1) xs) d c)), (λ e. cc));
      }))

-- the member that ties with d is d
pub tied_is : (xs : List DrawopValue) (d : DrawopValue) (i : ℕ) → i < length xs → HoldsAt (λ x. display_cmp x d ≡ Equal) xs i → TiesAlone xs d → get_or xs i d ≡ d
tied_is xs d i lt ties alone = alone (get_or xs i d) (Contains-get_or xs i d lt) (ties d)

-- what a binary search says
pub place_from_search : (xs : List DrawopValue) (d : DrawopValue) (r : Result ℕ ℕ) → IsSearchInRange r (length xs) → IsBinarySearchResult (λ x. display_cmp x d) xs r → IsPlaceOf xs d r
place_from_search xs d (Ok i) bound found = (bound, found)
place_from_search xs d (Err i) bound found = (bound, λ up. found (searchable_from_sorted display_total (λ (x : DrawopValue). x) xs d (sorted_from_rising xs up)))

-- what is before the last is before all that the last is before, and past it nothing stands
pub place_at_end : (xs : List DrawopValue) (d last : DrawopValue) → 0 < length xs → last ≡ get_or xs (length xs - 1) last → display_cmp last d ≡ Less → IsPlaceOf xs d (Err (length xs))
place_at_end xs d last pos is low = (omega arith, λ up. ((λ k e lo h. before up k e h (cases_lt k (length xs - 1))), (λ k e lo h. absurd (omega arith)))) where
  end : (e : DrawopValue) → display_cmp (get_or xs (length xs - 1) e) d ≡ Less
  end e = ap (λ (x : DrawopValue). display_cmp x d) (get_or_default xs (length xs - 1) e last (omega arith) ∙ sym is) ∙ low

  before : IsStrictlySortedBy display_cmp xs → (k : ℕ) (e : DrawopValue) → k < length xs → (k < length xs - 1) ⊎ (length xs - 1 ≤ k) → display_cmp (get_or xs k e) d ≡ Less
  before up k e h (inl lt) = display_total.trans (get_or xs k e) (get_or xs (length xs - 1) e) d (after xs k (length xs - 1) e up lt (omega arith)) (end e)
  before up k e h (inr ge) = let same : k ≡ length xs - 1 = omega arith in ap (λ (i : ℕ). display_cmp (get_or xs i e) d) same ∙ end e
