-- A rising list of names, taken one after another.
use Rattle.std.proofs.Common.{◌≡◌, ℕ, zero, suc, ◌+◌, ◌<◌, Bool, true, false, cond, List, [], ◌∷◌, length, get_or, take, refl, ap, ◌∙◌, sym, subst, true≢false, arith}
use Rattle.std.proofs.lemmas.List.Elements.{Contains-get_or}
use Rattle.std.specs.Prelude.{◌||◌, filter, Contains}
use Rattle.std.specs.Cmp.{eq_by_cmp_equiv}
use Rattle.std.specs.List.Sorted.{IsStrictlySortedBy}
use Rattle.std.specs.Ordering.{eq_by_cmp, is_eq, is_lt, ordering_reverse}
use Rattle.std.specs.declared.cmp.Ordering.{Ordering}
use Rattle.std.specs.declared.cmp.Ordering.TheVariants.{Less, Equal, Greater}
use Rattle.std.proofs.lemmas.List.Folds.{list_any_more}
use Rattle.std.proofs.lemmas.List.Sums.{length-filter}
use Rattle.std.proofs.lemmas.Map.Keys.{sorted_tail}
use Rattle.std.proofs.Math.Bool.{or-false, or-true}
use Rattle.wb_names.specs.Values.{NameValue}
use Rattle.wb_names.specs.Orders.{name_cmp, same_name}
use Rattle.wb_names.proofs.Orders.{name_total, same_name-is}
use Rattle.wb_names.proofs.Listings.{below_all}
use Rattle.wb_recovery.specs.Events.{smaller}
use Rattle.wb_recovery.specs.Alarms.{among}
use Rattle.wb_recovery.specs.declared.timers.Timers.{Timers}
use Rattle.wb_recovery.proofs.NameOrder.{name_ties}

first_less : (x : NameValue) (xs : List NameValue) (i : ℕ) (d : NameValue) → IsStrictlySortedBy name_cmp (x ∷ xs) → i < length xs → name_cmp x (get_or xs i d) ≡ Less
first_less x xs i d s h = below_all name_total x (get_or xs i d) xs s (Contains-get_or xs i d h)

-- none of the names before a place is the name there
pub not_before : (xs : List NameValue) (i : ℕ) (d : NameValue) → IsStrictlySortedBy name_cmp xs → i < length xs → among (take i xs) (get_or xs i d) ≡ false
not_before xs zero d s h = refl
not_before [] (suc i) d s h = absurd (omega arith)
not_before (x ∷ xs) (suc i) d s h =
    ap (λ (b : Bool). b || among (take i xs) (get_or xs i d)) ((eq_by_cmp_equiv name_total).symm (get_or xs i d) x ∙ ap is_eq (first_less x xs i d s (omega arith)))
    ∙ not_before xs i d (sorted_tail name_cmp x xs s) (omega arith)

none_smaller : (x : NameValue) (xs : List NameValue) → IsStrictlySortedBy name_cmp (x ∷ xs) → (ys : List NameValue) → ((y : NameValue) → Contains ys y → Contains xs y) → filter (λ m. is_lt (name_cmp m x)) ys ≡ []
none_smaller x xs s [] f = refl
none_smaller x xs s (y ∷ ys) f =
    ap (λ (r : Ordering). cond (is_lt r) (y ∷ filter (λ m. is_lt (name_cmp m x)) ys) (filter (λ m. is_lt (name_cmp m x)) ys)) (name_total.antisymm y x ∙ ap ordering_reverse (below_all name_total x y xs s (f y (0, omega arith, refl))))
    ∙ none_smaller x xs s ys (λ z g. f z (later z g)) where
      later : (z : NameValue) → Contains ys z → Contains (y ∷ ys) z
      later z (k, l, e) = (suc k, omega arith, e)

not_less_itself : (x : NameValue) (r : Ordering) → name_cmp x x ≡ r → is_lt r ≡ false
not_less_itself x Less e = absurd (true≢false (sym ((eq_by_cmp_equiv name_total).refl x) ∙ ap is_eq e))
not_less_itself x Equal e = refl
not_less_itself x Greater e = refl

filtered : (xs : List NameValue) (i : ℕ) (d : NameValue) → IsStrictlySortedBy name_cmp xs → i < length xs → length (filter (λ m. is_lt (name_cmp m (get_or xs i d))) xs) ≡ i
filtered [] i d s h = absurd (omega arith)
filtered (x ∷ xs) zero d s h =
    ap (λ (b : Bool). length (cond b (x ∷ filter (λ m. is_lt (name_cmp m x)) xs) (filter (λ m. is_lt (name_cmp m x)) xs))) (not_less_itself x _ refl)
    ∙ ap length (none_smaller x xs s xs (λ y g. g))
filtered (x ∷ xs) (suc i) d s h =
    let rest = filtered xs i d (sorted_tail name_cmp x xs s) (omega arith) in
    let same = ap (λ (r : Ordering). length (cond (is_lt r) (x ∷ filter (λ m. is_lt (name_cmp m (get_or xs i d))) xs) (filter (λ m. is_lt (name_cmp m (get_or xs i d))) xs))) (first_less x xs i d s (omega arith)) in
    same ∙ ap (λ (k : ℕ). suc k) rest

-- as many are smaller as stand before it
pub smaller_at : (xs : List NameValue) (i : ℕ) (d : NameValue) → IsStrictlySortedBy name_cmp xs → i < length xs → smaller xs (get_or xs i d) ≡ i
smaller_at xs i d s h = sym (length-filter (λ m. is_lt (name_cmp m (get_or xs i d))) xs) ∙ filtered xs i d s h

-- The timers of the names so far were replaced; now those of the next one are.
module _ (xs : List NameValue) (i : ℕ) (a : NameValue) (s : IsStrictlySortedBy name_cmp xs) (lt : i < length xs) (is : a ≡ get_or xs i a) where
  pub not_yet : among (take i xs) a ≡ false
  not_yet = ap (among (take i xs)) is ∙ not_before xs i a s lt

  pub among_more : (n : NameValue) → among (take (i + 1) xs) n ≡ (among (take i xs) n || same_name a n)
  among_more n =
      list_any_more (eq_by_cmp name_cmp n) xs i a lt
      ∙ ap (λ (m : NameValue). among (take i xs) n || eq_by_cmp name_cmp n m) (sym is)
      ∙ ap (λ (b : Bool). among (take i xs) n || b) ((eq_by_cmp_equiv name_total).symm n a ∙ sym (name_ties a n))

  pub contains_here : Contains xs a
  contains_here = subst (λ (n : NameValue). Contains xs n) (sym is) (Contains-get_or xs i a lt)

  pub smaller_here : smaller xs a ≡ i
  smaller_here = ap (smaller xs) is ∙ smaller_at xs i a s lt

  module _ (f g now new : NameValue → Timers) (so_far : (n : NameValue) → now n ≡ cond (among (take i xs) n) (g n) (f n)) where
    pub before_now : now a ≡ f a
    before_now = so_far a ∙ ap (λ (b : Bool). cond b (g a) (f a)) not_yet

    pub replaced_more : (after : Timers) → ((n : NameValue) → new n ≡ cond (same_name a n) after (now n)) → after ≡ g a → (n : NameValue) → new n ≡ cond (among (take (i + 1) xs) n) (g n) (f n)
    replaced_more after r e n = r n ∙ from (same_name a n) refl ∙ sym (ap (λ (b : Bool). cond b (g n) (f n)) (among_more n)) where
      from : (b : Bool) → same_name a n ≡ b → cond b after (now n) ≡ cond (among (take i xs) n || b) (g n) (f n)
      from true h = e ∙ ap g (same_name-is a n h) ∙ ap (λ (b : Bool). cond b (g n) (f n)) (sym (or-true (among (take i xs) n)))
      from false h = so_far n ∙ ap (λ (b : Bool). cond b (g n) (f n)) (sym (or-false (among (take i xs) n)))
