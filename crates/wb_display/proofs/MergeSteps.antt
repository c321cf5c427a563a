-- Two lists in the order of display become one, from the back.
use Rattle.std.proofs.lemmas.Grind.{common_steps}
use Rattle.std.proofs.Common.{◌≡◌, ℕ, ◌+◌, ◌-◌, ◌<◌, ◌≤◌, List, [], ◌∷◌, ◌++◌, length, get_or, set, take, drop, refl, ap, ◌∙◌, sym, subst, arith, ⊎_elim, ◌⊎◌, append_assoc}
use Rattle.std.specs.Prelude.{Contains, ◌↔◌, ◌≢◌}
use Rattle.std.specs.declared.cmp.Ordering.{Ordering}
use Rattle.std.specs.declared.cmp.Ordering.TheVariants.{Less, Equal, Greater}
use Rattle.std.specs.Ordering.{ordering_reverse}
use Rattle.std.specs.List.Sorted.{IsStrictlySortedBy}
use Rattle.std.proofs.lemmas.List.{get_or_default, get_or-take, length-set, length-take, take-take, take-set-le, take-append-drop, drop-set}
use Rattle.std.proofs.lemmas.List.Elements.{Contains-append_left, Contains-append_right, Contains-append_cases, Contains-push_cases}
use Rattle.wb_names.specs.Values.{DrawopValue}
use Rattle.wb_names.specs.Orders.{display_cmp}
use Rattle.wb_names.specs.Listing.{Lists}
use Rattle.wb_display.specs.DisplayList.{AreApart}
use Rattle.wb_display.proofs.Deciding.{display_total}
use Rattle.wb_display.proofs.Placing.{middle, rises_around, rises_between}

-- d is merged: it is in order behind what is left of either list, and all three have the members of both lists
pub record AreMerged (p q d all : List DrawopValue) : Type 0 where
  pub first : IsStrictlySortedBy display_cmp (p ++ d)
  pub second : IsStrictlySortedBy display_cmp (q ++ d)
  pub members : (x : DrawopValue) → Contains (p ++ (q ++ d)) x ↔ Contains all x

-- cur holds the first left of xs, and from left + right on what is merged of the rest of xs and of ys from right on
pub record Merging (xs ys cur : List DrawopValue) (left right : ℕ) : Type 0 where
  pub within_left : left ≤ length xs
  pub within_right : right ≤ length ys
  pub len : length cur ≡ length xs + length ys
  pub front : take left cur ≡ take left xs
  pub merged : AreMerged (take left xs) (take right ys) (drop (left + right) cur) (xs ++ ys)

-- what is before the last, and the last, are before what the last is before
below_last : (q d : List DrawopValue) (last e : DrawopValue) → IsStrictlySortedBy display_cmp ((q ++ last ∷ []) ++ d) → display_cmp last e ≡ Less → (x : DrawopValue) → Contains (q ++ last ∷ []) x → display_cmp x e ≡ Less
below_last q d last e up low x c = ⊎_elim
    (λ (h : Contains q x). display_total.trans x last e ((rises_around q d last (subst (IsStrictlySortedBy display_cmp) (append_assoc q (last ∷ []) d) up)).0 x h) low)
    (λ (f : last ≡ x). subst (λ (y : DrawopValue). display_cmp y e ≡ Less) f low)
    (Contains-push_cases q last x c)

-- the last of the first list goes first of what is merged
put_first : (p q d all : List DrawopValue) (e last : DrawopValue) → AreMerged (p ++ e ∷ []) (q ++ last ∷ []) d all → display_cmp last e ≡ Less → AreMerged p (q ++ last ∷ []) (e ∷ d) all
put_first p q d all e last m low =
    let r = q ++ last ∷ [] in
    let up : IsStrictlySortedBy display_cmp (p ++ e ∷ d) = subst (IsStrictlySortedBy display_cmp) (append_assoc p (e ∷ []) d) m.first in
    record {
      first = up;
      second = rises_between r d e m.second (below_last q d last e m.second low) (rises_around p d e up).1;
      members = λ x.
          let old = rw (append_assoc p (e ∷ []) (r ++ d)) at (m.members x) in
          let without = middle p (r ++ d) e x in
          let new = rw (append_assoc p r (e ∷ d), append_assoc p r d) at (middle (p ++ r) d e x) in
          ((λ c. old.0 (without.1 (new.0 c))), (λ c. new.1 (without.0 (old.1 c))));
    }

-- the last of the second list does
put_second : (p q d all : List DrawopValue) (e : DrawopValue) → AreMerged p (q ++ e ∷ []) d all → ((x : DrawopValue) → Contains p x → display_cmp x e ≡ Less) → AreMerged p q (e ∷ d) all
put_second p q d all e m low =
    let up : IsStrictlySortedBy display_cmp (q ++ e ∷ d) = subst (IsStrictlySortedBy display_cmp) (append_assoc q (e ∷ []) d) m.second in
    record {
      first = rises_between p d e m.first low (rises_around q d e up).1;
      second = up;
      members = λ x. subst (λ (t : List DrawopValue). Contains (p ++ t) x ↔ Contains all x) (append_assoc q (e ∷ []) d) (m.members x);
    }

-- what stands last in front is of the first list
pub in_front : (xs ys cur : List DrawopValue) (left right : ℕ) (e : DrawopValue) → Merging xs ys cur left right → 0 < left → get_or cur (left - 1) e ≡ e → get_or xs (left - 1) e ≡ e
in_front xs ys cur left right e m pos is = sym (get_or-take left xs (left - 1) e (omega arith)) ∙ ap (λ (zs : List DrawopValue). get_or zs (left - 1) e) (sym m.front) ∙ get_or-take left cur (left - 1) e (omega arith) ∙ is

-- the first n of a list, by the last of them
by_last : (zs : List DrawopValue) (n : ℕ) (e : DrawopValue) → 0 < n → n ≤ length zs → get_or zs (n - 1) e ≡ e → take n zs ≡ take (n - 1) zs ++ e ∷ []
by_last zs n e pos le is = grind (arith, common_steps)

-- what is merged once one more was put before it
one_more : (cur : List DrawopValue) (e : DrawopValue) (k n m : ℕ) → k ≡ n → n + 1 ≡ m → n < length cur → drop k (set cur n e) ≡ e ∷ drop m cur
one_more cur e k n m now was lt = rw (now, ← was) (drop-set cur n e lt)

-- all is still to be merged
pub merging_none : (xs ys cur : List DrawopValue) (left right : ℕ) → IsStrictlySortedBy display_cmp xs → IsStrictlySortedBy display_cmp ys → left ≡ length xs → right ≡ length ys → length cur ≡ length xs + length ys → take left cur ≡ xs → Merging xs ys cur left right
merging_none xs ys cur left right up rise l r len front = grind (arith, common_steps)

module _ (xs ys cur : List DrawopValue) (left right : ℕ) (e : DrawopValue) (m : Merging xs ys cur left right) (some : 0 < right) where
  -- the last of the first list moves up
  pub moved : (next : DrawopValue) → 0 < left → get_or xs (left - 1) e ≡ e → get_or ys (right - 1) next ≡ next → display_cmp next e ≡ Less → Merging xs ys (set cur (left + right - 1) e) (left - 1) right
  moved next pos is nth low =
      let p = by_last xs left e pos m.within_left is in
      let q = by_last ys right next some m.within_right nth in
      let d = one_more cur e (left - 1 + right) (left + right - 1) (left + right) (omega arith) (omega arith) (omega (arith, m.len, m.within_left, m.within_right)) in
      record {
        within_left = omega (arith, m.within_left);
        within_right = m.within_right;
        len = length-set cur (left + right - 1) e ∙ m.len;
        front = take-set-le (left - 1) cur (left + right - 1) e (omega arith) ∙ sym (take-take (left - 1) left cur (omega arith)) ∙ ap (take (left - 1)) m.front ∙ take-take (left - 1) left xs (omega arith);
        merged = rw (d, q) (put_first (take (left - 1) xs) (take (right - 1) ys) (drop (left + right) cur) (xs ++ ys) e next (rw (← p, ← q) m.merged) low);
      }

  -- the last of the second list takes its place
  pub entered : get_or ys (right - 1) e ≡ e → ((d : DrawopValue) → 0 < left → display_cmp (get_or xs (left - 1) d) e ≡ Less) → Merging xs ys (set cur (left + right - 1) e) left (right - 1)
  entered is last =
      let q = by_last ys right e some m.within_right is in
      let d = one_more cur e (left + (right - 1)) (left + right - 1) (left + right) (omega arith) (omega arith) (omega (arith, m.len, m.within_left, m.within_right)) in
      record {
        within_left = m.within_left;
        within_right = omega (arith, m.within_right);
        len = length-set cur (left + right - 1) e ∙ m.len;
        front = take-set-le left cur (left + right - 1) e (omega arith) ∙ m.front;
        merged = rw d (put_second (take left xs) (take (right - 1) ys) (drop (left + right) cur) (xs ++ ys) e (rw (← q) m.merged) below);
      } where
        below : (x : DrawopValue) → Contains (take left xs) x → display_cmp x e ≡ Less
        below x c =
            let pos : 0 < left = omega (arith, c.1, length-take left xs) in
            let p = by_last xs left (get_or xs (left - 1) x) pos m.within_left (get_or_default xs (left - 1) (get_or xs (left - 1) x) x (omega (arith, m.within_left))) in
            below_last (take (left - 1) xs) (drop (left + right) cur) (get_or xs (left - 1) x) e (rw (← p) m.merged.first) (last x pos) x (rw (← p) c)

-- all is merged
pub all_merged : (xs ys cur : List DrawopValue) (left : ℕ) → Merging xs ys cur left 0 → Lists display_cmp (λ x. Contains xs x ⊎ Contains ys x) cur
all_merged xs ys cur left m =
    let whole : take left xs ++ drop (left + 0) cur ≡ cur = ap (λ (p : List DrawopValue). p ++ drop (left + 0) cur) (sym m.front) ∙ ap (λ (k : ℕ). take left cur ++ drop k cur) (let e : left + 0 ≡ left = omega arith in e) ∙ take-append-drop left cur in
    record {
      rising = subst (IsStrictlySortedBy display_cmp) whole m.merged.first;
      members = λ x.
          let all = subst (λ (zs : List DrawopValue). Contains zs x ↔ Contains (xs ++ ys) x) whole (m.merged.members x) in
          ((λ c. Contains-append_cases xs ys x (all.0 c)), (λ s. all.1 (⊎_elim (λ (c : Contains xs x). Contains-append_left xs ys x c) (λ (c : Contains ys x). Contains-append_right xs ys x c) s)));
    }

below_unless : (r s : Ordering) → r ≡ ordering_reverse s → (s ≡ Less → ⊥) → r ≢ Equal → r ≡ Less
below_unless r Less e low tie = absurd (low refl)
below_unless r Equal e low tie = absurd (tie e)
below_unless r Greater e low tie = e

-- what neither ties with the next nor comes after it comes before it
pub comes_before : (xs ys cur : List DrawopValue) (left right : ℕ) (next last : DrawopValue) → Merging xs ys cur left right → AreApart xs ys → 0 < left → 0 < right → get_or ys (right - 1) next ≡ next → get_or cur (left - 1) last ≡ last → (display_cmp next last ≡ Less → ⊥) → (d : DrawopValue) → display_cmp (get_or xs (left - 1) d) next ≡ Less
comes_before xs ys cur left right next last m apart hl hr nth lth low d =
    let here = in_front xs ys cur left right last m hl lth in
    let known : Contains xs last = (left - 1, omega (arith, m.within_left), here) in
    let among : Contains ys next = (right - 1, omega (arith, m.within_right), nth) in
    ap (λ (x : DrawopValue). display_cmp x next) (get_or_default xs (left - 1) d last (omega (arith, m.within_left)) ∙ here)
    ∙ below_unless _ _ (display_total.antisymm last next) low (apart last next known among)
