-- Records in the order of their names are the same list where each name finds the same.
use Rattle.std.proofs.Common.{◌≡◌, true, Option, Some, None, List, [], ◌∷◌, refl, ap, ◌∙◌, sym}
use Rattle.std.specs.Prelude.{unwrap_or}
use Rattle.std.specs.BTreeMap.{is_at}
use Rattle.std.specs.Cmp.{eq_by_cmp_equiv}
use Rattle.std.specs.List.Sorted.{IsStrictlySortedBy}
use Rattle.std.specs.Map.{keys_of}
use Rattle.std.specs.Ordering.{eq_by_cmp, is_eq, ordering_reverse}
use Rattle.std.specs.declared.cmp.Ordering.{Ordering}
use Rattle.std.specs.declared.cmp.Ordering.TheVariants.{Less, Equal, Greater}
use Rattle.std.proofs.lemmas.Bool.{cases_Bool}
use Rattle.std.proofs.Common.{⊎_elim}
use Rattle.std.proofs.lemmas.Cmp.{tied_itself}
use Rattle.std.proofs.lemmas.Map.{lookup-none}
use Rattle.std.proofs.lemmas.Map.Keys.{sorted_tail, IsDistinct-from_sorted}
use Rattle.std.proofs.lemmas.Map.Entries.{lookup_head, lookup_tail, none_past_head, none_below_head}
use Rattle.wb_names.specs.Values.{NameValue}
use Rattle.wb_names.specs.Orders.{name_cmp}
use Rattle.wb_names.proofs.Orders.{name_total}
use Rattle.wb_recovery.specs.Values.{record_at}
use Rattle.wb_recovery.specs.declared.timers.Timers.{Timers}
use Rattle.wb_recovery.proofs.NameOrder.{equal_is}

not_none : (v : Timers) → Some v ≡ None → ⊥
not_none v e = cc

at_head : (x : NameValue × Timers) (xs : List (NameValue × Timers)) → record_at (x ∷ xs) x.0 ≡ Some x.1
at_head x xs = lookup_head (is_at (name_cmp x.0)) x xs (ap is_eq (tied_itself name_total x.0))

past_head : (q : NameValue) (x : NameValue × Timers) (xs : List (NameValue × Timers)) → IsStrictlySortedBy name_cmp (keys_of (x ∷ xs)) → eq_by_cmp name_cmp q x.0 ≡ true → record_at xs q ≡ None
past_head q x xs s t = lookup-none (is_at (name_cmp q)) xs (none_past_head (eq_by_cmp_equiv name_total) q x xs (IsDistinct-from_sorted name_cmp _ s) t)

module _ (x y : NameValue × Timers) (xs ys : List (NameValue × Timers)) (s : IsStrictlySortedBy name_cmp (keys_of (x ∷ xs))) (t : IsStrictlySortedBy name_cmp (keys_of (y ∷ ys))) (h : (q : NameValue) → record_at (x ∷ xs) q ≡ record_at (y ∷ ys) q) where
  by_heads : (r : Ordering) → name_cmp x.0 y.0 ≡ r → name_cmp x.0 y.0 ≡ Equal
  by_heads Less p = absurd (not_none x.1 (sym (at_head x xs) ∙ h x.0 ∙ lookup-none _ (y ∷ ys) (none_below_head name_total x.0 y ys t p)))
  by_heads Equal p = p
  by_heads Greater p = absurd (not_none y.1 (sym (at_head y ys) ∙ sym (h y.0) ∙ lookup-none _ (x ∷ xs) (none_below_head name_total y.0 x xs s (name_total.antisymm y.0 x.0 ∙ ap ordering_reverse p))))

  heads : x.0 ≡ y.0
  heads = equal_is x.0 y.0 (by_heads (name_cmp x.0 y.0) refl)

  values : x.1 ≡ y.1
  values = ap (λ (o : Option Timers). unwrap_or o x.1) (sym (at_head x xs) ∙ h x.0 ∙ ap (record_at (y ∷ ys)) heads ∙ at_head y ys)

  tails : (q : NameValue) → record_at xs q ≡ record_at ys q
  tails q =
      let e : eq_by_cmp name_cmp q y.0 ≡ eq_by_cmp name_cmp q x.0 = ap (eq_by_cmp name_cmp q) (sym heads) in
      ⊎_elim
      (λ b. past_head q x xs s b ∙ sym (past_head q y ys t (e ∙ b)))
      (λ b. sym (lookup_tail (is_at (name_cmp q)) x xs b) ∙ h q ∙ lookup_tail (is_at (name_cmp q)) y ys (e ∙ b))
      (cases_Bool (eq_by_cmp name_cmp q x.0))

pub same_records : (es fs : List (NameValue × Timers)) → IsStrictlySortedBy name_cmp (keys_of es) → IsStrictlySortedBy name_cmp (keys_of fs) → ((q : NameValue) → record_at es q ≡ record_at fs q) → es ≡ fs
same_records [] [] s t h = refl
same_records [] (y ∷ ys) s t h = absurd (not_none y.1 (sym (h y.0 ∙ at_head y ys)))
same_records (x ∷ xs) [] s t h = absurd (not_none x.1 (sym (at_head x xs) ∙ h x.0))
same_records (x ∷ xs) (y ∷ ys) s t h =
    ap (λ (n : NameValue). (n, x.1) ∷ xs) (heads x y xs ys s t h)
    ∙ ap (λ (v : Timers). (y.0, v) ∷ xs) (values x y xs ys s t h)
    ∙ ap (λ (es : List (NameValue × Timers)). y ∷ es) (same_records xs ys (sorted_tail name_cmp x.0 (keys_of xs) s) (sorted_tail name_cmp y.0 (keys_of ys) t) (tails x y xs ys s t h))
