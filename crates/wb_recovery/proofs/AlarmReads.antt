-- The least of the moments that alarms keep.
use Rattle.std.proofs.Common.{◌≡◌, ℕ, ◌≤◌, true, List, [], ◌∷◌, refl, ap, ◌∙◌, sym, subst, Option, Some, None, ◌⊎◌, inl, inr, ⊎_elim, arith, eqb-true}
use Rattle.std.specs.Prelude.{min, Contains}
use Rattle.std.specs.BTreeMap.{BTreeMap, IsOrdered, get}
use Rattle.std.specs.Map.{values_of}
use Rattle.std.proofs.lemmas.Bool.Decides.{nat_tests}
use Rattle.std.proofs.lemmas.List.Elements.{All-contains}
use Rattle.std.proofs.lemmas.Map.Views.{All-found, Contains-from_lookup}
use Rattle.wb_names.specs.Values.{NameValue}
use Rattle.wb_names.specs.Orders.{name_cmp}
use Rattle.wb_names.proofs.Orders.{name_total}
use Rattle.wb_names.proofs.Listings.{Contains-here, Contains-there, Contains-cases, Contains-none}
use Rattle.wb_recovery.specs.Alarms.{earliest, IsFirst}
use Rattle.wb_recovery.specs.Timing.{is_set_to}
use Rattle.wb_recovery.proofs.NameOrder.{name_decides}

pub is_set_to-here : (d : ℕ) → is_set_to d (Some d) ≡ true
is_set_to-here d = grind (arith, nat_tests)

pub is_set_to-is : (d : ℕ) (o : Option ℕ) → is_set_to d o ≡ true → o ≡ Some d
is_set_to-is d None e = cc
is_set_to-is d (Some e) h = ap Some (eqb-true e d h)

-- the least of a moment and those of some entries
least : ℕ → List (NameValue × ℕ) → ℕ
least first [] = first
least first (e ∷ es) = least (min first e.1) es

earliest_is : (first : ℕ) (es : List (NameValue × ℕ)) → earliest (Some first) (values_of es) ≡ Some (least first es)
unfolding least
earliest_is first [] = refl
earliest_is first (e ∷ es) = earliest_is (min first e.1) es

least_below : (first : ℕ) (es : List (NameValue × ℕ)) → least first es ≤ first
unfolding least
least_below first [] = omega arith
least_below first (e ∷ es) = let h = least_below (min first e.1) es in omega arith

least_below_each : (first : ℕ) (es : List (NameValue × ℕ)) (n : NameValue) (d : ℕ) → Contains es (n, d) → least first es ≤ d
unfolding least
least_below_each first [] n d h = absurd (Contains-none (n, d) h)
least_below_each first (e ∷ es) n d h = ⊎_elim
    (λ (g : e ≡ (n, d)). let k = least_below (min first e.1) es in let s : e.1 ≡ d = ap (λ (p : NameValue × ℕ). p.1) g in omega arith)
    (λ (g : Contains es (n, d)). least_below_each (min first e.1) es n d g)
    (Contains-cases e (n, d) es h)

pub min_either : (a b : ℕ) → (min a b ≡ a) ⊎ (min a b ≡ b)
min_either a b = grind (arith, nat_tests)

least_among : (first : ℕ) (es : List (NameValue × ℕ)) → (least first es ≡ first) ⊎ ((n : NameValue) × Contains es (n, least first es))
unfolding least
least_among first [] = inl refl
least_among first (e ∷ es) = ⊎_elim
    (λ (g : least (min first e.1) es ≡ min first e.1). ⊎_elim
    (λ (k : min first e.1 ≡ first). inl (g ∙ k))
    (λ (k : min first e.1 ≡ e.1). inr (e.0, subst (λ (d : ℕ). Contains (e ∷ es) (e.0, d)) (sym (g ∙ k)) (Contains-here e es)))
    (min_either first e.1))
    (λ (g : (n : NameValue) × Contains es (n, least (min first e.1) es)). inr (g.0, Contains-there e (g.0, least (min first e.1) es) es g.1))
    (least_among (min first e.1) es)

module _ (dues : NameValue → Option ℕ) (m : BTreeMap NameValue ℕ) (ordered : IsOrdered name_cmp m) (each : (n : NameValue) → get name_cmp m n ≡ dues n) where
  entry_of : (n : NameValue) (d : ℕ) → dues n ≡ Some d → Contains m.entries (n, d)
  entry_of n d e = Contains-from_lookup (λ x y g. (name_decides x y).0 g) n d m.entries (each n ∙ e)

  due_of : (n : NameValue) (d : ℕ) → Contains m.entries (n, d) → dues n ≡ Some d
  due_of n d h = sym (each n) ∙ All-contains (λ (e : NameValue × ℕ). get name_cmp m e.0 ≡ Some e.1) m.entries (n, d) (All-found name_total m ordered) h

  pub is_first : IsFirst dues (earliest None (values_of m.entries))
  is_first = from m.entries (λ n d h. entry_of n d h) (λ n d h. due_of n d h) where
    none : (o : Option ℕ) → ((d : ℕ) → o ≡ Some d → ⊥) → o ≡ None
    none None f = refl
    none (Some d) f = absurd (f d refl)

    from : (es : List (NameValue × ℕ)) → ((n : NameValue) (d : ℕ) → dues n ≡ Some d → Contains es (n, d)) → ((n : NameValue) (d : ℕ) → Contains es (n, d) → dues n ≡ Some d) → IsFirst dues (earliest None (values_of es))
    from [] has is = λ n. none (dues n) (λ d e. Contains-none (n, d) (has n d e))
    from (x ∷ xs) has is = subst (IsFirst dues) (sym (earliest_is x.1 xs)) (
      found.0,
      found.1,
      λ n d e. ⊎_elim
          (λ (g : x ≡ (n, d)). let k = least_below x.1 xs in let s : x.1 ≡ d = ap (λ (p : NameValue × ℕ). p.1) g in omega arith)
          (λ (g : Contains xs (n, d)). least_below_each x.1 xs n d g)
          (Contains-cases x (n, d) xs (has n d e)),
    ) where
      found : (n : NameValue) × (dues n ≡ Some (least x.1 xs))
      found = ⊎_elim
          (λ (g : least x.1 xs ≡ x.1). let r : (n : NameValue) × (dues n ≡ Some (least x.1 xs)) = (x.0, is x.0 x.1 (Contains-here x xs) ∙ ap Some (sym g)) in r)
          (λ (g : (n : NameValue) × Contains xs (n, least x.1 xs)). let r : (n : NameValue) × (dues n ≡ Some (least x.1 xs)) = (g.0, is g.0 (least x.1 xs) (Contains-there x (g.0, least x.1 xs) xs g.1)) in r)
          (least_among x.1 xs)
