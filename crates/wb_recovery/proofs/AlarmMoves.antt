-- What becomes of the alarms when one is set, moved or taken away.
use Rattle.std.proofs.Common.{◌≡◌, ℕ, ◌≤◌, Bool, true, false, cond, refl, ap, ◌∙◌, sym, subst, Option, Some, None, ◌⊎◌, inl, inr, ⊎_elim, arith}
use Rattle.std.specs.Prelude.{min}
use Rattle.std.specs.BTreeMap.{BTreeMap, IsOrdered, get, is_at, values}
use Rattle.std.specs.Cmp.{eq_by_cmp_equiv}
use Rattle.std.specs.Map.{lookup}
use Rattle.wb_names.specs.Values.{NameValue}
use Rattle.wb_names.specs.Orders.{same_name, name_cmp}
use Rattle.wb_names.proofs.Orders.{name_total, same_name-is}
use Rattle.wb_recovery.specs.Alarms.{Keep, IsFirst, IsUpTo, with_due, earlier, earliest}
use Rattle.wb_recovery.specs.declared.alarms.Alarms.{Alarms}
use Rattle.wb_recovery.proofs.NameOrder.{name_ties}
use Rattle.wb_recovery.proofs.AlarmReads.{min_either, is_first}

-- a bound that is lowered to a moment
up_to-earlier : (s : Option ℕ) (due d : ℕ) → IsUpTo s d → earlier s due ≤ d
up_to-earlier None due d h = absurd h
up_to-earlier (Some b) due d h = let g : b ≤ d = h in omega arith

earlier_moment : (s : Option ℕ) (due : ℕ) → earlier s due ≤ due
earlier_moment None due = omega arith
earlier_moment (Some b) due = omega arith

first_up_to : (dues : NameValue → Option ℕ) (s : Option ℕ) → IsFirst dues s → (n : NameValue) (d : ℕ) → dues n ≡ Some d → IsUpTo s d
first_up_to dues None f n d e = let none = f n in absurd (cc)
first_up_to dues (Some b) f n d e = f.2 n d e

-- the moment of one name was written
module _ (dues : NameValue → Option ℕ) (name : NameValue) where
  -- that of another name stays
  stays : (due : Option ℕ) (n : NameValue) (b : ℕ) → dues n ≡ Some b → (dues name ≡ Some b → ⊥) → with_due dues name due n ≡ Some b
  stays due n b is other = from (same_name name n) refl where
    from : (c : Bool) → same_name name n ≡ c → cond c due (dues n) ≡ Some b
    from true e = absurd (other (ap dues (same_name-is name n e) ∙ is))
    from false e = is

  first_cleared : (s : Option ℕ) → IsFirst dues s → (dues name ≡ s → ⊥) → IsFirst (with_due dues name None) s
  first_cleared None f other = λ n. from n (same_name name n) where
    from : (n : NameValue) (c : Bool) → cond c None (dues n) ≡ None
    from n true = refl
    from n false = f n
  first_cleared (Some b) f other = (f.0, stays None f.0 b f.1 other, λ n d. from n (same_name name n) d) where
    from : (n : NameValue) (c : Bool) (d : ℕ) → cond c None (dues n) ≡ Some d → b ≤ d
    from n true d e = absurd (cc)
    from n false d e = f.2 n d e

  module _ (due : ℕ) where
    here : (s : Option ℕ) → earlier s due ≡ due → (n : NameValue) × (with_due dues name (Some due) n ≡ Some (earlier s due))
    here s e = (name, ap (λ (c : Bool). cond c (Some due) (dues name)) (name_ties name name ∙ (eq_by_cmp_equiv name_total).refl name) ∙ ap Some (sym e))

    found : (s : Option ℕ) → IsFirst dues s → (dues name ≡ s → ⊥) → (n : NameValue) × (with_due dues name (Some due) n ≡ Some (earlier s due))
    found None f other = here None refl
    found (Some b) f other = ⊎_elim
        (λ (g : min b due ≡ b). let r : (n : NameValue) × (with_due dues name (Some due) n ≡ Some (min b due)) = (f.0, stays (Some due) f.0 b f.1 other ∙ ap Some (sym g)) in r)
        (λ (g : min b due ≡ due). here (Some b) g)
        (min_either b due)

    first_set : (s : Option ℕ) → ((n : NameValue) (d : ℕ) → dues n ≡ Some d → IsUpTo s d) → (earlier s due ≡ due) ⊎ (IsFirst dues s × (dues name ≡ s → ⊥)) → IsFirst (with_due dues name (Some due)) (Some (earlier s due))
    first_set s bound which = (at.0, at.1, λ n d. from n (same_name name n) d) where
      at : (n : NameValue) × (with_due dues name (Some due) n ≡ Some (earlier s due))
      at = ⊎_elim (here s) (λ (p : IsFirst dues s × (dues name ≡ s → ⊥)). found s p.0 p.1) which

      from : (n : NameValue) (c : Bool) (d : ℕ) → cond c (Some due) (dues n) ≡ Some d → earlier s due ≤ d
      from n true d e = let g : due ≡ d = cc in let h = earlier_moment s due in omega arith
      from n false d e = up_to-earlier s due d (bound n d e)

module _ (dues : NameValue → Option ℕ) (name : NameValue) (due : Option ℕ) (old new : Alarms) (w : (q : NameValue) → get name_cmp new.dues q ≡ cond (is_at (name_cmp name) q) due (get name_cmp old.dues q)) where
  keep_written : Keep dues old → ((d : ℕ) → IsUpTo old.soonest d → IsUpTo new.soonest d) → ((d : ℕ) → due ≡ Some d → IsUpTo new.soonest d) → (new.is_exact ≡ true → IsFirst (with_due dues name due) new.soonest) → Keep (with_due dues name due) new
  keep_written keep lower below exact = record {
    each = λ n. w n ∙ ap (λ (b : Bool). cond b due (get name_cmp old.dues n)) (sym (name_ties name n)) ∙ ap (λ (o : Option ℕ). cond (same_name name n) due o) (keep.each n);
    bound = λ n. from n (same_name name n);
    exact = exact;
  } where
    from : (n : NameValue) (b : Bool) (d : ℕ) → cond b due (dues n) ≡ Some d → IsUpTo new.soonest d
    from n true d e = below d e
    from n false d e = lower d (keep.bound n d e)

-- an alarm was set or moved: the bound is lowered to it, and exact if it is there or was exact without the old moment
pub keep_set : (dues : NameValue → Option ℕ) (name : NameValue) (due : ℕ) (before : Option ℕ) (old new : Alarms)
    → ((q : NameValue) → get name_cmp new.dues q ≡ cond (is_at (name_cmp name) q) (Some due) (get name_cmp old.dues q)) → new.soonest ≡ Some (earlier old.soonest due) → before ≡ get name_cmp old.dues name
    → (new.is_exact ≡ true → (earlier old.soonest due ≡ due) ⊎ ((old.is_exact ≡ true) × (before ≡ old.soonest → ⊥))) → Keep dues old → Keep (with_due dues name (Some due)) new
keep_set dues name due before old new w lowered was exact keep = keep_written dues name (Some due) old new w keep
    (λ d h. subst (λ (s : Option ℕ). IsUpTo s d) (sym lowered) (up_to-earlier old.soonest due d h))
    (λ d e. subst (λ (s : Option ℕ). IsUpTo s d) (sym lowered) (below d e))
    (λ e. subst (IsFirst (with_due dues name (Some due))) (sym lowered) (first_set dues name due old.soonest keep.bound (which (exact e)))) where
      below : (d : ℕ) → Some due ≡ Some d → earlier old.soonest due ≤ d
      below d e = let g : due ≡ d = cc in let h = earlier_moment old.soonest due in omega arith

      which : (earlier old.soonest due ≡ due) ⊎ ((old.is_exact ≡ true) × (before ≡ old.soonest → ⊥)) → (earlier old.soonest due ≡ due) ⊎ (IsFirst dues old.soonest × (dues name ≡ old.soonest → ⊥))
      which (inl e) = inl e
      which (inr p) = inr (keep.exact p.0, λ e. p.1 (was ∙ keep.each name ∙ e))

-- an alarm was taken away
pub keep_cleared : (dues : NameValue → Option ℕ) (name : NameValue) (before : Option ℕ) (old new : Alarms)
    → ((q : NameValue) → get name_cmp new.dues q ≡ cond (is_at (name_cmp name) q) None (get name_cmp old.dues q)) → new.soonest ≡ old.soonest → before ≡ get name_cmp old.dues name
    → (new.is_exact ≡ true → (old.is_exact ≡ true) × (before ≡ old.soonest → ⊥)) → Keep dues old → Keep (with_due dues name None) new
keep_cleared dues name before old new w bound was exact keep = keep_written dues name None old new w keep
    (λ d h. subst (λ (s : Option ℕ). IsUpTo s d) (sym bound) h)
    (λ d e. absurd (cc))
    (λ e. let p = exact e in subst (IsFirst (with_due dues name None)) (sym bound) (first_cleared dues name old.soonest (keep.exact p.0) (λ g. p.1 (was ∙ keep.each name ∙ g))))

-- the moments stay
pub keep_unchanged : (dues : NameValue → Option ℕ) (old new : Alarms) → new.dues.entries ≡ old.dues.entries → new.soonest ≡ old.soonest → new.is_exact ≡ old.is_exact → Keep dues old → Keep dues new
keep_unchanged dues old new same bound exact keep = record {
  each = λ n. ap (lookup (is_at (name_cmp n))) same ∙ keep.each n;
  bound = λ n d e. subst (λ (s : Option ℕ). IsUpTo s d) (sym bound) (keep.bound n d e);
  exact = λ e. subst (IsFirst dues) (sym bound) (keep.exact (sym exact ∙ e));
}

-- the moments stay, and the bound is the least of them
pub keep_renewed : (dues : NameValue → Option ℕ) (old new : Alarms) → new.dues ≡ old.dues → new.soonest ≡ earliest None (values old.dues) → IsOrdered name_cmp old.dues → Keep dues old → Keep dues new
keep_renewed dues old new same bound ordered keep =
    let first = subst (IsFirst dues) (sym bound) (is_first dues old.dues ordered keep.each) in
    record {
      each = λ n. ap (λ (m : BTreeMap NameValue ℕ). get name_cmp m n) same ∙ keep.each n;
      bound = first_up_to dues new.soonest first;
      exact = λ e. first;
    }
