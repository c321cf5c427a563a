-- The order of names, and their equality.
use Rattle.std.proofs.Common.{◌≡◌, Bool, true, false, refl, ap, ◌∙◌, sym, subst}
use Rattle.std.specs.Prelude.{nat_eq, ◌&&◌}
use Rattle.std.specs.Bool.{Decides}
use Rattle.std.specs.Cmp.{eq_by_cmp_equiv}
use Rattle.std.specs.Ordering.{eq_by_cmp, is_eq, nat_cmp, ordering_then}
use Rattle.std.specs.declared.cmp.Ordering.TheVariants.{Equal}
use Rattle.wb_names.specs.Values.{NameValue}
use Rattle.wb_names.specs.Orders.{name_cmp, page_cmp, same_name, same_page}
use Rattle.wb_names.proofs.Orders.{name_total, same_name-is, then_is, nat_ties, page_ties}

and_assoc : (a b c : Bool) → ((a && b) && c) ≡ (a && (b && c))
and_assoc true b c = refl
and_assoc false b c = refl

pub name_ties : (m n : NameValue) → same_name m n ≡ eq_by_cmp name_cmp m n
name_ties m n =
    and_assoc (nat_eq m.source n.source) (same_page m.page n.page) (nat_eq m.seq n.seq)
    ∙ ap (λ (b : Bool). nat_eq m.source n.source && (same_page m.page n.page && b)) (nat_ties m.seq n.seq)
    ∙ ap (λ (b : Bool). nat_eq m.source n.source && (b && is_eq (nat_cmp m.seq n.seq))) (page_ties m.page n.page)
    ∙ ap (λ (b : Bool). nat_eq m.source n.source && b) (sym (then_is _ _))
    ∙ ap (λ (b : Bool). b && is_eq (ordering_then (page_cmp m.page n.page) (nat_cmp m.seq n.seq))) (nat_ties m.source n.source)
    ∙ sym (then_is _ _)

pub name_decides : (m n : NameValue) → Decides (eq_by_cmp name_cmp m n) (m ≡ n)
name_decides m n = (λ e. same_name-is m n (name_ties m n ∙ e), λ e. subst (λ (k : NameValue). eq_by_cmp name_cmp m k ≡ true) e ((eq_by_cmp_equiv name_total).refl m))

pub equal_is : (m n : NameValue) → name_cmp m n ≡ Equal → m ≡ n
equal_is m n e = (name_decides m n).0 (ap is_eq e)
