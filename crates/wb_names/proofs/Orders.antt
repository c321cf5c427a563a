-- Laws of the orders of pages and names.
use Rattle.std.proofs.lemmas.Grind.{common_steps}
use Rattle.std.proofs.Common.{◌≡◌, ℕ, Bool, true, false, refl, arith, eqb-true}
use Rattle.std.specs.Prelude.{nat_eq, ◌&&◌}
use Rattle.std.specs.Cmp.{IsTotalOrder, IsEquivalence, nat_cmp_total}
use Rattle.std.specs.Ordering.{eq_by_cmp, is_eq, nat_cmp, ordering_then}
use Rattle.std.specs.declared.cmp.Ordering.{Ordering}
use Rattle.std.specs.declared.cmp.Ordering.TheVariants.{Less, Equal, Greater}
use Rattle.std.proofs.lemmas.Bool.Decides.{nat_tests}
use Rattle.std.proofs.lemmas.Cmp.{on_total, then_total}
use Rattle.wb_names.specs.Values.{NameValue}
use Rattle.wb_names.specs.Orders.{page_cmp, same_page, name_cmp, same_name}
use Rattle.wb_names.specs.declared.name.PageId.{PageId}

pub page_total : IsTotalOrder page_cmp
page_total = grind (arith, common_steps, then_total, on_total)

pub name_total : IsTotalOrder name_cmp
name_total = then_total (on_total (λ (n : NameValue). n.source) nat_cmp_total) (then_total (on_total (λ (n : NameValue). n.page) page_total) (on_total (λ (n : NameValue). n.seq) nat_cmp_total))

pub and_both : (a b : Bool) → (a && b) ≡ true → (a ≡ true) × (b ≡ true)
and_both true b e = (refl, e)
and_both false b e = cc

pub then_is : (r s : Ordering) → is_eq (ordering_then r s) ≡ (is_eq r && is_eq s)
then_is Less s = refl
then_is Equal s = refl
then_is Greater s = refl

pub nat_ties : (a b : ℕ) → nat_eq a b ≡ eq_by_cmp nat_cmp a b
nat_ties a b = grind (arith, nat_tests)

page_parts : (a b c d : ℕ) → a ≡ b → c ≡ d → let p : PageId = record { creator = a; number = c } in let q : PageId = record { creator = b; number = d } in p ≡ q
page_parts a b c d e f = cc

pub name_parts : (a b : ℕ) (p q : PageId) (m n : ℕ) → a ≡ b → p ≡ q → m ≡ n → let v : NameValue = record { source = a; page = p; seq = m } in let w : NameValue = record { source = b; page = q; seq = n } in v ≡ w
name_parts a b p q m n e f g = cc

-- what the test of pages and names means
pub same_page-is : (p q : PageId) → same_page p q ≡ true → p ≡ q
same_page-is p q e = grind (arith, common_steps, and_both, page_parts, eqb-true)

pub same_name-is : (m n : NameValue) → same_name m n ≡ true → m ≡ n
same_name-is m n e = grind (arith, common_steps, and_both, name_parts, eqb-true, same_page-is)

pub same_page-itself : (p : PageId) → same_page p p ≡ true
same_page-itself p = grind (arith, nat_tests)

pub same_name-here : (m n : NameValue) → m ≡ n → same_name m n ≡ true
same_name-here m n e = grind (arith, common_steps, nat_tests)

pub same_name-itself : (n : NameValue) → same_name n n ≡ true
same_name-itself n = same_name-here n n refl

pub page_ties : (p q : PageId) → same_page p q ≡ eq_by_cmp page_cmp p q
page_ties p q = grind (arith, common_steps, nat_ties, then_is)

-- a test that agrees with an order is an equality
pub equality : {X : Type 0} {R : X → X → Ordering} (o : IsTotalOrder R) (E : X → X → Bool) → ((x y : X) → E x y ≡ eq_by_cmp R x y) → IsEquivalence E
equality {X} {R} o E ties = grind (arith, common_steps)
