-- Laws of the order of ranges by where they begin.
use Rattle.std.proofs.Common.{◌≡◌, ℕ, ◌≤◌, true, false, refl, ap, ◌∙◌, arith, eqb-true, true≢false}
use Rattle.std.specs.BTreeMap.{is_at}
use Rattle.std.specs.Cmp.{IsTotalOrder, nat_cmp_total, eq_by_cmp_equiv}
use Rattle.std.specs.Ordering.{is_eq, is_gt, is_lt, nat_cmp, ordering_then}
use Rattle.std.specs.declared.cmp.Ordering.{Ordering}
use Rattle.std.specs.declared.cmp.Ordering.TheVariants.{Less, Equal, Greater}
use Rattle.std.proofs.lemmas.Bool.Decides.{nat_tests}
use Rattle.std.proofs.lemmas.Cmp.{on_total, then_total}
use Rattle.std.proofs.lemmas.Grind.{common_steps}
use Rattle.wb_names.specs.Orders.{page_cmp}
use Rattle.wb_names.specs.declared.name.PageId.{PageId}
use Rattle.wb_names.proofs.Orders.{page_total, page_ties, nat_ties, and_both, then_is, same_page-is}
use Rattle.wb_gaps.specs.Starts.{start_cmp, start}
use Rattle.wb_gaps.specs.declared.holdings.Start.{Start}

pub start_total : IsTotalOrder start_cmp
start_total = then_total (on_total (λ (s : Start). s.page) page_total) (then_total (on_total (λ (s : Start). s.source) nat_cmp_total) (on_total (λ (s : Start). s.first) nat_cmp_total))

pub start_parts : (p q : PageId) (a b x y : ℕ) → p ≡ q → a ≡ b → x ≡ y → start p a x ≡ start q b y
start_parts p q a b x y d e f = cc

pub page_is : (p q : PageId) → is_eq (page_cmp p q) ≡ true → p ≡ q
page_is p q e = same_page-is p q (page_ties p q ∙ e)

nat_is : (a b : ℕ) → is_eq (nat_cmp a b) ≡ true → a ≡ b
nat_is a b e = eqb-true a b (nat_ties a b ∙ e)

-- starts that tie are one
pub start_is : (s t : Start) → is_at (start_cmp s) t ≡ true → s ≡ t
start_is s t e = grind (arith, common_steps, nat_tests, start_parts, page_is, nat_is, and_both, then_is)

-- and others do not
pub start_not : (s t : Start) → (s ≡ t → ⊥) → is_at (start_cmp s) t ≡ false
start_not s t unlike = grind (arith, common_steps, nat_tests, start_is)

pub page_itself : (p : PageId) → page_cmp p p ≡ Equal
page_itself p = grind (arith, common_steps, nat_tests, eq_by_cmp_equiv, page_total)

pub nat_itself : (a : ℕ) → nat_cmp a a ≡ Equal
nat_itself a = grind (arith, common_steps, nat_tests, nat_cmp_total, eq_by_cmp_equiv)

-- of one page and source, the order is that of the numbers
pub by_number : (p : PageId) (s a b : ℕ) → start_cmp (start p s a) (start p s b) ≡ nat_cmp a b
by_number p s a b = ap (λ (r : Ordering). ordering_then r (ordering_then (nat_cmp s s) (nat_cmp a b))) (page_itself p) ∙ ap (λ (r : Ordering). ordering_then r (nat_cmp a b)) (nat_itself s)

pub up_to : (p : PageId) (s a b : ℕ) → a ≤ b → is_gt (start_cmp (start p s a) (start p s b)) ≡ false
up_to p s a b le = grind (arith, common_steps, nat_tests, by_number)

pub up_to_is : (p : PageId) (s a b : ℕ) → is_gt (start_cmp (start p s a) (start p s b)) ≡ false → a ≤ b
up_to_is p s a b h = grind (arith, common_steps, nat_tests, by_number)

pub from_is : (p : PageId) (s a b : ℕ) → is_lt (start_cmp (start p s a) (start p s b)) ≡ false → b ≤ a
from_is p s a b h = grind (arith, common_steps, nat_tests, by_number)

pub is_less : (r : Ordering) → is_lt r ≡ true → r ≡ Less
is_less Less e = refl
is_less Equal e = cc
is_less Greater e = cc

pub not_gt_first : (r s : Ordering) → is_gt (ordering_then r s) ≡ false → is_gt r ≡ false
not_gt_first Less s h = refl
not_gt_first Equal s h = refl
not_gt_first Greater s h = h

not_lt_first : (r s : Ordering) → is_lt (ordering_then r s) ≡ false → is_lt r ≡ false
not_lt_first Less s h = h
not_lt_first Equal s h = refl
not_lt_first Greater s h = refl

tie : (r : Ordering) → is_gt r ≡ false → is_lt r ≡ false → is_eq r ≡ true
tie Less g l = absurd (true≢false l)
tie Equal g l = refl
tie Greater g l = absurd (true≢false g)

-- what is between two starts of one page and source is of it too
pub between : (e : Start) (p : PageId) (s a b : ℕ) → is_gt (start_cmp e (start p s b)) ≡ false → is_lt (start_cmp e (start p s a)) ≡ false → (e.page ≡ p) × (e.source ≡ s)
between e p s a b g l = grind (arith, common_steps, nat_tests, page_is, nat_is, page_itself, not_gt_first, not_lt_first, tie)
