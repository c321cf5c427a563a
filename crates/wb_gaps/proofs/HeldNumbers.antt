-- Which drawops are on a page.
use Rattle.std.proofs.Common.{◌≡◌, Bool, true, subst, arith}
use Rattle.std.proofs.lemmas.Bool.Decides.{nat_tests}
use Rattle.wb_names.specs.Values.{DrawopValue}
use Rattle.wb_names.specs.Orders.{same_page}
use Rattle.wb_names.specs.declared.name.PageId.{PageId}

abbrev pub is_on : PageId → DrawopValue → Bool
is_on page d = same_page d.name.page page

pub same_page-here : (p q : PageId) → p ≡ q → same_page p q ≡ true
same_page-here p q e = subst (λ (r : PageId). same_page p r ≡ true) e (grind (arith, nat_tests))
