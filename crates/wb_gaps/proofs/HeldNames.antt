-- Whether a page holds a number, as a test.
use Rattle.std.proofs.Common.{◌≡◌, ℕ, true, false, List, [], ◌∷◌, sym, subst, arith, true≢false}
use Rattle.std.proofs.lemmas.Bool.Decides.{nat_tests}
use Rattle.std.proofs.lemmas.Grind.{common_steps}
use Rattle.wb_names.specs.Values.{NameValue, DrawopValue}
use Rattle.wb_names.specs.Orders.{same_name}
use Rattle.wb_names.specs.History.{IsHeld}
use Rattle.wb_names.specs.declared.name.PageId.{PageId}
use Rattle.wb_names.proofs.Orders.{same_name-is}
use Rattle.wb_gaps.specs.Answers.{is_held}
use Rattle.wb_gaps.proofs.Reports.{held_there, held_cases}

same_name-here : (m n : NameValue) → m ≡ n → same_name m n ≡ true
same_name-here m n e = subst (λ (k : NameValue). same_name m k ≡ true) e (grind (arith, nat_tests))

pub held-from : (history : List DrawopValue) (page : PageId) (source n : ℕ) → IsHeld history page source n → is_held history page source n ≡ true
held-from [] page source n h = let lt = h.2 in absurd (omega arith)
held-from (d ∷ history) page source n h = grind (arith, nat_tests, same_name-here, held_cases, held-from history page source n)

pub held-by : (history : List DrawopValue) (page : PageId) (source n : ℕ) → is_held history page source n ≡ true → IsHeld history page source n
held-by [] page source n h = absurd (true≢false (sym h))
held-by (d ∷ history) page source n h = grind (arith, common_steps, nat_tests, same_name-is, held_there, held-by history page source n)

pub held-not : (history : List DrawopValue) (page : PageId) (source n : ℕ) → ¬ IsHeld history page source n → is_held history page source n ≡ false
held-not history page source n h = grind (arith, common_steps, nat_tests, held-by)
