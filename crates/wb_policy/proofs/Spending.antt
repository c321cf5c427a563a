-- How many names are asked for from one moment to another.
use Rattle.std.proofs.Common.{◌≡◌, ℕ, ◌+◌, ◌-◌, ◌*◌, ◌≤◌, Bool, true, false, List, [], ◌∷◌, arith}
use Rattle.std.specs.Prelude.{max}
use Rattle.std.proofs.lemmas.Bool.{le-leb, leb-true}
use Rattle.wb_policy.specs.Credit.{has_credit}
use Rattle.wb_policy.specs.Laws.{Spending, Asks, Comes, owed_after, asks_in, comes_in, IsSpent, FewAreAsked}
use Rattle.wb_policy.specs.Wanting.{is_paid}

-- What is owed grows by each name that is asked for, and falls by two for each that comes. So names that were asked for are owed,
-- unless time or those that came paid for them.
pub record IsPaid (start end owed asks comes : ℕ) : Type 0 where
  pub after : start ≤ end
  pub owes : start + asks * 250000 ≤ max owed end + comes * 500000
  pub few : asks * 250000 ≤ (64 + 2 * comes) * 250000 + (end - start)

pub one_asked : (start now end owed asks comes : ℕ) → now ≤ end → max owed now - now ≤ 63 * 250000 → IsPaid start now owed asks comes → IsPaid start end (max owed now + 250000) (asks + 1) comes
one_asked start now end owed asks comes later credit p = record { after = omega arith; owes = omega arith; few = omega arith }

pub one_came : (start end owed asks comes : ℕ) → IsPaid start end owed asks comes → IsPaid start end (owed - 500000) asks (comes + 1)
one_came start end owed asks comes p = record { after = omega arith; owes = omega arith; few = omega arith }

paid : (owed start end : ℕ) (spending : List Spending) → IsSpent owed start end spending → IsPaid start end (owed_after owed spending) (asks_in spending) (comes_in spending)
paid owed start end [] spent = record { after = spent; owes = omega arith; few = omega arith }
paid owed start end (Asks now ∷ before) spent = one_asked start now end (owed_after owed before) (asks_in before) (comes_in before) spent.0 (leb-true _ _ spent.1) (paid owed start now before spent.2)
paid owed start end (Comes ∷ before) spent = one_came start end (owed_after owed before) (asks_in before) (comes_in before) (paid owed start end before spent)

-- where there is credit for a name, a place is left
pub has_place : (any : Bool) (owed now : ℕ) → is_paid any owed now ≡ true → has_credit owed now ≡ true
has_place true owed now e = e
has_place false owed now e = let le = leb-true (max owed now - now) (47 * 250000) e in le-leb (max owed now - now) (63 * 250000) (omega (arith, le))

pub few_are_asked : FewAreAsked
few_are_asked owed start end spending spent = (paid owed start end spending spent).few
