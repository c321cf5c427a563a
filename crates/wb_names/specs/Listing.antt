-- The one list, rising by an order, of what has a property.
use Rattle.std.specs.Prelude.{List, Contains, ◌↔◌}
use Rattle.std.specs.declared.cmp.Ordering.{Ordering}
use Rattle.std.specs.List.Sorted.{IsStrictlySortedBy}

-- xs rises strictly by the order cmp, and its members are exactly the x that P holds of
pub record Lists {X : Type 0} (cmp : X → X → Ordering) (P : X → Type 0) (xs : List X) : Type 0 where
  pub rising : IsStrictlySortedBy cmp xs
  pub members : (x : X) → Contains xs x ↔ P x
