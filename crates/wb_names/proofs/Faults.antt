-- What is known if a row of checks finds no fault.
use Rattle.std.proofs.Common.{◌≡◌, Bool, true, false, List, ◌∷◌, refl}
use Rattle.std.specs.Prelude.{Option, Some, None}
use Rattle.wb_names.specs.Faults.{fault_unless, first_of}

module _ {F : Type 0} where
  pub unless_true : (t : Bool) (fault : F) → fault_unless t fault ≡ None → t ≡ true
  unless_true true fault e = refl
  unless_true false fault e = absurd cc

  pub first_none : (fault : Option F) (others : List (Option F)) → first_of (fault ∷ others) ≡ None → fault ≡ None
  first_none None others e = refl
  first_none (Some fault) others e = absurd cc
