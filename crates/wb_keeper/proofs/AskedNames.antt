-- The names that are asked for, read off the accepted calls.
use Rattle.std.proofs.Common.{◌≡◌, ℕ, List, [], ◌∷◌, ap, refl}
use Rattle.std.specs.Prelude.{true, filter, is_some}
use Rattle.wb_recovery.specs.Events.{asking, names_of, timers_of}
use Rattle.wb_recovery.specs.Values.{names_in, timers_in}
use Rattle.wb_recovery.specs.declared.timers.Timers.{Timers}
use Rattle.wb_recovery.specs.declared.tuning.Tuning.{Tuning}
use Rattle.wb_recovery.proofs.NameLists.{listed_same}
use Rattle.wb_keeper.specs.Keeper.{KeeperCall, events_of}
use Rattle.wb_keeper.specs.Keeping.{KeeperValue, StandsFor}

-- a test that all pass leaves a list as it is
pub all_pass : {X : Type 0} (xs : List X) → filter (λ x. true) xs ≡ xs
all_pass {X} [] = refl
all_pass {X} (x ∷ xs) = ap (λ (ys : List X). x ∷ ys) (all_pass xs)

module _ (me : ℕ) (constants : Tuning) (calls : List KeeperCall) (value : KeeperValue) (stands : StandsFor me constants calls value) where
  pub asked_after : asking (names_in value.recovery) (timers_in value.recovery) ≡ asking (names_of (events_of me calls)) (timers_of constants (events_of me calls))
  asked_after = listed_same (λ (s : Timers). is_some s.ask) refl constants (events_of me calls) value.recovery stands.recovery.rising stands.recovery
