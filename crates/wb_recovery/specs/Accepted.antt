-- What a recovery stands for: the list of the calls that it accepted.
use Rattle.std.specs.Prelude.{◌≡◌, List, ◌∷◌}
use Rattle.std.specs.List.Sorted.{IsStrictlySortedBy}
use Rattle.wb_names.specs.Values.{NameValue}
use Rattle.wb_names.specs.Orders.{name_cmp}
use Rattle.wb_recovery.specs.Values.{RecoveryValue, timers_in, names_in}
use Rattle.wb_recovery.specs.Events.{Event, moment_of, constants_after, timers_of}
use Rattle.wb_recovery.specs.declared.tuning.Tuning.{Tuning}

-- with these constants at first, after these calls; its names rise, each once
pub record StandsFor (constants : Tuning) (events : List Event) (value : RecoveryValue) : Type 0 where
  pub tuning : value.tuning ≡ constants_after constants events
  pub moment : value.moment ≡ moment_of events
  pub timers : (n : NameValue) → timers_in value n ≡ timers_of constants events n
  pub rising : IsStrictlySortedBy name_cmp (names_in value)

-- the call is accepted: what stood for some calls stands for these and this one
abbrev pub Accepts : Event → RecoveryValue → RecoveryValue → Type 0
Accepts event old new = (constants : Tuning) (events : List Event) → StandsFor constants events old → StandsFor constants (event ∷ events) new
