-- A recovery, as contracts see it.
use Rattle.std.specs.Prelude.{◌≡◌, ℕ, List, Option, unwrap_or, if◌then◌else◌}
use Rattle.std.specs.BTreeMap.{is_at}
use Rattle.std.specs.Map.{lookup, keys_of}
use Rattle.wb_names.specs.Values.{NameValue}
use Rattle.wb_names.specs.Orders.{same_name, name_cmp}
use Rattle.wb_recovery.specs.Timing.{no_timers}
use Rattle.wb_recovery.specs.declared.tuning.Tuning.{Tuning}
use Rattle.wb_recovery.specs.declared.timers.Timers.{Timers}

-- its constants, the moment of the last accepted call, and the timers of each name that ever had one
pub record RecoveryValue : Type 0 where
  pub tuning : Tuning
  pub moment : ℕ
  pub records : List (NameValue × Timers)

-- the record of a name, where it ever had a timer
abbrev pub record_at : List (NameValue × Timers) → NameValue → Option Timers
record_at records n = lookup (is_at (name_cmp n)) records

abbrev pub record_in : RecoveryValue → NameValue → Option Timers
record_in value = record_at value.records

-- the timers of a name
abbrev pub timers_at : List (NameValue × Timers) → NameValue → Timers
timers_at records n = unwrap_or (record_at records n) no_timers

abbrev pub timers_in : RecoveryValue → NameValue → Timers
timers_in value = timers_at value.records

-- the names that ever had a timer, ascending
abbrev pub names_in : RecoveryValue → List NameValue
names_in value = keys_of value.records

-- the timers of one name are replaced, and nothing else
pub record Replaces (old new : RecoveryValue) (name : NameValue) (after : Timers) : Type 0 where
  pub tuning : new.tuning ≡ old.tuning
  pub moment : new.moment ≡ old.moment
  pub timers : (n : NameValue) → timers_in new n ≡ (if same_name name n then after else timers_in old n)
