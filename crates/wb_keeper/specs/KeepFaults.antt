-- Why a keeper refuses a call.
use Rattle.std.specs.Prelude.{◌≡◌, ℕ, nat_le, Option, Some, None, Result, Ok, Err, [], ◌∷◌}
use Rattle.wb_names.specs.Faults.{first_of, fault_unless}
use Rattle.wb_recovery.specs.Faults.{is_moment, is_delay}
use Rattle.wb_keeper.specs.declared.keep_fault.KeepFault.{KeepFault}
use Rattle.wb_keeper.specs.declared.keep_fault.KeepFault.TheVariants.{BackInTime, Range, TooMany, Memory}

abbrev pub keep_code : KeepFault → ℕ
keep_code BackInTime = 1
keep_code Range = 2
keep_code TooMany = 3
keep_code Memory = 4

-- the first fault of a call at a moment, after one at the last moment
abbrev pub moment_fault : ℕ → ℕ → Option KeepFault
moment_fault last now = first_of (fault_unless (nat_le last now) BackInTime ∷ fault_unless (is_moment now) Range ∷ [])

-- the fault of a delay
abbrev pub delay_fault : ℕ → Option KeepFault
delay_fault micros = first_of (fault_unless (is_delay micros) Range ∷ [])

-- the result is the fault, or an answer if there is none, unless memory ran out
abbrev pub IsKeptBy : {X : Type 0} → Option KeepFault → Result X KeepFault → Type 0
IsKeptBy (Some fault) result = result ≡ Err fault
IsKeptBy None (Ok x) = Unit {0}
IsKeptBy None (Err fault) = fault ≡ Memory
