-- The numbers of the faults, and the first fault of a call.
use Rattle.std.specs.Prelude.{◌≡◌, ℕ, Bool, ◌&&◌, nat_le, nat_lt, Option, Some, None, Result, Ok, Err, [], ◌∷◌}
use Rattle.wb_names.specs.Faults.{first_of, fault_unless}
use Rattle.wb_names.specs.declared.moment.TheConstants.{MOMENT_LIMIT}
use Rattle.wb_recovery.specs.declared.fault.TheConstants.{DELAY_LIMIT}
use Rattle.wb_recovery.specs.declared.fault.RecoveryFault.{RecoveryFault}
use Rattle.wb_recovery.specs.declared.fault.RecoveryFault.TheVariants.{BackInTime, Range, Memory}
use Rattle.wb_recovery.specs.declared.fault.TuningFault.{TuningFault}
use Rattle.wb_recovery.specs.declared.fault.TuningFault.TheVariants.{Constant}

abbrev pub tuning_code : TuningFault → ℕ
tuning_code Constant = 1

abbrev pub recovery_code : RecoveryFault → ℕ
recovery_code BackInTime = 1
recovery_code Range = 2
recovery_code Memory = 3

abbrev pub is_moment : ℕ → Bool
is_moment now = nat_lt now MOMENT_LIMIT

abbrev pub is_delay : ℕ → Bool
is_delay delay = nat_lt delay DELAY_LIMIT

-- the first fault of a call that comes after the moment of the last one, by whether all its delays are in range
abbrev pub call_fault : ℕ → ℕ → Bool → Option RecoveryFault
call_fault last now in_range = first_of (
    fault_unless (nat_le last now) BackInTime
    ∷ fault_unless (in_range && is_moment now) Range
    ∷ [])

-- the result is the fault, or where there is none an answer, unless memory ran out
abbrev pub IsCheckedBy : {X : Type 0} → Option RecoveryFault → Result X RecoveryFault → Type 0
IsCheckedBy (Some fault) result = result ≡ Err fault
IsCheckedBy None (Ok x) = Unit {0}
IsCheckedBy None (Err fault) = fault ≡ Memory
