-- Calls that a member refuses, or does not.
use Rattle.std.proofs.Common.{Option, Some, None}
use Rattle.wb_commands.specs.Acts.{Act, fails, unless}
use Rattle.wb_commands.specs.declared.fault.LineFault.{LineFault}
use Rattle.wb_commands.specs.declared.fault.LineFault.TheVariants as faults
use Rattle.wb_keeper.specs.declared.keep_fault.KeepFault.{KeepFault}
use Rattle.wb_keeper.specs.declared.keep_fault.KeepFault.TheVariants as keeping

-- What is so of two acts, and where both fail alike, is so of them unless both are refused alike.
pub unless_both : (P : Act → Act → Type 0) → ((e : LineFault) → P (fails e) (fails e)) → (fault : Option KeepFault) (one other : Act) → P one other → P (unless fault one) (unless fault other)
unless_both P fail None one other p = p
unless_both P fail (Some keeping.BackInTime) one other p = fail faults.BackInTime
unless_both P fail (Some keeping.Range) one other p = fail faults.Number
unless_both P fail (Some keeping.TooMany) one other p = fail faults.TooMany
unless_both P fail (Some keeping.Memory) one other p = p
