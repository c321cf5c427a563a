-- The numbers of the faults.
use Rattle.std.specs.Prelude.{ℕ}
use Rattle.wb_history.specs.declared.history.OpenFault.{OpenFault}
use Rattle.wb_history.specs.declared.history.OpenFault.TheVariants as opening
use Rattle.wb_history.specs.declared.claim.ClaimFault.{ClaimFault}
use Rattle.wb_history.specs.declared.claim.ClaimFault.TheVariants as claim_faults
use Rattle.wb_history.specs.declared.parts.SplitFault.{SplitFault}
use Rattle.wb_history.specs.declared.parts.SplitFault.TheVariants as splitting
use Rattle.wb_history.specs.declared.parts.JoinFault.{JoinFault}

abbrev pub open_code : OpenFault → ℕ
open_code opening.Cells = 1
open_code opening.Memory = 2

abbrev pub claim_code : ClaimFault → ℕ
claim_code claim_faults.NoRow = 1
claim_code claim_faults.Memory = 2

abbrev pub split_code : SplitFault → ℕ
split_code (splitting.TooMany have) = 1
split_code splitting.Memory = 2

abbrev pub join_code : JoinFault → ℕ
join_code fault = 1
