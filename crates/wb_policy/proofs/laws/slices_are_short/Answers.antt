use Rattle.wb_policy.proofs.Latest.{slices_are_short}
use Rattle.wb_policy.proofs.Latest.{reports_are_small}
use Rattle.wb_policy.proofs.laws.slices_are_short.Goals as goal

pub returns-clause-marks : goal.returns-clause-marks
returns-clause-marks c = slices_are_short

pub returns-clause-bytes : goal.returns-clause-bytes
returns-clause-bytes c = reports_are_small
