use Rattle.wb_kept_progress.proofs.OnceFar.{once_far_meets}
use Rattle.wb_kept_progress.proofs.Examples.{lively_meets, patient_meets}
use Rattle.wb_kept_progress.proofs.Holed.{holed_meets}
use Rattle.wb_kept_progress.proofs.laws.terms_can_be_kept.Goals as goal

pub returns : goal.returns
returns c = record { lively = lively_meets; patient = patient_meets; holed = holed_meets; once_far = once_far_meets }
