use Rattle.wb_kept_progress.proofs.Becoming.{promises_suffice}
use Rattle.wb_kept_progress.proofs.Promised.{promises_are_kept}
use Rattle.wb_kept_progress.proofs.laws.policies_keep_promises.Goals as goal

pub returns : goal.returns
returns c = record { kept = promises_are_kept; suffice = promises_suffice }
