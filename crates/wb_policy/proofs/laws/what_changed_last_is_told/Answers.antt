use Rattle.wb_policy.proofs.Reporting.{newest_is_told}
use Rattle.wb_policy.proofs.laws.what_changed_last_is_told.Goals as goal

pub returns : goal.returns
returns c = record { newest = newest_is_told }
