use Rattle.wb_judging.proofs.OwnersKnown.{owners_are_recorded, owners_outlive_starts}
use Rattle.wb_judging.proofs.laws.owners_outlive_starts.Goals as goal

pub returns : goal.returns
returns c = record { recorded = owners_are_recorded; known = owners_outlive_starts }
