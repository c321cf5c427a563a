use Rattle.wb_judge.proofs.Owners.{owners_are_recalled, owners_beside}
use Rattle.wb_judge.proofs.laws.owners_are_recalled.Goals as goal

pub returns : goal.returns
returns c = record { recalled = owners_are_recalled; beside = owners_beside }
