use Rattle.wb_judge.proofs.Owners.{claims_bind_nobody, owners_stay}
use Rattle.wb_judge.proofs.laws.owners_stay.Goals as goal

pub returns : goal.returns
returns c = record { stay = owners_stay; claims = claims_bind_nobody }
