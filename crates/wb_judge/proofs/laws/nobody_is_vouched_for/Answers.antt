use Rattle.wb_judge.proofs.Shared.{stays_strange, vouches_for_nobody}
use Rattle.wb_judge.proofs.laws.nobody_is_vouched_for.Goals as goal

pub returns : goal.returns
returns c = record { others = vouches_for_nobody; own = stays_strange }
