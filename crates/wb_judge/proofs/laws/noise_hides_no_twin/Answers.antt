use Rattle.wb_judge.proofs.Noise.{aliens_stay}
use Rattle.wb_judge.proofs.laws.noise_hides_no_twin.Goals as goal

pub returns : goal.returns
returns c = aliens_stay
