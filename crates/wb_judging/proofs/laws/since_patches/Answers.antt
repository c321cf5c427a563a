use Rattle.wb_judging.proofs.Patching.{since_patches}
use Rattle.wb_judging.proofs.laws.since_patches.Goals as goal

pub returns : goal.returns
returns c = since_patches
