use Rattle.wb_digest.proofs.Ordered.{digests_are_one}
use Rattle.wb_digest.proofs.laws.digests_are_one.Goals as goal

pub returns : goal.returns
returns c = digests_are_one
