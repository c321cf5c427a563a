use Rattle.wb_digest.proofs.Ordered.{digests_agree}
use Rattle.wb_digest.proofs.laws.digests_agree.Goals as goal

pub returns : goal.returns
returns c = digests_agree
