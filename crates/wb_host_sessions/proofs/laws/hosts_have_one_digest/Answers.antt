use Rattle.wb_host_sessions.proofs.Digests.{have_one_digest}
use Rattle.wb_host_sessions.proofs.laws.hosts_have_one_digest.Goals as goal

pub returns : goal.returns
returns c = have_one_digest
