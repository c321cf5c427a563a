use Rattle.wb_laws_hosts.proofs.Clashes.{batches_count_no_clash}
use Rattle.wb_laws_hosts.proofs.laws.batches_count_no_clash.Goals as goal

pub returns : goal.returns
returns c = batches_count_no_clash
