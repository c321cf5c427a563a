use Rattle.wb_dialog.proofs.UnjudgedHosts.{unjudged_as_before}
use Rattle.wb_dialog.proofs.laws.unjudged_hosts_stay.Goals as goal

pub returns : goal.returns
returns c = unjudged_as_before
