use Rattle.wb_dialog.proofs.DrivenHosts.{driven_as_before}
use Rattle.wb_dialog.proofs.laws.driven_hosts_stay.Goals as goal

pub returns : goal.returns
returns c = driven_as_before
