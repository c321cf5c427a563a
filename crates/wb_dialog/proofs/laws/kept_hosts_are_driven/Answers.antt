use Rattle.wb_dialog.proofs.KeptHosts.{kept_is_driven}
use Rattle.wb_dialog.proofs.laws.kept_hosts_are_driven.Goals as goal

pub returns : goal.returns
returns c = kept_is_driven
