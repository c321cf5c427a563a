use Rattle.wb_laws_machines.proofs.Agreeing.{whole_boards_agree}
use Rattle.wb_host_sessions.specs.Hosts.{hosts}
use Rattle.wb_host_sessions.proofs.Hosts.{hosts_are_lawful}
use Rattle.wb_host_sessions.proofs.laws.whole_boards_agree.Goals as goal

pub returns : goal.returns
returns c = whole_boards_agree hosts hosts_are_lawful
