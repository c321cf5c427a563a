use Rattle.wb_host_sessions.proofs.Sessions.{hosts_are_members}
use Rattle.wb_host_sessions.proofs.laws.hosts_are_members.Goals as goal

pub returns : goal.returns
returns c = hosts_are_members
