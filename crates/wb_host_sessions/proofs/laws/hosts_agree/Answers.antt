use Rattle.wb_host_sessions.proofs.Records.{recorded_hosts_agree}
use Rattle.wb_host_sessions.proofs.Sessions.{hosts_agree}
use Rattle.wb_host_sessions.proofs.laws.hosts_agree.Goals as goal

pub returns : goal.returns
returns c = record { recorded = recorded_hosts_agree; known = hosts_agree }
