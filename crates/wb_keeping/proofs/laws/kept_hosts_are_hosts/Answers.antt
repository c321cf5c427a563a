use Rattle.wb_keeping.proofs.KeptHosts.{kept_hosts_are_hosts}
use Rattle.wb_keeping.proofs.PolicyCalls.{calls_are_of_policies}
use Rattle.wb_keeping.proofs.laws.kept_hosts_are_hosts.Goals as goal

pub returns-clause-same : goal.returns-clause-same
returns-clause-same c = kept_hosts_are_hosts

pub returns-clause-calls : goal.returns-clause-calls
returns-clause-calls c = calls_are_of_policies
