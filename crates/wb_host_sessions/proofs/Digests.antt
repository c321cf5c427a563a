-- Hosts that agree have one digest.
use Rattle.wb_digest.proofs.Ordered.{digests_agree}
use Rattle.wb_laws_machines.proofs.Drawn.{held_once_at}
use Rattle.wb_host_sessions.specs.Hosts.{hosts}
use Rattle.wb_host_sessions.specs.Digests.{HostsHaveOneDigest}
use Rattle.wb_host_sessions.proofs.Hosts.{hosts_are_lawful}
use Rattle.wb_host_sessions.proofs.Sessions.{hosts_agree}

pub have_one_digest : HostsHaveOneDigest
have_one_digest numbers trace older older' i j page digest again apart taken keep behind behind' same none nothing d e =
    let agree = hosts_agree numbers trace page apart taken keep older older' i j behind behind' same none nothing in
    digests_agree _ _ page digest again (held_once_at hosts numbers hosts_are_lawful older i) (held_once_at hosts numbers hosts_are_lawful older' j) agree.back agree.over d e
