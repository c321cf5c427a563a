use Rattle.wb_laws_machines.proofs.Agreeing.{held_once, held_was_drawn, names_mean_one_there, none_clashes, numbers_count_there}
use Rattle.wb_host_sessions.specs.Hosts.{hosts}
use Rattle.wb_host_sessions.proofs.Hosts.{hosts_are_lawful}
use Rattle.wb_host_sessions.proofs.Sessions.{hosts_are_honest, sent_was_drawn}
use Rattle.wb_host_sessions.proofs.laws.nothing_is_invented.Goals as goal

pub returns : goal.returns
returns c = record {
  honest = hosts_are_honest;
  held = held_was_drawn hosts hosts_are_lawful;
  names = names_mean_one_there hosts hosts_are_lawful;
  numbers = numbers_count_there hosts hosts_are_lawful;
  once = held_once hosts hosts_are_lawful;
  sent = sent_was_drawn;
  clashes = none_clashes hosts hosts_are_lawful;
}
