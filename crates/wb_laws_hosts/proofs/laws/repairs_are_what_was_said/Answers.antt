use Rattle.wb_laws_hosts.proofs.Said.{held_was_said, sent_once, sent_was_said}
use Rattle.wb_laws_hosts.proofs.laws.repairs_are_what_was_said.Goals as goal

pub returns : goal.returns
returns c = record { said = sent_was_said; held = held_was_said; once = sent_once }
