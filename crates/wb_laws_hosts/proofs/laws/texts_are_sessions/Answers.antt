use Rattle.wb_laws_hosts.proofs.Drivers.{lines_are_honest_steps}
use Rattle.wb_laws_hosts.proofs.TextSessions.{texts_are_sessions}
use Rattle.wb_laws_hosts.proofs.laws.texts_are_sessions.Goals as goal

pub returns : goal.returns
returns c = record { same = texts_are_sessions; honest = lines_are_honest_steps }
