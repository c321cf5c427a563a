use Rattle.wb_laws_hosts.proofs.Telling.{texts_tell_sends}
use Rattle.wb_laws_hosts.proofs.laws.texts_tell_sends.Goals as goal

pub returns : goal.returns
returns c = texts_tell_sends
