use Rattle.wb_laws_kept.proofs.Listening.{listening_tells}
use Rattle.wb_laws_kept.proofs.laws.listening_tells.Goals as goal

pub returns : goal.returns
returns c = listening_tells
