use Rattle.wb_laws_sessions.proofs.Agreeing.{steps_are_honest}
use Rattle.wb_laws_sessions.proofs.laws.steps_are_honest.Goals as goal

pub returns : goal.returns
returns c = steps_are_honest
