use Rattle.std.proofs.Common.{◌∙◌}
use Rattle.wb_c.proofs.room.Room.answer.Goals as goal

pub returns-in_ok-self-in-Ok-clause-took : goal.returns-in_ok-self-in-Ok-clause-took
returns-in_ok-self-in-Ok-clause-took c = λ s at. let took = c.in-Ok.ensures.took s at in (took.0, c.in_ok-self-in-Ok.ensures ∙ took.1)
