use Rattle.std.proofs.Common.{◌∙◌, Ok, Err, refl, sym}
use Rattle.wb.proofs.Statuses.{fails}
use Rattle.wb.proofs.serving.finish.Goals as goal

pub returns-in-Ok-clause-served : goal.returns-in-Ok-clause-served
returns-in-Ok-clause-served g c = record { ended = Ok c.in-Ok.field-0; performed = c.in-Ok.ensures; explained = refl; answered = refl }

pub returns-in-Err-clause-served : goal.returns-in-Err-clause-served
returns-in-Err-clause-served g c = record { ended = Err c.in-Err.failure; performed = c.in-Err.ensures; explained = c.report.ensures.text; answered = c.report.ensures.status }

pub returns-in-Err-clause-quiet : goal.returns-in-Err-clause-quiet
returns-in-Err-clause-quiet g c = λ e. absurd (fails c.in-Err.failure (sym c.report.ensures.status ∙ e))
