use Rattle.std.proofs.Common.{Ok, Err}
use Rattle.wb_member.specs.Questions.{told}
use Rattle.wb_dialog.proofs.KeptReplies.{asks_line}
use Rattle.wb_dialog.proofs.keeping.ask.Goals as goal

pub returns-in-Ok : goal.returns-in-Ok
returns-in-Ok c = asks_line c.args.kept.now c.answer.new.self c.args.query (told c.in_ok-answer.answer) (Ok c.in-Ok.told) c.answer.ensures.same c.in_ok-answer.ensures.answer c.in-Ok.ensures

pub returns-in-Err : goal.returns-in-Err
returns-in-Err c = rw c.refused.ensures (asks_line c.args.kept.now c.answer.new.self c.args.query (told c.in_ok-answer.answer) (Err c.in-Err.fault) c.answer.ensures.same c.in_ok-answer.ensures.answer c.in-Err.ensures)
