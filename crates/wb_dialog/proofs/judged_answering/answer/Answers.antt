use Rattle.wb_dialog.proofs.Acts.{told_call}
use Rattle.wb_dialog.proofs.judged_answering.answer.Goals as goal

pub returns-in-Call : goal.returns-in-Call
returns-in-Call c = rw (c.in-Call.is, c.events_told.ensures) (told_call c.in-Call.said c.args.member.now c.call.new.self c.call.result c.call.ensures)
