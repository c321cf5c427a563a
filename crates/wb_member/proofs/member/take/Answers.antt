use Rattle.wb_names.specs.Arrivals.{Left}
use Rattle.wb_board.specs.Replies.{outcome}
use Rattle.wb_member.proofs.OneArrival.{became, held}
use Rattle.wb_member.proofs.member.take.Goals as goal

pub returns-in-Ok-clause-became : goal.returns-in-Ok-clause-became
returns-in-Ok-clause-became c = became c.args.desk.now c.accept.new.desk c.args.drawop.now (outcome c.in-Ok.reply) c.requires.sound c.requires.whole c.in-Ok.ensures.answer

pub returns-in-Ok-clause-held : goal.returns-in-Ok-clause-held
returns-in-Ok-clause-held c = held c.args.desk.now c.accept.new.desk c.args.drawop.now (outcome c.in-Ok.reply) c.requires.sound c.requires.whole c.accept.ensures.same.1 c.in-Ok.ensures.answer

pub returns-in-Err-NoRow-clause-became : goal.returns-in-Err-NoRow-clause-became
returns-in-Err-NoRow-clause-became c = became c.args.desk.now c.accept.new.desk c.args.drawop.now Left c.requires.sound c.requires.whole (rw c.in-Err-NoRow.field-0-is at c.in-Err-NoRow.ensures.answer)

pub returns-in-Err-NoRow-clause-held : goal.returns-in-Err-NoRow-clause-held
returns-in-Err-NoRow-clause-held c = held c.args.desk.now c.accept.new.desk c.args.drawop.now Left c.requires.sound c.requires.whole c.accept.ensures.same.1 (rw c.in-Err-NoRow.field-0-is at c.in-Err-NoRow.ensures.answer)
