use Rattle.wb_c.proofs.Judges.{judges}
use Rattle.wb_c.proofs.judging.perform.Goals as goal

pub returns : goal.returns
returns c = judges c.args.call.now c.args.member.now c.call.new.self c.call.result c.args.events.now.items c.tell.new.events.items c.tell.result c.call.ensures c.tell.ensures
