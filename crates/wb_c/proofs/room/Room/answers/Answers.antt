use Rattle.wb_c.specs.Performing.{Answers}
use Rattle.wb_c.proofs.Served.{any_judged, any_kept}
use Rattle.wb_c.proofs.room.Room.answers.Goals as goal

pub returns-then-is_judged : goal.returns-then-is_judged
returns-then-is_judged c = any_judged (Answers c.args.query) c.args.self.now c.answers_judged.new.self c.answers_judged.result c.is_judged.result c.is_judged.ensures c.if-is_judged.true c.answers_judged.ensures

pub returns-else-is_judged : goal.returns-else-is_judged
returns-else-is_judged c = any_kept (Answers c.args.query) c.args.self.now c.answers_kept.new.self c.answers_kept.result c.is_judged.result c.is_judged.ensures c.if-is_judged.false c.answers_kept.ensures
