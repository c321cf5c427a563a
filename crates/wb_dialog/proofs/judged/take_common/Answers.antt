use Rattle.wb_dialog.proofs.EachKind.{leads_common, leads_tick}
use Rattle.wb_dialog.proofs.judged.take_common.Goals as goal

pub returns-in-Some : goal.returns-in-Some
returns-in-Some c = leads_tick c.args.member c.answer-told.new.member c.args.line.now c.in-Some.now c.answer-told.result c.in-Some.ensures.tick c.answer-told.ensures

pub returns-in-None : goal.returns-in-None
returns-in-None c = rw c.of_parts.ensures
    (leads_common c.args.member c.into_parts-kept.result.0 c.answer_kept-told.new.kept c.into_parts-kept.result.1 c.args.line.now c.answer_kept-told.result c.in-None.ensures.tick c.into_parts-kept.ensures.kept c.into_parts-kept.ensures.judge c.answer_kept-told.ensures)
