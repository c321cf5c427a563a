use Rattle.std.proofs.Common.{◌∙◌, ap, List}
use Rattle.std.proofs.lemmas.List.{take_all}
use Rattle.wb_names.specs.Values.{DrawopValue}
use Rattle.wb_display.specs.Canvas.{canvas_text}
use Rattle.wb_display.proofs.Overlaying.{shown_text, shows_next}
use Rattle.wb_display.proofs.canvas.paint_over.Goals as goal

pub loop-drawop-preserved : goal.loop-drawop-preserved
loop-drawop-preserved c = shows_next _ _ c.args.list.now c.loop-drawop.drawop-index c.drawop-item.result c.op.result.now _ _ c.loop-drawop-test.true c.drawop-item.is c.op.ensures.op c.loop-drawop.invariant c.paint_op.ensures

pub returns : goal.returns
returns c = shown_text _ _ _ _ c.loop-drawop.invariant ∙ ap (λ (ds : List DrawopValue). canvas_text ds c.args.size.width c.args.size.height) (take_all _ _ c.loop-drawop-test.false)
