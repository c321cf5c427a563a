use Rattle.std.proofs.Common.{arith}
use Rattle.wb_display.proofs.Lines.{level_drawn, line_missed}
use Rattle.wb_display.proofs.strokes.draw_line.Goals as goal

pub returns-then-from-to : goal.returns-then-from-to
returns-then-from-to c = level_drawn _ _ _ _ _ _ _ _ _ c.if-from-to.true c.draw_row.ensures

pub returns-then-inside : goal.returns-then-inside
returns-then-inside c = line_missed _ _ _ _ _ _ _ _ _ c.steps_on_canvas-inside.ensures _ (omega arith) c.if-inside.true
