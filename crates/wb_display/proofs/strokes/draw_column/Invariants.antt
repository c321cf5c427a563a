use Rattle.wb_display.specs.Cells.{Overlays}
use Rattle.wb_display.proofs.Overlaying.{column_upto}
use Rattle.wb_display.proofs.strokes.draw_column.Given as goal

abbrev pub invariant-loop-y : goal.invariant-loop-y
invariant-loop-y l = Overlays l.size.width l.size.height (column_upto l.first l.y l.x) (λ _. l.glyph) l.fn.cells l.cells
