use Rattle.wb_display.specs.Cells.{Overlays}
use Rattle.wb_display.specs.Canvas.{is_on_text, text_glyph}
use Rattle.wb_display.proofs.strokes.draw_text.Given as goal

abbrev pub invariant-loop-i : goal.invariant-loop-i
invariant-loop-i l = Overlays l.size.width l.size.height (is_on_text l.from.x l.from.y l.i) (text_glyph l.from.x l.text) l.fn.cells l.cells
