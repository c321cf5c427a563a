use Rattle.std.proofs.Common.{◌≡◌, ◌+◌}
use Rattle.wb_display.specs.Canvas.{distance}
use Rattle.wb_display.specs.Cells.{Overlays}
use Rattle.wb_display.proofs.Lines.{line_upto}
use Rattle.wb_display.proofs.strokes.draw_across.Given as goal

abbrev pub invariant-loop-k : goal.invariant-loop-k
invariant-loop-k l = record {
  walk : l.y ≡ record { from = l.fn.from.y; to = l.fn.to.y; steps = distance l.fn.from.x l.fn.to.x; gone = l.k };
  drawn : Overlays l.size.width l.size.height (line_upto l.fn.from.x l.fn.from.y l.fn.to.x l.fn.to.y (distance l.fn.from.x l.fn.to.x) (l.k + 1)) (λ _. l.glyph) l.fn.cells l.cells;
}
