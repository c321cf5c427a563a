use Rattle.std.proofs.Common.{take}
use Rattle.wb_display.specs.Cells.{Shows}
use Rattle.wb_display.proofs.canvas.paint_over.Given as goal

abbrev pub invariant-loop-drawop : goal.invariant-loop-drawop
invariant-loop-drawop l = Shows l.size.width l.size.height (take l.drawop-index l.list) l.cells
