use Rattle.std.proofs.Common.{◌≡◌, List, length, ◌-◌}
use Rattle.wb_names.specs.Values.{DrawopValue}
use Rattle.wb_history.specs.Cursors.{Walked}
use Rattle.wb_names.specs.History.{HoldsName}
use Rattle.wb_codec.specs.Rows.{row}
use Rattle.wb_history.proofs.cells.CellTable.contend.Given as goal

abbrev pub invariant-loop-place : goal.invariant-loop-place
invariant-loop-place l = ((more : List DrawopValue) × Walked l.initial.cursor more 0 l.cursor) × (l.cursor.seat.me.0.stored ≡ row l.drawop) × (HoldsName l.cursor.seen.items l.drawop.name → ⊥)

abbrev pub decreases-loop-place : goal.decreases-loop-place
decreases-loop-place l = l.self.cells - length l.cursor.seen.items
