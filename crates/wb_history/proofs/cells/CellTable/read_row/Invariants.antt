use Rattle.wb_history.specs.Sizes.{row_words}
use Rattle.std.proofs.Common.{◌≡◌, take, length}
use Rattle.wb_history.specs.Seats.{SameSeat}
use Rattle.wb_history.proofs.Rows.{ReadSo}
use Rattle.wb_history.proofs.cells.CellTable.read_row.Given as goal

abbrev pub invariant-loop-i : goal.invariant-loop-i
invariant-loop-i l = SameSeat l.initial.seat l.seat × (length l.words ≡ row_words) × ReadSo l.initial.seat.me.0 (take l.i l.words) l.seat.me.0
