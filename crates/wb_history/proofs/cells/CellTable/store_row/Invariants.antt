use Rattle.std.proofs.Common.{take}
use Rattle.wb_history.specs.Seats.{SameSeat}
use Rattle.wb_history.specs.Lawful.{IsConsistent}
use Rattle.wb_history.specs.Views.{IsStored}
use Rattle.wb_history.proofs.cells.CellTable.store_row.Given as goal

abbrev pub invariant-loop-i : goal.invariant-loop-i
invariant-loop-i l = SameSeat l.initial.seat l.seat × IsStored l.initial.seat.me.0 (take l.i l.words) l.seat.me.0 × IsConsistent l.seat.me.0
