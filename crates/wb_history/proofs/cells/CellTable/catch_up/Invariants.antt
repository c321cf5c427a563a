use Rattle.std.proofs.Common.{List, length, ◌-◌}
use Rattle.wb_names.specs.Values.{DrawopValue}
use Rattle.wb_history.specs.Cursors.{Walked}
use Rattle.wb_history.proofs.cells.CellTable.catch_up.Given as goal

abbrev pub invariant-loop : goal.invariant-loop
invariant-loop l = (more : List DrawopValue) × Walked l.initial.cursor more 0 l.cursor

abbrev pub decreases-loop : goal.decreases-loop
decreases-loop l = l.self.cells - length l.cursor.seen.items
