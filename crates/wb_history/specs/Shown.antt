-- How a pass is seen, by its parts.
use Rattle.wb_history.specs.Sizes.{row_stride}
use Rattle.std.specs.Prelude.{◌≡◌, ◌+◌, ◌*◌, ◌<◌, ◌≤◌, length}
use Rattle.wb_history.specs.declared.cursor.Cursor.{Cursor}
use Rattle.wb_history.specs.declared.cells.CellTable.{CellTable}
use Rattle.wb_history.specs.declared.history.TheConstants.{MAX_CELLS}
use Rattle.wb_history.specs.Cursors.{MatchesSeat}
use Rattle.wb_history.specs.Passes.{HistoryValue, PassValue}

abbrev pub history_of : CellTable → HistoryValue
history_of t = record { table = t.table.shared.table_id; cells = t.cells }

abbrev pub view_of : Cursor → PassValue
view_of h = record {
  table = h.seat.table_id;
  cells = h.seat.me.0.cells;
  seen = h.seen.items;
  mine = h.mine.items;
  free = length h.free.items;
  made = h.seat.me.0.made;
  last_word = h.seat.me.0.last_word;
  last_found = h.seat.me.0.last_found;
  steps = h.steps;
}

-- the parts of a pass agree with one another, and its cells are those of its table
abbrev pub PartsAgree : Cursor → Type 0
PartsAgree h = MatchesSeat h × (h.seat.table_id.words ≡ h.seat.me.0.cells + h.seat.me.0.cells * row_stride) × (0 < h.seat.me.0.cells) × (h.seat.me.0.cells ≤ MAX_CELLS)
