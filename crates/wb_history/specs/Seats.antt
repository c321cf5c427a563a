-- What a clause says of a seat at the table of a history.
use Rattle.std.specs.Prelude.{◌≡◌}
use Rattle.atomic_table.specs.declared.shared.Seat.{Seat}
use Rattle.wb_history.specs.declared.knowledge.Knowledge.{Knowledge}
use Rattle.wb_names.specs.Values.{DrawopValue}
use Rattle.wb_history.specs.declared.cells.CellTable.{CellTable}

abbrev pub HistorySeat : Type 0
HistorySeat = Seat DrawopValue Knowledge

-- it is a seat at the table of this history, and not spent
abbrev pub SitsAt : CellTable → HistorySeat → Type 0
SitsAt h p = (p.table_id ≡ h.table.shared.table_id) × (p.me.0.cells ≡ h.cells)

abbrev pub SameSeat : HistorySeat → HistorySeat → Type 0
SameSeat p q = (q.table_id ≡ p.table_id) × (q.id ≡ p.id) × (q.me.1 ≡ p.me.1)
