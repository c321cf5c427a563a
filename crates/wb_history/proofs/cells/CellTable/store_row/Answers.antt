use Rattle.std.proofs.Common.{◌∙◌, arith}
use Rattle.wb_history.proofs.Keeps.{stores_word}
use Rattle.wb_history.proofs.Rows.{last_free, length-some}
use Rattle.wb_history.proofs.cells.CellTable.store_row.Goals as goal

pub store-requires : goal.store-requires
store-requires c =
    let i = c.loop-i.invariant in
    let same = c.requires.seat.1 in
    let size = c.args.self.now.sized in
    let b = c.args.self.now.bounded in
    let r = c.requires.row in
    let s = i.1 in
    let start = c.row_start-start.ensures in
    let cells = s.cells in
    let key = c.args.self.now.keyed in
    let wide = c.to_row-words.ensures.len in
    let done = length-some _ _ _ s.stored (omega arith) in
    (i.0.0 ∙ c.requires.seat.0, omega arith, stores_word _ _ _ _ _ _ c.args.row (omega arith) (last_free _ _ c.args.row s.free r.1) (omega arith) (omega arith))
