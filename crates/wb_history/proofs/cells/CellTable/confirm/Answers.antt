use Rattle.std.proofs.Common.{arith}
use Rattle.wb_history.proofs.Keeps.{confirms}
use Rattle.wb_history.proofs.cells.CellTable.confirm.Goals as goal

pub load-found-requires : goal.load-found-requires
load-found-requires c =
    let same = c.requires.seat.1 in let size = c.args.self.now.sized in let b = c.args.self.now.bounded in
    (c.requires.seat.0, omega arith, confirms _ _ _ _ _ (omega arith))
