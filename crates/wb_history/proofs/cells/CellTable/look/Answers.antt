use Rattle.std.proofs.Common.{arith}
use Rattle.wb_history.proofs.Keeps.{looks}
use Rattle.wb_history.proofs.cells.CellTable.look.Goals as goal

pub load-requires : goal.load-requires
load-requires c =
    let same = c.requires.seat.1 in let size = c.args.self.now.sized in let b = c.args.self.now.bounded in let p = c.requires.place in
    (c.requires.seat.0, omega arith, looks _ _ _ _ _ p.0 (omega arith) (omega arith))
