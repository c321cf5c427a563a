use Rattle.std.proofs.Common.{arith}
use Rattle.wb_history.proofs.Keeps.{publishes}
use Rattle.wb_history.proofs.cells.CellTable.publish.Goals as goal

pub compare_exchange_with-requires : goal.compare_exchange_with-requires
compare_exchange_with-requires c =
    let same = c.requires.seat.1 in let size = c.args.self.now.sized in let b = c.args.self.now.bounded in let p = c.requires.place in
    (c.requires.seat.0, omega arith, publishes _ _ _ _ _ _ _ c.args.row p.0 (omega arith) (omega arith) (omega arith) c.requires.row c.requires.stored c.requires.new.0 c.requires.new.1)
