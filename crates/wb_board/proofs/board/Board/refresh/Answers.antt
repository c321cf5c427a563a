use Rattle.wb_board.proofs.KeptHoldings.{still_kept}
use Rattle.wb_board.proofs.board.Board.refresh.Goals as goal

pub invariant_of-desk : goal.invariant_of-desk
invariant_of-desk c = still_kept c.desk.inside.pass.seen c.refresh.new.pass.seen c.desk.inside.layers.entries c.desk.inside.held c.refresh.ensures.reads.grows c.desk.invariant

pub invariant_of-desk-2 : goal.invariant_of-desk-2
invariant_of-desk-2 c = still_kept c.desk.inside.pass.seen c.refresh.new.pass.seen c.desk.inside.layers.entries c.desk.inside.held c.refresh.ensures.reads.grows c.desk.invariant
