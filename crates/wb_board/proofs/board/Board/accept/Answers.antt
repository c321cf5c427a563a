use Rattle.wb_board.proofs.KeptHoldings.{still_kept}
use Rattle.wb_board.proofs.board.Board.accept.Goals as goal

pub invariant_of-desk : goal.invariant_of-desk
invariant_of-desk c = still_kept c.desk.inside.pass.seen c.claim.new.pass.seen c.desk.inside.layers.entries c.desk.inside.held c.claim.ensures.grows c.desk.invariant
