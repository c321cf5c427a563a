use Rattle.wb_board.proofs.KeptHoldings.{still_kept}
use Rattle.wb_board.proofs.board.Board.meet.Goals as goal

pub invariant_of-first : goal.invariant_of-first
invariant_of-first c = still_kept c.first.inside.pass.seen c.meet.new.first.seen c.first.inside.layers.entries c.first.inside.held c.meet.ensures.first.grows c.first.invariant

pub invariant_of-second : goal.invariant_of-second
invariant_of-second c = still_kept c.second.inside.pass.seen c.meet.new.second.seen c.second.inside.layers.entries c.second.inside.held c.meet.ensures.second.grows c.second.invariant
