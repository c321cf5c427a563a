use Rattle.std.proofs.Common.{ap}
use Rattle.wb_history.specs.Passes.{PassValue}
use Rattle.wb_board.proofs.KeptHoldings.{join_kept, same_kept}
use Rattle.wb_board.proofs.board.Board.join.Goals as goal

-- the other desk comes back as it was
pub invariant_of-result : goal.invariant_of-result
invariant_of-result c = same_kept c.other.inside.pass.seen c.in-Err.pass.seen c.other.inside.layers.entries c.other.inside.held (ap (λ (p : PassValue). p.seen) c.in-Err.ensures.joined.1) c.other.invariant

pub invariant_of-desk : goal.invariant_of-desk
invariant_of-desk c = join_kept c.join.result c.desk.inside.pass c.other.inside.pass c.join.new.pass c.desk.inside.layers.entries c.desk.inside.held c.join.ensures.joined c.desk.invariant

pub invariant_of-desk-2 : goal.invariant_of-desk-2
invariant_of-desk-2 c = join_kept c.join.result c.desk.inside.pass c.other.inside.pass c.join.new.pass c.desk.inside.layers.entries c.desk.inside.held c.join.ensures.joined c.desk.invariant
