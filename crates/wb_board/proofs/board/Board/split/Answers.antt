use Rattle.wb_board.proofs.KeptHoldings.{split_kept}
use Rattle.wb_board.proofs.board.Board.split.Goals as goal

pub invariant_of-desk : goal.invariant_of-desk
invariant_of-desk c = split_kept c.split.result c.args.rows c.desk.inside.pass c.split.new.pass c.desk.inside.layers.entries c.desk.inside.held c.split.ensures.parts c.desk.invariant

pub invariant_of-desk-2 : goal.invariant_of-desk-2
invariant_of-desk-2 c = split_kept c.split.result c.args.rows c.desk.inside.pass c.split.new.pass c.desk.inside.layers.entries c.desk.inside.held c.split.ensures.parts c.desk.invariant
