use Rattle.wb_board.proofs.PageLayers.{caught_up}
use Rattle.wb_board.proofs.layers.PageLayer.catch_up.Goals as goal

pub returns-clause-taken : goal.returns-clause-taken
returns-clause-taken c = caught_up c.args.list.now c.args.self.now c.put_all.new.self c.requires c.in_ok-put_all.ensures.ok
