use Rattle.wb_laws_hosts.proofs.BlockEnds.{blocks_close_once, inputs_close_once, sessions_close_once}
use Rattle.wb_laws_hosts.proofs.closings.blocks_close_once.Goals as goal

pub returns : goal.returns
returns c = record { block = blocks_close_once; input = inputs_close_once; session = sessions_close_once }
