use Rattle.wb_feed.proofs.Rules.{receives_kept}
use Rattle.wb_feed.proofs.worker.next_arrival.Goals as goal

pub recv_as-requires-clause-rule : goal.recv_as-requires-clause-rule
recv_as-requires-clause-rule g c = (receives_kept _ _ c.requires.part, λ items views h at. tt)
