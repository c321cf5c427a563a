use Rattle.wb_feed.proofs.Rules.{merges_kept}
use Rattle.wb_feed.proofs.sender.Feeding.absorb.Goals as goal

pub absorb-requires-clause-rule : goal.absorb-requires-clause-rule
absorb-requires-clause-rule c = merges_kept _ _ _ _
