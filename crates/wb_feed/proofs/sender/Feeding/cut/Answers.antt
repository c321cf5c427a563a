use Rattle.wb_feed.proofs.Rules.{forks_kept}
use Rattle.wb_feed.proofs.sender.Feeding.cut.Goals as goal

pub another-requires-clause-rule : goal.another-requires-clause-rule
another-requires-clause-rule c = forks_kept _ _ c.requires
