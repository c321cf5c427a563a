use Rattle.wb_feed.proofs.Rules.{learns_kept}
use Rattle.wb_feed.proofs.sender.Feeding.learn_all.Goals as goal

pub learn_as-requires-clause-rule : goal.learn_as-requires-clause-rule
learn_as-requires-clause-rule c = learns_kept _ _ c.args.self.now.sent.sends c.requires
