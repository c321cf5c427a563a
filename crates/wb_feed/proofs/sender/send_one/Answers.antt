use Rattle.wb_feed.proofs.Rules.{sends_kept}
use Rattle.wb_feed.proofs.sender.send_one.Goals as goal

pub send_as-requires-clause-rule : goal.send_as-requires-clause-rule
send_as-requires-clause-rule g c = (sends_kept _ _ _ _ c.requires.sender (c.requires.next c.if-not-going.false), λ items views h at. tt)
