use Rattle.std.proofs.Common.{rules}
use Rattle.wb_feed.proofs.Telling.{relays_all, hears_keeps}
use Rattle.wb_feed.proofs.relays.relay.Goals as goal

pub returns-clause-kept : goal.returns-clause-kept
returns-clause-kept g c = (search rules, hears_keeps _ _ _ _ c.hear-reply.ensures)

pub returns-clause-relayed : goal.returns-clause-relayed
returns-clause-relayed g c = relays_all _ _ _ _ _ _ _ (search rules) c.hear-reply.ensures
