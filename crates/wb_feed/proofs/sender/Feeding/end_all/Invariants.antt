use Rattle.std.proofs.Common.{◌≡◌}
use Rattle.crossbeam_channel.specs.Claims.{view}
use Rattle.wb_feed.proofs.sender.Feeding.end_all.Given as goal

abbrev pub invariant-loop : goal.invariant-loop
invariant-loop g l = (l.self.channel ≡ l.initial.self.channel) × (l.self.arrived ≡ l.initial.self.arrived) × (view l.self.pass ≡ view l.initial.self.pass)
