use Rattle.std.proofs.Common.{◌≡◌}
use Rattle.crossbeam_channel.specs.Claims.{view}
use Rattle.wb_feed.specs.Inside.Arriving.{HasArrived}
use Rattle.wb_feed.specs.Inside.Sent.{Stays}
use Rattle.wb_feed.proofs.sender.Feeding.feed.Given as goal

abbrev pub invariant-loop-position : goal.invariant-loop-position
invariant-loop-position g l =
    record {
      channel : l.self.channel ≡ l.initial.self.channel;
      stays : Stays (view l.initial.self.pass) (view l.self.pass);
      arrived : HasArrived g.S.Arrivals.gives g.S.Arrivals.most_to_come l.initial.arrivals l.initial.self.arrived.items l.arrivals l.self.arrived.items;
    }

abbrev pub decreases-loop-position : goal.decreases-loop-position
decreases-loop-position g l = g.S.Arrivals.most_to_come l.arrivals
