use Rattle.std.proofs.Common.{[]}
use Rattle.wb_feed.specs.Inside.Arriving.{HasArrived}
use Rattle.wb_feed.proofs.TakenAlone.{AloneSoFar}
use Rattle.wb_feed.proofs.alone.take_alone.Given as goal

abbrev pub invariant-loop-nth : goal.invariant-loop-nth
invariant-loop-nth g l =
    record {
      taken : AloneSoFar l.initial.desk l.arrived.items l.desk l.batch;
      arrived : HasArrived g.S.Arrivals.gives g.S.Arrivals.most_to_come l.initial.arrivals [] l.arrivals l.arrived.items;
    }

abbrev pub decreases-loop-nth : goal.decreases-loop-nth
decreases-loop-nth g l = g.S.Arrivals.most_to_come l.arrivals
