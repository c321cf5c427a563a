use Rattle.wb_feed.proofs.Sending.{arrived_end}
use Rattle.wb_feed.proofs.sender.Feeding.feed.Goals as goal

pub returns-clause-arrived : goal.returns-clause-arrived
returns-clause-arrived g c =
    let none = rw c.in_default.is at c.in_ok-position.ensures in
    arrived_end _ _ _ _ _ _ _ _ g.met.S.Arrivals.gives_on c.loop-position.invariant.arrived none.0 none.1 none.2
