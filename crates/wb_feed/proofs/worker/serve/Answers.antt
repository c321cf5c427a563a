use Rattle.wb_feed.proofs.Serving.{serves_none, serves_turn, serves_same}
use Rattle.wb_feed.proofs.worker.serve.Goals as goal
use Rattle.wb_feed.proofs.worker.serve.Goals.{in-None, in-Some+in_default}

pub loop-init : goal.loop-init
loop-init g c = (c.requires.seat.0, serves_none _ _ _ c.requires.seat.1 c.new-told.ensures)

pub loop-preserved : goal.loop-preserved
loop-preserved g c =
    let n = c.in-Some-next_arrival.ensures.some in
    (c.next_arrival.ensures.seat, serves_turn _ _ _ _ _ c.in-Some-next_arrival.arrival.0 c.in-Some-next_arrival.arrival.1 _ _ _ _ c.loop.invariant.1 n.0 n.1 c.take_turn-failed.ensures.kept c.take_turn-failed.ensures.took)

pub returns-clause-served : goal.returns-clause-served
returns-clause-served g c =
    elim c.match-next.branch [
      | in-None w ↦ rw w.pass-is c.loop.invariant.1
      | in-Some+in_default w ↦ rw w.pass-is (serves_same _ _ _ _ _ _ c.loop.invariant.1 w.in_default.ensures.none)
    ]
