use Rattle.wb_keeping.specs.Laws.{Came}
use Rattle.wb_c.specs.Performing.{Performs}
use Rattle.wb_c.specs.Serving.{AtMember}
use Rattle.wb_c.proofs.Served.{refused_at_judged, unjudged_did}
use Rattle.wb_c.proofs.room.Room.take_unjudged.Goals as goal

pub returns-then-is_judged : goal.returns-then-is_judged
returns-then-is_judged c = refused_at_judged (AtMember (Performs (Came c.args.now c.args.datagram.now))) c.args.self.now c.is_judged.result c.is_judged.ensures c.if-is_judged.true

pub returns : goal.returns
returns c =
    unjudged_did (AtMember (Performs (Came c.args.now c.args.datagram.now))) c.args.self.now c.call_kept.new.self c.call_kept.result c.is_judged.result c.is_judged.ensures c.if-is_judged.false c.call_kept.ensures
