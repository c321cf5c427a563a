use Rattle.std.proofs.Common.{IfOk, refl, subst, arith}
use Rattle.wb_codec.specs.Reading.{reading}
use Rattle.wb_judging.specs.declared.call.Call.{Call}
use Rattle.wb_c.specs.Serving.{AtJudged, arrival}
use Rattle.wb_c.proofs.Served.{all_in_time, not_in_time}
use Rattle.wb_c.proofs.room.Room.came_from.Goals as goal

pub returns-then-now-ge-MOMENT_LIMIT : goal.returns-then-now-ge-MOMENT_LIMIT
returns-then-now-ge-MOMENT_LIMIT c =
    not_in_time (AtJudged (arrival c.args.now c.args.origin (reading c.args.bytes.now))) c.args.self.now c.args.self.now 8 c.args.now c.if-now-ge-MOMENT_LIMIT.true (refl, refl)

pub returns : goal.returns
returns c =
    let call = arrival c.args.now c.args.origin (reading c.args.bytes.now) in
    all_in_time (AtJudged call) c.args.self.now c.judge.new.self c.args.now c.judge.result (omega (arith, c.if-now-ge-MOMENT_LIMIT.false))
    (subst (λ (call : Call). IfOk c.judge.result (AtJudged call c.args.self.now c.judge.new.self)) c.in_ok-call.ensures.call c.judge.ensures)
