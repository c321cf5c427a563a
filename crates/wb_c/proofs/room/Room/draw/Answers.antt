use Rattle.std.proofs.Common.{◌≡◌, IfOk, rules, subst}
use Rattle.wb_names.specs.Shapes.{op_of}
use Rattle.wb_keeping.specs.Calls.{Added, KeptLine}
use Rattle.wb_judging.specs.declared.call.Call.{Call}
use Rattle.wb_judging.specs.declared.call.Call.TheVariants.{UserDrew}
use Rattle.wb_c.specs.Performing.{Performs}
use Rattle.wb_c.specs.Serving.{AtJudged, AtMember}
use Rattle.wb_c.proofs.Served.{either_judged, either_kept}
use Rattle.wb_c.proofs.room.Room.draw.Goals as goal

pub returns-then-is_judged : goal.returns-then-is_judged
returns-then-is_judged c =
    let d = c.args.drawop in
    let same : UserDrew c.args.now c.page-page.result c.op-op.result.now ≡ UserDrew c.args.now d.name.page d.op = search rules in
    either_judged (UserDrew c.args.now d.name.page d.op) (Performs (Added c.args.now d.name.page d.time d.op)) c.args.self.now c.judge.new.self c.judge.result c.is_judged.result c.is_judged.ensures c.if-is_judged.true
    (subst (λ (call : Call). IfOk c.judge.result (AtJudged call c.args.self.now c.judge.new.self)) same c.judge.ensures)

pub returns : goal.returns
returns c =
    let d = c.args.drawop in
    let drawn : KeptLine = Added c.args.now c.page-page.result c.time.result (op_of c.shape_of.result) in
    let same : drawn ≡ Added c.args.now d.name.page d.time d.op = cc in
    either_kept (UserDrew c.args.now d.name.page d.op) (Performs (Added c.args.now d.name.page d.time d.op)) c.args.self.now c.call_kept.new.self c.call_kept.result c.is_judged.result c.is_judged.ensures c.if-is_judged.false
    (subst (λ (line : KeptLine). IfOk c.call_kept.result (AtMember (Performs line) c.args.self.now c.call_kept.new.self)) same c.call_kept.ensures)
