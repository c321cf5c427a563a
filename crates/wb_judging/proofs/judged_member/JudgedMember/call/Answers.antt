use Rattle.std.proofs.Common.{◌∙◌, ap, refl, sym}
use Rattle.wb_names.specs.Shapes.{op_of}
use Rattle.wb_names.specs.declared.parts.Op.{Op}
use Rattle.wb_judging.specs.Judged.{CameFrom, Held, Passed, UserDrew}
use Rattle.wb_judging.specs.Refusing.{held_fault}
use Rattle.wb_judging.proofs.Called.{answers_as, answers_in_time, refused_early}
use Rattle.wb_judging.proofs.Drawn.{some_in}
use Rattle.wb_judging.proofs.judged_member.JudgedMember.call.Goals as goal

pub returns-then-is_early : goal.returns-then-is_early
returns-then-is_early c = λ h at. refused_early c.args.call.now h c.args.self.now (sym (c.is_early.ensures h at) ∙ c.if-is_early.true)

pub returns-in-CameFrom : goal.returns-in-CameFrom
returns-in-CameFrom c =
    let it = c.in-CameFrom in
    answers_in_time c.args.call.now (CameFrom it.now it.origin it.datagram) it.now c.args.self.now c.take.new.self c.take.result it.is (λ h. refl) (λ h. refl)
    (λ h at. sym (c.is_early.ensures h at) ∙ c.if-is_early.false) (λ h at time. c.take.ensures.fault h at time) c.take.ensures.does

pub returns-in-Passed : goal.returns-in-Passed
returns-in-Passed c =
    let it = c.in-Passed in
    answers_in_time c.args.call.now (Passed it.now it.news) it.now c.args.self.now c.pass.new.self c.pass.result it.is (λ h. refl) (λ h. refl)
    (λ h at. sym (c.is_early.ensures h at) ∙ c.if-is_early.false) (λ h at time. c.pass.ensures.fault h at time) c.pass.ensures.does

pub returns-in-UserDrew : goal.returns-in-UserDrew
returns-in-UserDrew c =
    let it = c.in-UserDrew in
    let drew = UserDrew it.now it.page (op_of c.shape_of.result) in
    answers_as c.args.call.now drew c.args.self.now c.add.new.self c.add.result (it.is ∙ ap (λ (o : Op). UserDrew it.now it.page o) (sym c.shape_of.ensures))
    (λ h at. c.add.ensures.fault h at) (λ h at. c.add.ensures.refused h at) c.add.ensures.does

pub returns-in-Held : goal.returns-in-Held
returns-in-Held c =
    let it = c.in-Held in
    let line = it.line in
    answers_as c.args.call.now (Held line) c.args.self.now c.held.new.self c.held.result it.is
    (λ h at. c.held.ensures.fault h at) (λ h at some. c.held.ensures.refused h at (some_in (held_fault line h) some)) c.held.ensures.does
