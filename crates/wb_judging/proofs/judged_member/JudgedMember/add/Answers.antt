use Rattle.std.proofs.Common.{◌≡◌, ◌∙◌, ℕ, Vec, Global, ap, length, rules, subst, sym}
use Rattle.std.specs.Prelude.{Err, IsTrue, Option, is_some}
use Rattle.wb_names.specs.Shapes.{op_of}
use Rattle.wb_judge.specs.Days.{time_of_day}
use Rattle.wb_judge.specs.Judge.{Judge}
use Rattle.wb_member.specs.Board.{Held}
use Rattle.wb_member.specs.Holding.{MemberValue}
use Rattle.wb_keeping.specs.Performing.{KeptValue}
use Rattle.wb_keeping.specs.Refusing.{IsRefusedBy, add_fault}
use Rattle.wb_judging.specs.Performing.{IsJudgedAt, JudgedValue}
use Rattle.wb_judging.specs.Refusing.{IsRefusedAs}
use Rattle.wb_judging.specs.declared.event.Event.{Event}
use Rattle.wb_judging.specs.declared.handing.Did.{Did}
use Rattle.wb_judging.specs.declared.judged_fault.JudgedFault.{JudgedFault}
use Rattle.wb_judging.specs.declared.judged_fault.JudgedFault.TheVariants.{Kept}
use Rattle.wb_judging.proofs.Drawn.{drawn_fault, drew, none_of, refused_as, some_in}
use Rattle.wb_judging.proofs.judged_member.JudgedMember.add.Goals as goal

pub returns-in_err-did-clause-fault : goal.returns-in_err-did-clause-fault
returns-in_err-did-clause-fault c = λ h here.
    let now = c.args.now in
    let page = c.args.page in
    let op = op_of c.args.shape in
    let at = subst (λ (v : JudgedValue). IsJudgedAt v h) (sym c.self.view_is) here in
    let time = c.time_of_day-time.ensures ∙ ap (λ (j : Judge). time_of_day j.clock now) at.judge in
    let count = c.held-held.ensures ∙ ap (λ (m : MemberValue). length m.board.drawops) c.member.ensures ∙ ap (λ (b : Held). length b.drawops) at.kept.member.board in
    let none = none_of c.adding_fault.result c.in_default.not-Some in
    let whole = drawn_fault now page op h c.is_drawing.result c.held-held.result c.self.inside.judge c.adding_fault.result c.adding_fault.ensures none c.is_drawing.ensures count at.judge (sym (c.has_number.ensures h.kept at.kept) ∙ c.if-not-has_number.false) in
    let e = c.in_err-did.field-0.0 in
    let gives : c.from_residual.result ≡ Err (Kept e) = search rules in
    let is = subst (λ (t : ℕ). IsRefusedBy {X = Did} (add_fault now page t op h.kept) (Err e)) time (c.in_err-did.ensures.fault h.kept at.kept) in
    subst (λ (f : Option JudgedFault). IsRefusedAs {X = Vec Event Global} f c.from_residual.result) (sym whole)
    (refused_as Did (Vec Event Global) (add_fault now page (time_of_day h.judge.clock now) op h.kept) e c.from_residual.result is gives)

pub returns-in_err-did-clause-refused : goal.returns-in_err-did-clause-refused
returns-in_err-did-clause-refused c = λ h here some.
    let now = c.args.now in
    let page = c.args.page in
    let op = op_of c.args.shape in
    let at = subst (λ (v : JudgedValue). IsJudgedAt v h) (sym c.self.view_is) here in
    let time = c.time_of_day-time.ensures ∙ ap (λ (j : Judge). time_of_day j.clock now) at.judge in
    let count = c.held-held.ensures ∙ ap (λ (m : MemberValue). length m.board.drawops) c.member.ensures ∙ ap (λ (b : Held). length b.drawops) at.kept.member.board in
    let none = none_of c.adding_fault.result c.in_default.not-Some in
    let whole = drawn_fault now page op h c.is_drawing.result c.held-held.result c.self.inside.judge c.adding_fault.result c.adding_fault.ensures none c.is_drawing.ensures count at.judge (sym (c.has_number.ensures h.kept at.kept) ∙ c.if-not-has_number.false) in
    let some_kept = some_in (add_fault now page (time_of_day h.judge.clock now) op h.kept) (subst (λ (f : Option JudgedFault). IsTrue (is_some f)) whole some) in
    let back = subst (λ (t : ℕ). IsTrue (is_some (add_fault now page t op h.kept))) (sym time) some_kept in
    ap (λ (k : KeptValue). let v : JudgedValue = record { kept = k; judge = c.self.inside.judge } in v) (c.perform.ensures.refused h.kept at.kept back) ∙ c.self.view_is

pub returns-clause-does : goal.returns-clause-does
returns-clause-does c = λ h here.
    let at = subst (λ (v : JudgedValue). IsJudgedAt v h) (sym c.self.view_is) here in
    drew c.args.now c.args.page (op_of c.args.shape) h c.self.inside.kept c.perform.new.kept c.self.inside.judge c.time_of_day-time.result c.in_ok-did.did.held
    c.in_ok-did.did.sent.items c.in_ok-did.did.fate c.new.result.items c.new-events.result.items c.tell.new.events.items c.tell.new.self
    at c.time_of_day-time.ensures c.in_ok-did.ensures.does c.new.ensures.items c.new-events.ensures.items
    c.in_ok-tell.ensures.kept c.in_ok-tell.ensures.judge c.in_ok-tell.ensures.events
