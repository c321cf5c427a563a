use Rattle.std.proofs.Common.{◌≡◌, Vec, Global, rules, subst, sym}
use Rattle.std.specs.Prelude.{Err}
use Rattle.wb_member.specs.Holding.{IsOpenAt, MemberValue}
use Rattle.wb_judging.specs.Performing.{IsJudgedAt, JudgedValue}
use Rattle.wb_judging.specs.declared.event.Event.{Event}
use Rattle.wb_judging.specs.declared.handing.Did.{Did}
use Rattle.wb_judging.specs.declared.judged_fault.JudgedFault.TheVariants.{Kept}
use Rattle.wb_judging.proofs.Taken.{not_taken, now_is_time, recalled_done, recalled_refused}
use Rattle.wb_judging.proofs.judged_member.JudgedMember.held.Goals as goal

pub returns-in_err-did-clause-fault : goal.returns-in_err-did-clause-fault
returns-in_err-did-clause-fault c = λ h here.
    let at = subst (λ (v : JudgedValue). IsJudgedAt v h) (sym c.self.view_is) here in
    let opened = subst (λ (v : MemberValue). IsOpenAt v h.kept.host) (sym c.member.ensures) at.kept.member in
    let e = c.in_err-did.field-0.0 in
    let gives : c.from_residual.result ≡ Err (Kept e) = search rules in
    recalled_refused Did (Vec Event Global) c.args.line.now h c.moment-now.result e c.from_residual.result (c.moment-now.ensures.moment h.kept.host opened) (c.in_err-did.ensures.fault h.kept at.kept (now_is_time h.kept c.moment-now.result (c.moment-now.ensures.moment h.kept.host opened))) gives

pub returns-in_err-tell-clause-refused : goal.returns-in_err-tell-clause-refused
returns-in_err-tell-clause-refused c = λ h here some.
    let at = subst (λ (v : JudgedValue). IsJudgedAt v h) (sym c.self.view_is) here in
    let opened = subst (λ (v : MemberValue). IsOpenAt v h.kept.host) (sym c.member.ensures) at.kept.member in
    let moment = c.moment-now.ensures.moment h.kept.host opened in
    absurd (not_taken Did c.args.line.now h c.moment-now.result c.in_ok-did.did moment (c.in_ok-did.ensures.fault h.kept at.kept (now_is_time h.kept c.moment-now.result moment)) some)

pub returns-clause-refused : goal.returns-clause-refused
returns-clause-refused c = λ h here some.
    let at = subst (λ (v : JudgedValue). IsJudgedAt v h) (sym c.self.view_is) here in
    let opened = subst (λ (v : MemberValue). IsOpenAt v h.kept.host) (sym c.member.ensures) at.kept.member in
    let moment = c.moment-now.ensures.moment h.kept.host opened in
    absurd (not_taken Did c.args.line.now h c.moment-now.result c.in_ok-did.did moment (c.in_ok-did.ensures.fault h.kept at.kept (now_is_time h.kept c.moment-now.result moment)) some)

pub returns-clause-does : goal.returns-clause-does
returns-clause-does c = λ h here.
    let at = subst (λ (v : JudgedValue). IsJudgedAt v h) (sym c.self.view_is) here in
    let opened = subst (λ (v : MemberValue). IsOpenAt v h.kept.host) (sym c.member.ensures) at.kept.member in
    recalled_done c.args.line.now h c.self.inside.kept c.recall.new.kept c.self.inside.judge c.hear_recalled.new.judge c.moment-now.result c.in_ok-did.did.held
    c.in_ok-did.did.sent.items c.in_ok-did.did.fate c.new.result.items c.new-events.result.items c.tell.new.events.items c.tell.new.self
    at (c.moment-now.ensures.moment h.kept.host opened) c.in_ok-did.ensures.does c.hear_recalled.ensures c.new.ensures.items c.new-events.ensures.items
    c.in_ok-tell.ensures.kept c.in_ok-tell.ensures.judge c.in_ok-tell.ensures.events
