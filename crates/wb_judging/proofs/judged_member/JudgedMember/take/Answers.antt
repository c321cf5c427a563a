use Rattle.std.proofs.Common.{◌≡◌, ◌∙◌, ap, rules, subst, sym}
use Rattle.std.specs.Prelude.{Bool, Err, None, Option}
use Rattle.wb_names.specs.Faults.{fault_unless}
use Rattle.wb_names.specs.Moments.{IsMoment}
use Rattle.wb_judge.specs.declared.verdict.Why.{Why}
use Rattle.wb_keeper.specs.declared.keep_fault.KeepFault.TheVariants.{BackInTime}
use Rattle.wb_keeping.specs.Laws.{fault_of}
use Rattle.wb_keeping.specs.declared.kept_fault.KeptFault.TheVariants.{Host}
use Rattle.wb_keeping.proofs.Performed.{at_inside}
use Rattle.wb_judging.specs.Handing.{handed_for}
use Rattle.wb_judging.specs.Performing.{IsJudgedAt, JudgedValue}
use Rattle.wb_judging.specs.declared.judged_fault.JudgedFault.TheVariants.{Kept}
use Rattle.wb_judging.proofs.Handed.{handed_fault}
use Rattle.wb_judging.proofs.Taken.{not_refused, took, why_is}
use Rattle.wb_judging.proofs.judged_member.JudgedMember.take.Goals as goal

pub weigh-requires : goal.weigh-requires
weigh-requires c = subst IsMoment (sym c.in_ok-facts.ensures.at) c.requires

pub returns-in_err-did-clause-fault : goal.returns-in_err-did-clause-fault
returns-in_err-did-clause-fault c = λ h here time.
    let now = c.args.now in
    let o = c.args.origin in
    let v = c.args.datagram.now in
    let at = subst (λ (v : JudgedValue). IsJudgedAt v h) (sym c.self.view_is) here in
    let e = c.in_err-did.field-0.0 in
    let gives : c.from_residual-in_err-did.result ≡ Err (Kept e) = search rules in
    let facts = c.in_ok-facts.ensures.facts h.kept at.kept in
    let why = why_is now o v h c.in_ok-facts.facts c.self.inside.judge c.in_ok-weighed.weighed.verdict c.in_ok-weighed.ensures.verdict facts at.judge in
    let none : fault_of (handed_for now v c.in_ok-weighed.weighed.verdict.why) h.kept ≡ None =
    ap (λ (w : Option Why). fault_of (handed_for now v w) h.kept) why ∙ handed_fault now o v h at.own ∙ ap (λ (b : Bool). fault_unless b (Host BackInTime)) time in
    not_refused _ _ (fault_of (handed_for now v c.in_ok-weighed.weighed.verdict.why) h.kept) e c.from_residual-in_err-did.result
    (c.in_err-did.ensures.fault h.kept (at_inside h.kept c.in_ok-facts.ensures.same at.kept)) none gives

pub returns-clause-does : goal.returns-clause-does
returns-clause-does c = λ h here.
    let at = subst (λ (v : JudgedValue). IsJudgedAt v h) (sym c.self.view_is) here in
    took c.args.now c.args.origin c.args.datagram.now h c.self.inside.kept c.facts_of.new.kept c.hand.new.kept c.self.inside.judge c.weigh.new.judge c.hear_fate.new.judge
    c.in_ok-facts.facts c.in_ok-weighed.weighed.verdict c.in_ok-did.did.held c.in_ok-did.did.sent.items c.in_ok-did.did.fate c.in_ok-weighed.weighed.lines.items
    c.new-events.result.items c.add_dropped.new.events.items c.tell.new.events.items c.add_advice.new.events.items c.tell.new.self
    at c.in_ok-facts.ensures.same c.in_ok-facts.ensures.at c.in_ok-facts.ensures.facts
    (record { judged = c.in_ok-weighed.ensures.verdict; judge = c.in_ok-weighed.ensures.judge; lines = c.in_ok-weighed.ensures.lines })
    c.in_ok-did.ensures.does c.hear_fate.ensures
    c.new-events.ensures.items c.in_ok-add_dropped.ensures c.in_ok-tell.ensures.kept c.in_ok-tell.ensures.judge c.in_ok-tell.ensures.events c.in_ok-add_advice.ensures
