use Rattle.std.proofs.Common.{List, refl, subst}
use Rattle.wb_keeping.specs.Laws.{Ticked}
use Rattle.wb_judging.specs.Judged.{Passed}
use Rattle.wb_judging.specs.Performing.{Goes, JudgedValue, Performs}
use Rattle.wb_judging.specs.declared.record.Giver.TheVariants.{Others}
use Rattle.wb_judging.specs.declared.record.RecordLine.{RecordLine}
use Rattle.wb_judging.proofs.Performed.{went}
use Rattle.wb_judging.proofs.Taken.{passed_on}
use Rattle.wb_judging.proofs.judged_member.JudgedMember.pass.Goals as goal

pub returns-clause-does : goal.returns-clause-does
returns-clause-does c =
    let now = c.args.now in
    let news = c.args.news.now in
    let first = c.in_ok-events.events.items in
    let events = c.tell.new.events.items in
    let new = c.tell.new.self in
    let old : JudgedValue = record { kept = c.self.inside.kept; judge = c.self.inside.judge } in
    let mid : JudgedValue = record { kept = c.self.inside.kept; judge = c.tell_news.new.judge } in
    let ticked : JudgedValue = record { kept = c.perform.new.kept; judge = c.tell_news.new.judge } in
    let goes = went now c.new.result.items Others (Ticked now) mid ticked new c.in_ok-did.did.held c.in_ok-did.did.sent.items c.in_ok-did.did.fate first events
    c.in_ok-did.ensures.does refl c.in_ok-tell.ensures.kept c.in_ok-tell.ensures.judge c.in_ok-tell.ensures.events in
    subst (λ (v : JudgedValue). Performs (Passed now news) v events new) c.self.view_is
    (passed_on now news old mid new first events refl c.tell_news.ensures.judge c.in_ok-events.ensures.events
    (subst (λ (lines : List RecordLine). Goes now lines Others (Ticked now) first mid events new) c.new.ensures.items goes))
