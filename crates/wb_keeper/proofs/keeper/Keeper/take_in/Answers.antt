use Rattle.std.proofs.Common.{false, ap, ◌∙◌, sym, subst}
use Rattle.wb_codec.specs.declared.datagram.Datagram.{Datagram}
use Rattle.wb_keeper.specs.Hearing.{asks_for_held}
use Rattle.wb_keeper.specs.Keeper.{Hear, is_own}
use Rattle.wb_keeper.specs.Keeping.{Keeps, marks_at}
use Rattle.wb_keeper.specs.TakingIn.{AreMerged}
use Rattle.wb_keeper.proofs.HeardCalls.{keeps_state, keeps_session}
use Rattle.wb_keeper.proofs.MapEdits.{on_ok_so, on_ok_both}
use Rattle.wb_keeper.proofs.keeper.Keeper.take_in.Goals as goal

pub returns-in-PageState-clause-ok : goal.returns-in-PageState-clause-ok
returns-in-PageState-clause-ok c =
    let a = c.args in
    let d = c.in-PageState in
    let merged = subst (λ (x : Datagram). AreMerged (marks_at a.self.now.marks) x a.merged) d.is c.requires.merged in
    on_ok_so c.note_marks.result _ _ (λ is. subst (λ (x : Datagram). Keeps (Hear a.now x a.word (asks_for_held a.desk.now.seen x)) a.self.now c.note_marks.new.self) (sym d.is)
    (keeps_state a.self.now c.note_marks.new.self a.now d.sender d.page d.marks a.merged a.word false (sym (ap (is_own a.self.now.me) d.is) ∙ c.requires.other) is merged)) c.note_marks.ensures.ok

pub returns-in-Session-clause-ok : goal.returns-in-Session-clause-ok
returns-in-Session-clause-ok c =
    let a = c.args in
    let d = c.in-Session in
    let merged = subst (λ (x : Datagram). AreMerged (marks_at a.self.now.marks) x a.merged) d.is c.requires.merged in
    on_ok_both c.note_session.result _ _ _ (λ is counted. subst (λ (x : Datagram). Keeps (Hear a.now x a.word (asks_for_held a.desk.now.seen x)) a.self.now c.note_session.new.self) (sym d.is)
    (keeps_session a.self.now c.note_session.new.self a.now d.sender d.sent d.page d.marks a.merged d.echoes c.delay_given-delay.result a.word false (sym (ap (is_own a.self.now.me) d.is) ∙ c.requires.other) c.delay_given-delay.ensures is counted merged)) c.note_session.ensures.ok c.note_session.ensures.counted

pub returns-in-Request-clause-ok : goal.returns-in-Request-clause-ok
returns-in-Request-clause-ok c =
    let a = c.args in
    on_ok_so c.note_request.result _ _ (λ keeps. subst (λ (x : Datagram). Keeps (Hear a.now x a.word (asks_for_held a.desk.now.seen x)) a.self.now c.note_request.new.self) (sym c.in-Request.is) keeps) c.note_request.ensures.ok
