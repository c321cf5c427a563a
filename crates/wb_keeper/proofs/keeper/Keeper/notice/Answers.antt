use Rattle.std.proofs.Common.{◌∙◌, sym, ap, subst, refl, List}
use Rattle.wb_recovery.specs.Accepted as timers
use Rattle.wb_recovery.specs.Noticing.{notices}
use Rattle.wb_recovery.specs.declared.missed.Missed.{Missed}
use Rattle.wb_keeper.specs.Keeper.{Miss, events_of}
use Rattle.wb_keeper.specs.Keeping.{KeeperValue}
use Rattle.wb_recovery.proofs.Outcomes.{on_no_err}
use Rattle.wb_keeper.proofs.KeptCalls.{keeps_inward, same_missed}
use Rattle.wb_keeper.proofs.keeper.Keeper.notice.Goals as goal

pub returns-clause-ok : goal.returns-clause-ok
returns-clause-ok c =
    let a = c.args in
    let new = c.notice_all.new.self in
    let ok = on_no_err c.notice_all.result (sym c.is_err.ensures.value ∙ c.if-is_err.false) c.notice_all.ensures.ok in
    keeps_inward (Miss a.now a.names.now a.words.now) (record { delays = λ me source. refl; sessions = λ me. refl; marks = λ me page source. refl; merged = λ me page. refl }) a.self.now _ new a.now
    (ap (λ (v : KeeperValue). record v { moment = a.now; recovery = new }) c.self.view_is)
    (λ calls. refl)
    (λ me t calls s.
    subst (λ (missed : List Missed). timers.StandsFor t (notices a.now (events_of me calls) missed) new)
    (c.deref.ensures.value ∙ c.in_ok-missed.ensures ∙ same_missed _ _ s.delays a.names.now a.words.now)
    (ok t (events_of me calls) (subst (λ (v : KeeperValue). timers.StandsFor t (events_of me calls) v.recovery) (sym c.self.view_is) s.recovery)))
