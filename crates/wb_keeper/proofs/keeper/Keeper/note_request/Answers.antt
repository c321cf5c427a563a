use Rattle.std.proofs.Common.{Bool, cond, ◌≡◌, ◌∙◌, ap, sym, subst}
use Rattle.wb_recovery.proofs.Outcomes.{on_no_err}
use Rattle.wb_recovery.specs.Events.{Asked}
use Rattle.wb_recovery.specs.Accepted as timers
use Rattle.wb_keeper.specs.Keeper.{holds}
use Rattle.wb_keeper.specs.Keeping.{KeeperValue, delay_at}
use Rattle.wb_keeper.proofs.HeardCalls.{keeps_request}
use Rattle.wb_keeper.proofs.keeper.Keeper.note_request.Goals as goal
use Rattle.wb_keeper.proofs.keeper.Keeper.note_request.Goals.{then-held, else-held}

pub returns-clause-ok : goal.returns-clause-ok
returns-clause-ok c =
    let a = c.args in
    let ok = on_no_err c.asked.result (sym c.is_err.ensures.value ∙ c.if-is_err.false) c.asked.ensures.ok in
    let key : c.if-held.delay ≡ cond (holds a.desk.now.seen a.name) a.asker a.name.source = elim c.if-held.branch [
      | then-held w ↦ w.delay-is ∙ sym (ap (λ (b : Bool). cond b a.asker a.name.source) (sym c.is_held-held.ensures ∙ w.if-held.true))
      | else-held w ↦ w.delay-is ∙ w.source.ensures ∙ sym (ap (λ (b : Bool). cond b a.asker a.name.source) (sym c.is_held-held.ensures ∙ w.if-held.false))
    ] in
    keeps_request a.self.now _ a.now a.asker a.name a.word (holds a.desk.now.seen a.name) c.asked.new.self c.delay-delay.result c.requires.other (ap (λ (v : KeeperValue). record v { moment = a.now; recovery = c.asked.new.self }) c.self.view_is)
    (c.delay-delay.ensures.delay ∙ ap (λ (v : KeeperValue). delay_at v.delays c.if-held.delay) c.self.view_is ∙ ap (delay_at a.self.now.delays) key)
    (subst (λ (b : Bool). timers.Accepts (Asked a.name b a.now c.delay-delay.result a.word) a.self.now.recovery c.asked.new.self) c.is_held-held.ensures
    (subst (λ (v : KeeperValue). timers.Accepts (Asked a.name c.is_held-held.result a.now c.delay-delay.result a.word) v.recovery c.asked.new.self) c.self.view_is ok))
