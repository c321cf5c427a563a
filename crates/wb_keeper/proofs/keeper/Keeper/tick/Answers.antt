use Rattle.std.proofs.Common.{ℕ, ◌∙◌, ◌∷◌, sym, ap, subst, refl, List}
use Rattle.wb_recovery.specs.Events.{Tick, actions_of}
use Rattle.wb_recovery.specs.Accepted as timers
use Rattle.wb_recovery.specs.Stopping.{receipts, IsPlanOf}
use Rattle.wb_recovery.specs.declared.missed.Received.{Received}
use Rattle.wb_keeper.specs.Keeper.{GoOn, events_of}
use Rattle.wb_keeper.specs.Keeping.{KeeperValue}
use Rattle.wb_keeper.specs.Ticks.{sends_for, stopped_in}
use Rattle.wb_keeper.proofs.KeptCalls.{keeps_inward, same_received}
use Rattle.wb_keeper.proofs.keeper.Keeper.tick.Goals as goal

pub commit-requires : goal.commit-requires
commit-requires c = (c.args.words.now, subst (λ (cs : List Received). IsPlanOf c.self.inside.recovery cs c.args.words.now c.in-Ok.plan) (c.deref.ensures.value ∙ sym c.deref-2.ensures.value) c.in-Ok.ensures.plan)

pub returns-clause-sent : goal.returns-clause-sent
returns-clause-sent c = λ me constants calls s.
    let seen = c.refresh.new.desk.seen in
    let stopped = stopped_in seen c.args.self.now.recovery in
    let received = c.deref.ensures.value ∙ c.in_ok-received.ensures ∙ same_received _ _ s.delays stopped in
    let stands = subst (λ (v : KeeperValue). timers.StandsFor constants (events_of me calls) v.recovery) (sym c.self.view_is) s.recovery in
    let acts = c.actions.ensures ∙ c.in-Ok.ensures.actions constants (events_of me calls) stands ∙ ap (λ (cs : List Received). actions_of constants (receipts c.args.now (events_of me calls) cs) c.args.now) received in
    c.in_ok-sent.ensures ∙ ap (λ (k : ℕ). sends_for k seen c.actions.result.now) s.me_is ∙ ap (sends_for me seen) acts

pub returns-clause-ok : goal.returns-clause-ok
returns-clause-ok c =
    let a = c.args in
    let stopped = stopped_in c.refresh.new.desk.seen a.self.now.recovery in
    let new = c.commit.new.self in
    keeps_inward (GoOn a.now a.words.now stopped) (record { delays = λ me source. refl; sessions = λ me. refl; marks = λ me page source. refl; merged = λ me page. refl }) a.self.now _ new a.now
    (ap (λ (v : KeeperValue). record v { moment = a.now; recovery = new }) c.self.view_is)
    (λ calls. refl)
    (λ me t calls s.
    subst (λ (cs : List Received). timers.StandsFor t (Tick a.now a.words.now ∷ receipts a.now (events_of me calls) cs) new)
    (c.deref-2.ensures.value ∙ c.in_ok-received.ensures ∙ same_received _ _ s.delays stopped)
    (subst (λ (now : ℕ). timers.StandsFor t (Tick now a.words.now ∷ receipts now (events_of me calls) c.deref-2.result.now) new) c.in-Ok.ensures.moment
    (c.commit.ensures.ok a.words.now (subst (λ (cs : List Received). IsPlanOf c.self.inside.recovery cs a.words.now c.in-Ok.plan) (c.deref.ensures.value ∙ sym c.deref-2.ensures.value) c.in-Ok.ensures.plan)
    t (events_of me calls) (subst (λ (v : KeeperValue). timers.StandsFor t (events_of me calls) v.recovery) (sym c.self.view_is) s.recovery))))
