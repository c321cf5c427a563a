use Rattle.std.proofs.Common.{true, false, sym, ap, subst, refl}
use Rattle.wb_recovery.specs.Accepted as timers
use Rattle.wb_keeper.specs.Keeper.{GiveUp, events_of}
use Rattle.wb_keeper.specs.Keeping.{KeeperValue}
use Rattle.wb_keeper.proofs.KeptCalls.{keeps_inward}
use Rattle.wb_keeper.proofs.keeper.Keeper.give_up.Goals as goal

pub returns-then-not-is_asked-clause-ok : goal.returns-then-not-is_asked-clause-ok
returns-then-not-is_asked-clause-ok c =
    let a = c.args in
    keeps_inward (GiveUp a.now a.name.now false) (record { delays = λ me source. refl; sessions = λ me. refl; marks = λ me page source. refl; merged = λ me page. refl }) a.self.now _ c.self.inside.recovery a.now
    (ap (λ (v : KeeperValue). record v { moment = a.now; recovery = c.self.inside.recovery }) c.self.view_is)
    (λ calls. refl)
    (λ me t calls s. subst (λ (v : KeeperValue). timers.StandsFor t (events_of me calls) v.recovery) (sym c.self.view_is) s.recovery)

pub returns-clause-ok : goal.returns-clause-ok
returns-clause-ok c =
    let a = c.args in
    let new = c.got.new.self in
    keeps_inward (GiveUp a.now a.name.now true) (record { delays = λ me source. refl; sessions = λ me. refl; marks = λ me page source. refl; merged = λ me page. refl }) a.self.now _ new a.now
    (ap (λ (v : KeeperValue). record v { moment = a.now; recovery = new }) c.self.view_is)
    (λ calls. refl)
    (λ me t calls s. c.in-Ok.ensures.ok t (events_of me calls) (subst (λ (v : KeeperValue). timers.StandsFor t (events_of me calls) v.recovery) (sym c.self.view_is) s.recovery))
