use Rattle.std.proofs.Common.{◌∙◌, sym, ap, subst, refl, List}
use Rattle.std.specs.Prelude.{filter}
use Rattle.wb_recovery.specs.Accepted as timers
use Rattle.wb_recovery.specs.Stopping.{receipts}
use Rattle.wb_recovery.specs.declared.missed.Received.{Received}
use Rattle.wb_keeper.specs.Keeper.{Arrive, received_of, holds, events_of}
use Rattle.wb_keeper.specs.Keeping.{KeeperValue, delay_at}
use Rattle.wb_keeper.proofs.KeptCalls.{keeps_inward, same_received}
use Rattle.wb_keeper.proofs.keeper.Keeper.arrived.Goals as goal

pub returns-clause-ok : goal.returns-clause-ok
returns-clause-ok c =
    let held = filter (holds c.args.desk.now.seen) c.args.names.now in
    let new = c.receive_all.new.self in
    keeps_inward (Arrive c.args.now held) (record { delays = λ me source. refl; sessions = λ me. refl; marks = λ me page source. refl; merged = λ me page. refl }) c.args.self.now new new.recovery c.args.now
    (c.receive_all.ensures.rest ∙ ap (λ (v : KeeperValue). record v { moment = c.args.now; recovery = new.recovery }) c.self.view_is)
    (λ calls. refl)
    (λ me t calls s.
    subst (λ (received : List Received). timers.StandsFor t (receipts c.args.now (events_of me calls) received) new.recovery)
    (ap (λ (v : KeeperValue). received_of (delay_at v.delays) held) c.self.view_is ∙ same_received _ _ s.delays held)
    (c.receive_all.ensures.came t (events_of me calls) (subst (λ (v : KeeperValue). timers.StandsFor t (events_of me calls) v.recovery) (sym c.self.view_is) s.recovery)))
