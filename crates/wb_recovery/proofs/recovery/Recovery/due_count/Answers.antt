use Rattle.std.proofs.Common.{◌≡◌, ◌∙◌, sym, ap, subst, refl, length}
use Rattle.wb_recovery.specs.Timing.{is_ask_due}
use Rattle.wb_recovery.specs.Values.{RecoveryValue, timers_in, names_in}
use Rattle.wb_recovery.specs.Events.{due_asks}
use Rattle.wb_recovery.specs.Accepted.{StandsFor}
use Rattle.wb_recovery.specs.declared.timers.Timers.{Timers}
use Rattle.wb_recovery.proofs.Counting.{count_due}
use Rattle.wb_recovery.proofs.NameLists.{listed_same}
use Rattle.wb_recovery.proofs.recovery.Recovery.due_count.Goals as goal

pub returns-clause-count : goal.returns-clause-count
returns-clause-count c =
    let view : RecoveryValue = record { tuning = c.self.inside.tuning; moment = c.self.inside.moment; records = c.self.inside.records.entries } in
    subst (λ (v : RecoveryValue). c.count_until.result ≡ length (due_asks (names_in v) (timers_in v) c.args.now)) c.self.view_is
    (count_due view c.self.invariant.ordered c.args.now c.count_until.result (c.count_until.ensures _ c.self.invariant.asks))

pub returns-clause-events : goal.returns-clause-events
returns-clause-events c = λ constants events stands.
    let view : RecoveryValue = record { tuning = c.self.inside.tuning; moment = c.self.inside.moment; records = c.self.inside.records.entries } in
    count_due view c.self.invariant.ordered c.args.now c.count_until.result (c.count_until.ensures _ c.self.invariant.asks)
    ∙ ap length (listed_same (λ (s : Timers). is_ask_due c.args.now s.ask) refl constants events view c.self.invariant.ordered (subst (StandsFor constants events) (sym c.self.view_is) stands))
