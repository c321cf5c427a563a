use Rattle.std.proofs.Common.{◌≡◌, ◌∙◌, sym, ap, subst, refl, length}
use Rattle.std.specs.Prelude.{is_some}
use Rattle.wb_recovery.specs.Values.{RecoveryValue, timers_in, names_in}
use Rattle.wb_recovery.specs.Events.{asking}
use Rattle.wb_recovery.specs.Accepted.{StandsFor}
use Rattle.wb_recovery.specs.declared.timers.Timers.{Timers}
use Rattle.wb_recovery.proofs.Counting.{count_asking}
use Rattle.wb_recovery.proofs.NameLists.{listed_same}
use Rattle.wb_recovery.proofs.recovery.Recovery.asks.Goals as goal

pub returns-clause-count : goal.returns-clause-count
returns-clause-count c =
    let view : RecoveryValue = record { tuning = c.self.inside.tuning; moment = c.self.inside.moment; records = c.self.inside.records.entries } in
    subst (λ (v : RecoveryValue). c.len.result ≡ length (asking (names_in v) (timers_in v))) c.self.view_is
    (count_asking view c.self.invariant.ordered c.len.result (c.len.ensures _ c.self.invariant.asks))

pub returns-clause-events : goal.returns-clause-events
returns-clause-events c = λ constants events stands.
    let view : RecoveryValue = record { tuning = c.self.inside.tuning; moment = c.self.inside.moment; records = c.self.inside.records.entries } in
    count_asking view c.self.invariant.ordered c.len.result (c.len.ensures _ c.self.invariant.asks)
    ∙ ap length (listed_same (λ (s : Timers). is_some s.ask) refl constants events view c.self.invariant.ordered (subst (StandsFor constants events) (sym c.self.view_is) stands))
