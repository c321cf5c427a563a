use Rattle.std.proofs.Common.{◌∙◌, ap}
use Rattle.std.specs.Prelude.{filter}
use Rattle.std.proofs.lemmas.Result.{IfOk-weaker}
use Rattle.wb_recovery.specs.Events.{asking}
use Rattle.wb_recovery.specs.Values.{RecoveryValue, timers_in, names_in}
use Rattle.wb_recovery.proofs.StoppedNames.{names_asking}
use Rattle.wb_recovery.proofs.recovery.Recovery.asked_where.Goals as goal

pub returns : goal.returns
returns g c = λ p tells.
    let view : RecoveryValue = record { tuning = c.self.inside.tuning; moment = c.self.inside.moment; records = c.self.inside.records.entries } in
    IfOk-weaker c.names_where.result _ _
    (λ v listed. names_asking view c.self.invariant.ordered p v.items listed ∙ ap (λ (v : RecoveryValue). filter p (asking (names_in v) (timers_in v))) c.self.view_is)
    (c.names_where.ensures p tells _ c.self.invariant.asks)
