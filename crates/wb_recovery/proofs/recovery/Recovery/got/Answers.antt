use Rattle.std.proofs.Common.{◌∙◌, sym, ap, refl}
use Rattle.wb_recovery.specs.Timing.{got}
use Rattle.wb_recovery.specs.Values.{RecoveryValue, timers_in}
use Rattle.wb_recovery.specs.Events.{Got}
use Rattle.wb_recovery.specs.declared.tuning.Tuning.{Tuning}
use Rattle.wb_recovery.proofs.Accepting.{accepted, replaced_none, got_standing, got_none}
use Rattle.wb_recovery.proofs.recovery.Recovery.got.Goals as goal
use Rattle.wb_recovery.proofs.recovery.Recovery.got.Goals.{then-is_standing, else-is_standing}

pub returns-clause-ok : goal.returns-clause-ok
returns-clause-ok c =
    let a = c.args in
    let new : RecoveryValue = record { tuning = c.self-2.inside.tuning; moment = a.now; records = c.self-2.inside.records.entries } in
    elim c.if-is_standing.branch [
      | then-is_standing w ↦
          let is = c.self-2.view_is ∙ w.self-is in
          let after = got_standing a.now a.delay c.timers-before.result (sym c.is_standing.ensures ∙ w.if-is_standing.true) ∙ ap (got a.now a.delay) c.timers-before.ensures.timers in
          accepted (Got a.name a.now a.delay) a.name a.now (λ (t : Tuning). got a.now a.delay)
          (record { timers = λ t events n. refl; moment = λ events. refl; constants = λ t events. refl })
          a.self.now w.end.new.self _ w.end.ensures after new
          (ap (λ (v : RecoveryValue). v.tuning) is) (ap (λ (v : RecoveryValue). v.records) is) refl c.self-2.invariant.ordered
      | else-is_standing w ↦
          let is = c.self-2.view_is ∙ w.self-is in
          let after = sym c.timers-before.ensures.timers ∙ got_none a.now a.delay c.timers-before.result (sym c.is_standing.ensures ∙ w.if-is_standing.false) ∙ ap (got a.now a.delay) c.timers-before.ensures.timers in
          accepted (Got a.name a.now a.delay) a.name a.now (λ (t : Tuning). got a.now a.delay)
          (record { timers = λ t events n. refl; moment = λ events. refl; constants = λ t events. refl })
          a.self.now a.self.now (timers_in a.self.now a.name) (replaced_none a.self.now a.name) after new
          (ap (λ (v : RecoveryValue). v.tuning) is) (ap (λ (v : RecoveryValue). v.records) is) refl c.self-2.invariant.ordered
    ]
