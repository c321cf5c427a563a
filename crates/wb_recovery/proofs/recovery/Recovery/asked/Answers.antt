use Rattle.std.proofs.Common.{◌∙◌, sym, ap, refl, subst, Bool, true, false}
use Rattle.wb_recovery.specs.Timing.{asked}
use Rattle.wb_recovery.specs.Values.{RecoveryValue}
use Rattle.wb_recovery.specs.Events.{Asked}
use Rattle.wb_recovery.specs.Accepted.{Accepts}
use Rattle.wb_recovery.specs.declared.tuning.Tuning.{Tuning}
use Rattle.wb_recovery.proofs.Accepting.{accepted}
use Rattle.wb_recovery.proofs.recovery.Recovery.asked.Goals as goal
use Rattle.wb_recovery.proofs.recovery.Recovery.asked.Goals.{then-held+in_ok-set_answer, else-held+in_ok-set_ask}

pub returns-clause-ok : goal.returns-clause-ok
returns-clause-ok c =
    let a = c.args in
    let new : RecoveryValue = record { tuning = c.self-2.inside.tuning; moment = a.now; records = c.self-2.inside.records.entries } in
    elim c.if-held.branch [
      | then-held+in_ok-set_answer w ↦
          let after = w.asked_for-answer.ensures.timers
          ∙ ap (λ (v : RecoveryValue). asked v.tuning true a.now a.delay a.word c.timers-before.result) c.self.view_is
          ∙ ap (asked a.self.now.tuning true a.now a.delay a.word) c.timers-before.ensures.timers in
          let is = c.self-2.view_is ∙ w.self-is in
          subst (λ (b : Bool). Accepts (Asked a.name b a.now a.delay a.word) a.self.now new) (sym w.if-held.true)
          (accepted (Asked a.name true a.now a.delay a.word) a.name a.now (λ (t : Tuning). asked t true a.now a.delay a.word)
          (record { timers = λ t events n. refl; moment = λ events. refl; constants = λ t events. refl })
          a.self.now w.set_answer.new.self _ w.in_ok-set_answer.ensures.ok after new
          (ap (λ (v : RecoveryValue). v.tuning) is) (ap (λ (v : RecoveryValue). v.records) is) refl c.self-2.invariant.ordered)
      | else-held+in_ok-set_ask w ↦
          let after = w.overheard-ask.ensures.timers
          ∙ ap (λ (v : RecoveryValue). asked v.tuning false a.now a.delay a.word c.timers-before.result) c.self.view_is
          ∙ ap (asked a.self.now.tuning false a.now a.delay a.word) c.timers-before.ensures.timers in
          let is = c.self-2.view_is ∙ w.self-is in
          subst (λ (b : Bool). Accepts (Asked a.name b a.now a.delay a.word) a.self.now new) (sym w.if-held.false)
          (accepted (Asked a.name false a.now a.delay a.word) a.name a.now (λ (t : Tuning). asked t false a.now a.delay a.word)
          (record { timers = λ t events n. refl; moment = λ events. refl; constants = λ t events. refl })
          a.self.now w.set_ask.new.self _ w.in_ok-set_ask.ensures.ok after new
          (ap (λ (v : RecoveryValue). v.tuning) is) (ap (λ (v : RecoveryValue). v.records) is) refl c.self-2.invariant.ordered)
    ]
