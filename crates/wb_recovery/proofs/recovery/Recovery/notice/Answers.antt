use Rattle.std.proofs.Common.{ap, refl}
use Rattle.wb_recovery.specs.Timing.{noticed}
use Rattle.wb_recovery.specs.Values.{RecoveryValue}
use Rattle.wb_recovery.specs.Events.{Notice}
use Rattle.wb_recovery.specs.declared.tuning.Tuning.{Tuning}
use Rattle.wb_recovery.proofs.Accepting.{accepted}
use Rattle.wb_recovery.proofs.recovery.Recovery.notice.Goals as goal

pub returns-clause-ok : goal.returns-clause-ok
returns-clause-ok c =
    accepted (Notice c.args.name c.args.now c.args.delay c.args.word) c.args.name c.args.now (λ (t : Tuning). noticed t c.args.now c.args.delay c.args.word)
    (record { timers = λ t events n. refl; moment = λ events. refl; constants = λ t events. refl })
    c.args.self.now c.start.new.self _ c.in_ok-start.ensures.ok
    refl _
    (ap (λ (v : RecoveryValue). v.tuning) c.self.view_is)
    (ap (λ (v : RecoveryValue). v.records) c.self.view_is)
    refl
    c.self.invariant.ordered
