use Rattle.std.proofs.Common.{ap, refl}
use Rattle.wb_recovery.specs.Values.{RecoveryValue}
use Rattle.wb_recovery.proofs.StoppedNames.{stops_and_ticks}
use Rattle.wb_recovery.proofs.recovery.Recovery.commit.Goals as goal

pub returns-clause-ok : goal.returns-clause-ok
returns-clause-ok c = λ words is.
    let p = c.args.plan in
    let new : RecoveryValue = record { tuning = c.self.inside.tuning; moment = p.moment; records = c.self.inside.records.entries } in
    stops_and_ticks p.moment words c.args.received.now p.asking.items p.answering.items c.args.self.now c.fire.new.self c.end_all.new.self new is.asking is.answering (c.fire.ensures c.args.received.now words is) c.end_all.ensures
    (ap (λ (v : RecoveryValue). v.tuning) c.self.view_is) (ap (λ (v : RecoveryValue). v.records) c.self.view_is) refl c.self.invariant.ordered
