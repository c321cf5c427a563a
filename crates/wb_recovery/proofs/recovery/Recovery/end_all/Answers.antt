use Rattle.std.proofs.Common.{◌∙◌, sym, ap, arith}
use Rattle.wb_recovery.specs.Timing.{got}
use Rattle.wb_recovery.specs.Values.{RecoveryValue, timers_in}
use Rattle.wb_recovery.proofs.Accepting.{replaced_none, got_standing, got_none}
use Rattle.wb_recovery.proofs.StoppedNames.{got_more, got_stands}
use Rattle.wb_recovery.proofs.recovery.Recovery.end_all.Goals as goal
use Rattle.wb_recovery.proofs.recovery.Recovery.end_all.Goals.{then-is_standing, else-is_standing}

pub loop-one-preserved : goal.loop-one-preserved
loop-one-preserved c =
    let a = c.args in
    let one = c.one-item.result in
    let inv = c.loop-one.invariant in
    let old = c.loop-one.self in
    elim c.if-is_standing.branch [
      | then-is_standing w ↦ record {
        tuning = ap (λ (v : RecoveryValue). v.tuning) w.self-is ∙ w.end.ensures.tuning ∙ inv.tuning;
        moment = ap (λ (v : RecoveryValue). v.moment) w.self-is ∙ w.end.ensures.moment ∙ inv.moment;
        timers = got_more a.now a.received.now c.loop-one.one-index one (omega arith) c.one-item.is (timers_in a.self.now) (timers_in old) (timers_in c.if-is_standing.self) inv.timers
            (got_stands a.now one old c.if-is_standing.self _ w.end.new.self w.self-is w.end.ensures (got_standing a.now one.delay c.timers-before.result (sym c.is_standing.ensures ∙ w.if-is_standing.true) ∙ ap (got a.now one.delay) c.timers-before.ensures.timers));
      }
      | else-is_standing w ↦ record {
        tuning = ap (λ (v : RecoveryValue). v.tuning) w.self-is ∙ inv.tuning;
        moment = ap (λ (v : RecoveryValue). v.moment) w.self-is ∙ inv.moment;
        timers = got_more a.now a.received.now c.loop-one.one-index one (omega arith) c.one-item.is (timers_in a.self.now) (timers_in old) (timers_in c.if-is_standing.self) inv.timers
            (got_stands a.now one old c.if-is_standing.self (timers_in old one.name) old w.self-is (replaced_none old one.name) (sym c.timers-before.ensures.timers ∙ got_none a.now one.delay c.timers-before.result (sym c.is_standing.ensures ∙ w.if-is_standing.false) ∙ ap (got a.now one.delay) c.timers-before.ensures.timers));
      }
    ]
