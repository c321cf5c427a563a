use Rattle.std.proofs.Common.{◌≡◌, ◌≤◌, ◌⊎◌, subst, arith, Some}
use Rattle.std.proofs.lemmas.Grind.{common_steps}
use Rattle.wb_names.specs.Values.{NameValue}
use Rattle.wb_recovery.specs.Timing.{ask_due, answer_due}
use Rattle.wb_recovery.specs.Alarms.{IsFirst}
use Rattle.wb_recovery.specs.Values.{RecoveryValue, timers_in}
use Rattle.wb_recovery.specs.Events.{IsNextDue}
use Rattle.wb_recovery.proofs.Counting.{next_both}
use Rattle.wb_recovery.proofs.recovery.Recovery.next_due.Goals as goal

pub returns-in-Some-Some : goal.returns-in-Some-Some
returns-in-Some-Some c =
    let view : RecoveryValue = record { tuning = c.self.inside.tuning; moment = c.self.inside.moment; records = c.self.inside.records.entries } in
    let p = subst (IsFirst (λ (n : NameValue). ask_due (timers_in view n))) c.in-Some-Some.is-0 (c.first.ensures _ c.self.invariant.asks) in
    let q = subst (IsFirst (λ (n : NameValue). answer_due (timers_in view n))) c.in-Some-Some.is-1 (c.first-2.ensures _ c.self.invariant.answers) in
    let a : c.min.result ≤ c.in-Some-Some.ask = omega arith in
    let b : c.min.result ≤ c.in-Some-Some.answer = omega arith in
    let r : (c.min.result ≡ c.in-Some-Some.ask) ⊎ (c.min.result ≡ c.in-Some-Some.answer) = grind (arith, common_steps) in
    subst (λ (v : RecoveryValue). IsNextDue (timers_in v) (Some c.min.result)) c.self.view_is (next_both (timers_in view) c.min.result c.in-Some-Some.ask c.in-Some-Some.answer p q a b r)
