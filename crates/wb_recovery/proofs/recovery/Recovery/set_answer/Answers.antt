use Rattle.std.proofs.Common.{◌≡◌, ◌<◌, ◌^◌, ◌∙◌, sym, ap, subst, Option, Some, None}
use Rattle.std.specs.Prelude.{IfSome, unwrap_or}
use Rattle.wb_names.specs.Values.{NameValue}
use Rattle.wb_recovery.specs.Values.{RecoveryValue, timers_at, timers_in, Replaces}
use Rattle.wb_recovery.specs.Timing.{no_timers, answer_due, with_answer}
use Rattle.wb_recovery.specs.declared.timers.Timers.{Timers}
use Rattle.wb_recovery.specs.declared.timers.AnswerTimer.{AnswerTimer}
use Rattle.wb_recovery.proofs.Outcomes.{on_no_err, on_err}
use Rattle.wb_recovery.proofs.Consistency.{written, consistent_answer, consistent_again, keep_back, replaced_value}
use Rattle.wb_recovery.proofs.recovery.Recovery.set_answer.Goals as goal

pub invariant_of-self-else-is_err : goal.invariant_of-self-else-is_err
invariant_of-self-else-is_err c =
    let is = c.requires.before ∙ sym (ap (λ (v : RecoveryValue). timers_in v c.args.name) c.self.view_is) in
    let updates = on_no_err c.insert.result (sym c.is_err.ensures.value ∙ c.if-is_err.false) c.insert.ensures.updates in
    let delay = subst (λ (o : Option AnswerTimer). IfSome o (λ timer. timer.delay < 2 ^ 24)) c.in-Some.is c.requires.delay in
    consistent_answer _ _ c.self.inside.records c.insert.new.self c.self.inside.asks c.self.inside.answers c.self.invariant c.args.name c.args.before is c.insert.ensures.ordered c.in-Some.answer c.set.new.self updates.0 delay c.in_ok-set.ensures.ok c.in_ok-set.ensures.renewed

pub returns-clause-ok : goal.returns-clause-ok
returns-clause-ok c =
    let updates = on_no_err c.insert.result (sym c.is_err.ensures.value ∙ c.if-is_err.false) c.insert.ensures.updates in
    let after = with_answer c.args.before (Some c.in-Some.answer) in
    let replaced = replaced_value c.self.inside.records c.insert.new.self c.args.name after c.self.inside.tuning c.self.inside.moment c.args.self.now c.self.view_is (written c.self.inside.records c.insert.new.self c.args.name after updates.0) in
    subst (λ (o : Option AnswerTimer). Replaces c.args.self.now (record { tuning = c.self.inside.tuning; moment = c.self.inside.moment; records = c.insert.new.self.entries }) c.args.name (with_answer c.args.before o)) (sym c.in-Some.is) replaced

pub invariant_of-self-then-is_err : goal.invariant_of-self-then-is_err
invariant_of-self-then-is_err c =
    let refused = sym c.is_err.ensures.value ∙ c.if-is_err.true in
    let due = λ (n : NameValue). answer_due (timers_at c.self.inside.records.entries n) in
    let none : due c.args.name ≡ None = ap (λ (o : Option Timers). answer_due (unwrap_or o no_timers)) (on_err c.insert.result refused c.insert.ensures.absent) in
    consistent_again _ _ c.self.inside.records c.insert.new.self c.self.inside.asks c.self.inside.answers c.self.inside.asks c.end.new.self c.self.invariant (on_err c.insert.result refused c.insert.ensures.err) c.insert.ensures.ordered
    c.self.invariant.asks (keep_back due c.args.name (Some c.in-Some.answer.due) c.end.new.self none (c.end.ensures.kept _ (c.in_ok-set.ensures.ok due c.self.invariant.answers))) c.self.invariant.first_ask c.end.ensures.exact
