use Rattle.std.proofs.Common.{◌∙◌, sym, ap, None, arith}
use Rattle.wb_names.specs.Values.{NameValue}
use Rattle.wb_recovery.specs.Timing.{is_standing, is_answer_due, answer_due, answer_moment, AreDelays}
use Rattle.wb_recovery.specs.Values.{timers_at}
use Rattle.wb_recovery.specs.Firing.{with_answer_fired}
use Rattle.wb_recovery.specs.declared.timers.Timers.{Timers}
use Rattle.wb_recovery.proofs.NameRows.{before_now, replaced_more, contains_here}
use Rattle.wb_recovery.proofs.FiredTimers.{due_answer_stands, due_answer_ends}
use Rattle.wb_recovery.proofs.Consistency.{all_replaced, keep_moved_to}
use Rattle.wb_recovery.proofs.firing.answer_all.Goals as goal

pub rewrite-requires : goal.rewrite-requires
rewrite-requires c =
    let xs = c.args.answering.now in
    let i = c.loop-name.name-index in
    let a = c.name-item.result in
    let f = timers_at c.args.records.now.entries in
    let g = with_answer_fired c.args.now f in
    let now = timers_at c.loop-name.records.entries in
    let had = before_now xs i a c.requires.rising (omega arith) c.name-item.is f g now now c.loop-name.invariant.written in
    ap is_standing had ∙ due_answer_stands c.args.now (f a) (c.requires.due a (contains_here xs i a c.requires.rising (omega arith) c.name-item.is))

pub loop-name-preserved : goal.loop-name-preserved
loop-name-preserved c =
    let xs = c.args.answering.now in
    let i = c.loop-name.name-index in
    let a = c.name-item.result in
    let f = timers_at c.args.records.now.entries in
    let g = with_answer_fired c.args.now f in
    let now = timers_at c.loop-name.records.entries in
    let new = timers_at c.rewrite.new.records.entries in
    let had = c.timers_of-timers.ensures ∙ before_now xs i a c.requires.rising (omega arith) c.name-item.is f g now new c.loop-name.invariant.written in
    let after = c.answer_fired.ensures.timers ∙ ap (λ (s : Timers). with_answer_fired c.args.now (λ n. s) a) had in
    let due = ap (λ (s : Timers). is_answer_due c.args.now s.answer) had ∙ c.requires.due a (contains_here xs i a c.requires.rising (omega arith) c.name-item.is) in
    let none = sym (ap answer_due c.answer_fired.ensures.timers ∙ ap answer_moment (due_answer_ends c.args.now c.timers_of-timers.result.answer due)) in
    record {
      written = replaced_more xs i a c.requires.rising (omega arith) c.name-item.is f g now new c.loop-name.invariant.written c.answer_fired.result c.rewrite.ensures.written after;
      delays = all_replaced a c.answer_fired.result now new c.rewrite.ensures.written AreDelays c.answer_fired.ensures.delays c.loop-name.invariant.delays;
      kept = keep_moved_to a c.answer_fired.result now new c.rewrite.ensures.written answer_due None c.clear.new.self none
          (c.clear.ensures (λ (n : NameValue). answer_due (now n)) c.loop-name.invariant.kept);
      ordered = c.rewrite.ensures.ordered;
    }
