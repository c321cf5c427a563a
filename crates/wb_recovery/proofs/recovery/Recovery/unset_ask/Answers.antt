use Rattle.std.proofs.Common.{◌∙◌, sym, ap, cond, Bool}
use Rattle.std.specs.Prelude.{not}
use Rattle.wb_names.specs.Orders.{same_name}
use Rattle.wb_recovery.specs.Noticing.{unset}
use Rattle.wb_recovery.specs.Values.{RecoveryValue, record_at, record_in, timers_in}
use Rattle.wb_recovery.proofs.NoticedNames.{record_written, timers_gone, unset_here}
use Rattle.wb_recovery.proofs.Consistency.{consistent_unset, consistent_end}
use Rattle.wb_recovery.proofs.recovery.Recovery.unset_ask.Goals as goal

pub invariant_of-self : goal.invariant_of-self
invariant_of-self c =
    let is = c.timers-timers.ensures.timers ∙ sym (ap (λ (v : RecoveryValue). timers_in v c.args.name) c.self.view_is) in
    consistent_unset _ _ c.self.inside.records c.rewrite.new.records c.self.inside.asks c.self.inside.answers c.self.invariant c.args.name c.timers-timers.result is c.rewrite.ensures.ordered c.end.new.self c.rewrite.ensures.written c.end.ensures.kept c.end.ensures.exact

pub invariant_of-self-else-had : goal.invariant_of-self-else-had
invariant_of-self-else-had c =
    let is = c.timers-timers.ensures.timers ∙ sym (ap (λ (v : RecoveryValue). timers_in v c.args.name) c.self.view_is) in
    let gone = timers_gone c.self.inside.records c.remove.new.self c.args.name (record_written c.self.inside.records c.remove.new.self c.args.name _ c.remove.ensures.updates.0) in
    consistent_end _ _ c.self.inside.records c.remove.new.self c.self.inside.asks c.self.inside.answers c.self.invariant c.args.name c.timers-timers.result is c.remove.ensures.ordered 0 c.end.new.self c.end-else-had.new.self gone c.end.ensures.kept c.end-else-had.ensures.kept c.end.ensures.exact c.end-else-had.ensures.exact

pub returns-then-had-clause-back : goal.returns-then-had-clause-back
returns-then-had-clause-back c = λ n.
    let name = c.args.name in
    let timers = c.timers-timers.result in
    let new : RecoveryValue = record { tuning = c.self.inside.tuning; moment = c.self.inside.moment; records = c.rewrite.new.records.entries } in
    unset_here n name c.args.had c.args.self.now new timers c.timers-timers.ensures.timers (c.is_none.ensures ∙ ap not c.if-is_none.false)
    (c.rewrite.ensures.records n
    ∙ ap (λ (b : Bool). cond (same_name name n) (unset b timers) (record_at c.self.inside.records.entries n)) (sym c.if-had.true)
    ∙ ap (λ (v : RecoveryValue). cond (same_name name n) (unset c.args.had timers) (record_in v n)) c.self.view_is)
