use Rattle.std.proofs.Common.{◌∙◌, ap, sym, subst, List}
use Rattle.std.specs.List.Sorted.{IsStrictlySortedBy}
use Rattle.std.specs.Map.{keys_of}
use Rattle.wb_names.specs.Values.{NameValue}
use Rattle.wb_names.specs.Orders.{name_cmp}
use Rattle.wb_recovery.specs.Values.{RecoveryValue}
use Rattle.wb_recovery.specs.declared.timers.Timers.{Timers}
use Rattle.wb_recovery.proofs.AlarmMoves.{keep_unchanged}
use Rattle.wb_recovery.proofs.Consistency.{consistent_again}
use Rattle.wb_recovery.proofs.recovery.Recovery.copy.Goals as goal

pub invariant_of-result : goal.invariant_of-result
invariant_of-result c =
    let s = c.self.invariant in
    let a = c.in_ok-copy.field-0 in
    let b = c.in_ok-copy-2.field-0 in
    let same = c.in_ok-copy_of.ensures in
    let rises = subst (λ (es : List (NameValue × Timers)). IsStrictlySortedBy name_cmp (keys_of es)) (sym same) s.ordered in
    consistent_again _ _ c.self.inside.records c.in_ok-copy_of.field-0 c.self.inside.asks c.self.inside.answers a b s same rises
    (keep_unchanged _ c.self.inside.asks a c.in_ok-copy.ensures.dues c.in_ok-copy.ensures.soonest c.in_ok-copy.ensures.exact s.asks)
    (keep_unchanged _ c.self.inside.answers b c.in_ok-copy-2.ensures.dues c.in_ok-copy-2.ensures.soonest c.in_ok-copy-2.ensures.exact s.answers)
    (c.in_ok-copy.ensures.exact ∙ s.first_ask) (c.in_ok-copy-2.ensures.exact ∙ s.first_answer)

pub returns : goal.returns
returns c = ap (λ (es : List (NameValue × Timers)). let v : RecoveryValue = record { tuning = c.self.inside.tuning; moment = c.self.inside.moment; records = es } in v) c.in_ok-copy_of.ensures ∙ c.self.view_is
