use Rattle.std.proofs.Common.{◌∙◌, sym, ap, List, length, get_or, arith}
use Rattle.std.specs.Prelude.{is_some}
use Rattle.std.proofs.lemmas.List.{length-map, get_or-map}
use Rattle.wb_names.specs.Values.{NameValue}
use Rattle.wb_recovery.specs.Timing.{is_standing, no_timers, ask_due}
use Rattle.wb_recovery.specs.Values.{timers_at}
use Rattle.wb_recovery.specs.declared.timers.Timers.{Timers}
use Rattle.wb_recovery.proofs.NameRows.{before_now, replaced_more, contains_here}
use Rattle.wb_recovery.proofs.FiredTimers.{asking_stands}
use Rattle.wb_recovery.proofs.Consistency.{keep_moved_to}
use Rattle.wb_recovery.proofs.firing.ask_all.Goals as goal

pub bounds-after-count : goal.bounds-after-count
bounds-after-count c =
    let as_many = ap length c.requires.each.1 ∙ length-map c.args.asking.now c.requires.each.0 in
    omega arith

pub follow-requires : goal.follow-requires
follow-requires c =
    let xs = c.args.asking.now in
    let i = c.loop-count.count in
    let a = c.index-asking-count.result in
    let now = timers_at c.loop-count.records.entries in
    let had = before_now xs i a c.requires.rising (omega arith) c.index-asking-count.is (timers_at c.args.records.now.entries) c.requires.each.0 now now (c.loop-count.invariant.written c.requires.each.0 c.requires.each.1) in
    ap is_some (c.loop-count.invariant.kept.each a ∙ ap ask_due had) ∙ c.requires.standing a (contains_here xs i a c.requires.rising (omega arith) c.index-asking-count.is)

pub rewrite-requires : goal.rewrite-requires
rewrite-requires c =
    let xs = c.args.asking.now in
    let i = c.loop-count.count in
    let a = c.index-asking-count.result in
    let now = timers_at c.loop-count.records.entries in
    let had = before_now xs i a c.requires.rising (omega arith) c.index-asking-count.is (timers_at c.args.records.now.entries) c.requires.each.0 now now (c.loop-count.invariant.written c.requires.each.0 c.requires.each.1) in
    ap is_standing had ∙ asking_stands (timers_at c.args.records.now.entries a) (c.requires.standing a (contains_here xs i a c.requires.rising (omega arith) c.index-asking-count.is))

pub loop-count-preserved : goal.loop-count-preserved
loop-count-preserved c =
    let xs = c.args.asking.now in
    let i = c.loop-count.count in
    let a = c.index-asking-count.result in
    let now = timers_at c.loop-count.records.entries in
    let new = timers_at c.rewrite.new.records.entries in
    record {
      written = λ f each. replaced_more xs i a c.requires.rising (omega arith) c.index-asking-count.is (timers_at c.args.records.now.entries) f now new (c.loop-count.invariant.written f each) _ c.rewrite.ensures.written
          (ap (λ (rows : List Timers). get_or rows i no_timers) each ∙ get_or-map f xs i a no_timers (omega arith) ∙ ap f (sym c.index-asking-count.is));
      kept = keep_moved_to a _ now new c.rewrite.ensures.written ask_due c.ask_due.result c.follow.new.self c.ask_due.ensures (c.follow.ensures (λ (n : NameValue). ask_due (now n)) c.loop-count.invariant.kept);
      ordered = c.rewrite.ensures.ordered;
    }
