use Rattle.std.proofs.Common.{◌≡◌, ◌-◌, ◌∙◌, take, ap, sym, refl, arith}
use Rattle.std.proofs.lemmas.List.{get_or_default, length-take}
use Rattle.wb_names.specs.Orders.{display_cmp}
use Rattle.wb_names.specs.Values.{DrawopValue}
use Rattle.wb_display.proofs.MergeSteps.{merging_none, moved, entered, all_merged, in_front, comes_before}
use Rattle.wb_display.proofs.merging.merge.Goals as goal
use Rattle.wb_display.proofs.merging.merge.Goals.{else-left-gt0-via-then-left-gt0+else-before, else-left-gt0-via-else-left-gt0}

pub loop-right-init : goal.loop-right-init
loop-right-init c = merging_none (take c.args.front c.args.list.now) c.args.entering.now c.args.list.now _ _ c.requires.front c.requires.entering (omega (arith, length-take c.args.front c.args.list.now)) refl (omega (arith, length-take c.args.front c.args.list.now)) refl

pub loop-right-preserved-then-before : goal.loop-right-preserved-then-before
loop-right-preserved-then-before c =
    let m = c.loop-right.invariant in
    let last = c.index-list-left-then-before in
    moved _ _ c.loop-right.list c.loop-right.left c.loop-right.right last.result m c.loop-right-test.true c.index-entering-right.result c.if-left-gt0.true
    (in_front _ _ c.loop-right.list c.loop-right.left c.loop-right.right last.result m c.if-left-gt0.true (sym last.is))
    (sym c.index-entering-right.is)
    (ap (λ (x : DrawopValue). display_cmp c.index-entering-right.result x) (last.is ∙ get_or_default c.loop-right.list (c.loop-right.left - 1) last.result c.index-list-left.result (omega (arith, m.len, m.within_left))) ∙ c.if-before.ensures.0 refl)

pub loop-right-preserved : goal.loop-right-preserved
loop-right-preserved c =
    let m = c.loop-right.invariant in
    entered _ _ c.loop-right.list c.loop-right.left c.loop-right.right c.index-entering-right.result m c.loop-right-test.true (sym c.index-entering-right.is)
    (elim c.else-left-gt0.branch [
      | else-left-gt0-via-then-left-gt0+else-before w ↦ λ d h. comes_before _ _ c.loop-right.list c.loop-right.left c.loop-right.right c.index-entering-right.result w.index-list-left.result m c.requires.apart h c.loop-right-test.true (sym c.index-entering-right.is) (sym w.index-list-left.is) (λ e. let f = w.if-before.ensures.1 (ap (λ (x : DrawopValue). display_cmp c.index-entering-right.result x) (sym w.index-list-left.is) ∙ e) in cc) d
      | else-left-gt0-via-else-left-gt0 w ↦ λ d h. absurd (omega arith)
    ])

pub returns : goal.returns
returns c =
    let none : c.loop-right.right ≡ 0 = omega arith in
    all_merged (take c.args.front c.args.list.now) c.args.entering.now c.loop-right.list c.loop-right.left (rw (← none) c.loop-right.invariant)
