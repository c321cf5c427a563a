use Rattle.std.proofs.Common.{◌∙◌, ℕ, ap, arith, take}
use Rattle.std.specs.List.{sum_by}
use Rattle.std.proofs.lemmas.List.{take_all}
use Rattle.std.proofs.lemmas.List.Sums.{sum_by_more}
use Rattle.wb_names.specs.Values.{MarkValue}
use Rattle.wb_judging.specs.Handing.{lacks}
use Rattle.wb_judging.proofs.Kept.{take_first}
use Rattle.wb_judging.proofs.facts.lacking.Goals as goal
use Rattle.wb_policy.specs.declared.limits.TheConstants.{MOST_MARKS}
use Rattle.wb_keeping.proofs.Performed.{at_inside}

pub loop-mark-preserved : goal.loop-mark-preserved
loop-mark-preserved c = record {
  same = c.lacks.ensures.same ∙ c.loop-mark.invariant.same;
  bound = omega arith;
  lacking = λ k at.
      let f : MarkValue → ℕ = lacks c.args.page k.host in
      let items = take c.min-count.result c.args.marks.now in
      let i = c.loop-mark.mark-index in
      let one = c.in_ok-total.ensures.lacks k (at_inside k c.loop-mark.invariant.same at) in
      let here = ap f c.mark-item.is in
      let before = c.loop-mark.invariant.lacking k at in
      let more = sum_by_more f items i c.mark-item.result c.loop-mark-test.true in
      omega (arith, one, here, before, more);
}

pub returns-clause-lacking : goal.returns-clause-lacking
returns-clause-lacking c = λ k at.
    let items = take c.min-count.result c.args.marks.now in
    let whole = take_all c.loop-mark.mark-index items c.loop-mark-test.false in
    let first = ap (λ (n : ℕ). take n c.args.marks.now) c.min-count.ensures in
    c.loop-mark.invariant.lacking k at ∙ ap (sum_by (lacks c.args.page k.host)) (whole ∙ first ∙ take_first MOST_MARKS c.args.marks.now)
