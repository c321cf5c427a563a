use Rattle.std.proofs.Common.{subst}
use Rattle.std.specs.BTreeMap.Range.{IsRangeOf}
use Rattle.std.specs.declared.ops.Bound.TheVariants.{Unbounded}
use Rattle.wb_gaps.specs.Starts.{start_cmp}
use Rattle.wb_gaps.proofs.PageSteps.{forward, next_none, next_some}
use Rattle.wb_gaps.proofs.telling.next_page.Goals as goal

pub range-requires : goal.range-requires
range-requires c = forward _ _ _

pub returns-in_default-clause-next : goal.returns-in_default-clause-next
returns-in_default-clause-next c = next_none c.args.ranges.now c.range.ensures.ordered c.requires c.args.last _ c.in_default.ensures.steps.0
    (subst (λ b. IsRangeOf start_cmp b Unbounded c.args.ranges.now c.range.result) c.past_page.ensures (c.range.ensures.in_range tt))

pub returns-clause-next : goal.returns-clause-next
returns-clause-next c = next_some c.args.ranges.now c.range.ensures.ordered c.requires c.args.last _ _ _ c.in-Some.ensures.steps
    (subst (λ b. IsRangeOf start_cmp b Unbounded c.args.ranges.now c.range.result) c.past_page.ensures (c.range.ensures.in_range tt))
