use Rattle.std.proofs.Common.{◌∙◌, subst, sym}
use Rattle.std.specs.BTreeMap.Range.{IsRangeOf}
use Rattle.std.specs.declared.ops.Bound.TheVariants.{Unbounded}
use Rattle.wb_gaps.specs.Starts.{start_cmp}
use Rattle.wb_gaps.proofs.HeldRanges.{other_pages, same_pages}
use Rattle.wb_gaps.proofs.SourceSteps.{none_next, other_next, own_next}
use Rattle.wb_gaps.proofs.telling.next_source.Goals as goal

pub returns-in_default-clause-next : goal.returns-in_default-clause-next
returns-in_default-clause-next c = none_next c.args.ranges.now c.range.ensures.ordered c.requires c.args.page c.args.last _ c.in_default.ensures.steps.0
    (subst (λ b. IsRangeOf start_cmp b Unbounded c.args.ranges.now c.range.result) c.past_source-from.ensures (c.range.ensures.in_range tt))

pub returns-then-ne-clause-next : goal.returns-then-ne-clause-next
returns-then-ne-clause-next c = other_next c.args.ranges.now c.range.ensures.ordered c.requires c.args.page c.args.last _ _ _ c.in-Some.ensures.steps
    (subst (λ b. IsRangeOf start_cmp b Unbounded c.args.ranges.now c.range.result) c.past_source-from.ensures (c.range.ensures.in_range tt))
    (other_pages c.in-Some.start.now.page c.args.page (sym c.ne.ensures ∙ c.if-ne.true))

pub returns-clause-next : goal.returns-clause-next
returns-clause-next c = own_next c.args.ranges.now c.range.ensures.ordered c.requires c.args.page c.args.last _ _ _ c.in-Some.ensures.steps
    (subst (λ b. IsRangeOf start_cmp b Unbounded c.args.ranges.now c.range.result) c.past_source-from.ensures (c.range.ensures.in_range tt))
    (same_pages c.in-Some.start.now.page c.args.page (sym c.ne.ensures ∙ c.if-ne.false))
