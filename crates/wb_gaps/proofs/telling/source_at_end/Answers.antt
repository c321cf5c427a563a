use Rattle.std.proofs.Common.{◌∙◌, sym}
use Rattle.wb_gaps.proofs.HeldRanges.{other_pages, same_pages}
use Rattle.wb_gaps.proofs.SourceSteps.{none_last, other_last, own_last}
use Rattle.wb_gaps.proofs.telling.source_at_end.Goals as goal

pub returns-in_default-clause-last : goal.returns-in_default-clause-last
returns-in_default-clause-last c = none_last c.args.ranges.now c.range.ensures.ordered c.requires c.args.page ((c.range.ensures.in_range tt).5 c.in_default.ensures.steps.0)

pub returns-then-ne-clause-last : goal.returns-then-ne-clause-last
returns-then-ne-clause-last c = let i = c.range.ensures.in_range tt in other_last c.args.ranges.now c.range.ensures.ordered c.requires c.args.page c.in-Some.start.now c.in-Some.field-0-1.now (i.3 _ _ c.in-Some.ensures.steps) (i.4 _ _ c.in-Some.ensures.steps)
    (other_pages c.in-Some.start.now.page c.args.page (sym c.ne.ensures ∙ c.if-ne.true))

pub returns-clause-last : goal.returns-clause-last
returns-clause-last c = let i = c.range.ensures.in_range tt in own_last c.args.ranges.now c.range.ensures.ordered c.requires c.args.page c.in-Some.start.now c.in-Some.field-0-1.now (i.3 _ _ c.in-Some.ensures.steps) (i.4 _ _ c.in-Some.ensures.steps)
    (same_pages c.in-Some.start.now.page c.args.page (sym c.ne.ensures ∙ c.if-ne.false))
