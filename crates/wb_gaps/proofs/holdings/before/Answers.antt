use Rattle.std.proofs.Common.{◌∙◌, sym}
use Rattle.wb_gaps.proofs.HeldRanges.{none_up_to, others_up_to, last_up_to, same_pages, other_pages}
use Rattle.wb_gaps.proofs.holdings.before.Goals as goal
use Rattle.wb_gaps.proofs.holdings.before.Goals.{then-ne-via-then-ne, then-ne-via-else-ne+then-start-at}

pub returns-in_default-clause-found : goal.returns-in_default-clause-found
returns-in_default-clause-found c = none_up_to c.args.ranges.now c.args.at ((c.range.ensures.in_range tt).5 c.in_default.ensures.steps.0)

pub returns-then-ne-clause-found : goal.returns-then-ne-clause-found
returns-then-ne-clause-found c = let i = c.range.ensures.in_range tt in others_up_to c.args.ranges.now c.args.at c.in-Some.start.now c.in-Some.last.now (i.3 _ _ c.in-Some.ensures.steps) (i.4 _ _ c.in-Some.ensures.steps) (λ is. elim c.then-ne.branch [
  | then-ne-via-then-ne w ↦ other_pages c.in-Some.start.now.page c.args.at.page (sym c.ne.ensures ∙ w.if-ne.true) is.0
  | then-ne-via-else-ne+then-start-at w ↦ w.if-start-at.true is.1
])

pub returns-clause-found : goal.returns-clause-found
returns-clause-found c = let i = c.range.ensures.in_range tt in last_up_to c.args.ranges.now c.args.at c.in-Some.start.now c.in-Some.last.now (i.3 _ _ c.in-Some.ensures.steps) (i.4 _ _ c.in-Some.ensures.steps) (same_pages c.in-Some.start.now.page c.args.at.page (sym c.ne.ensures ∙ c.if-ne.false)) c.if-start-at.false
