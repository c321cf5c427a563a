use Rattle.wb_gaps.proofs.HeldRanges.{none_whole, last_whole}
use Rattle.wb_gaps.proofs.holdings.last_start.Goals as goal

pub returns-in-Some : goal.returns-in-Some
returns-in-Some c = let f = c.in-Some.ensures.found in last_whole c.args.ranges.now c.before-2.ensures.ordered c.requires c.args.page c.args.source c.in-Some.start.first c.in-Some.field-0-1 f.3 f.4

pub returns-in-None : goal.returns-in-None
returns-in-None c = none_whole c.args.ranges.now c.before-2.ensures.ordered c.requires c.args.page c.args.source c.in-None.ensures.found
