use Rattle.wb_gaps.proofs.HeldRanges.{none_highest, last_highest}
use Rattle.wb_gaps.proofs.holdings.highest_in.Goals as goal

pub returns-in-Some : goal.returns-in-Some
returns-in-Some c = let f = c.in-Some.ensures.found in last_highest c.args.ranges.now c.before-2.ensures.ordered c.requires c.args.page c.args.source c.in-Some.field-0-0.first c.in-Some.last f.3 f.4

pub returns-in-None : goal.returns-in-None
returns-in-None c = none_highest c.args.ranges.now c.before-2.ensures.ordered c.requires c.args.page c.args.source c.in-None.ensures.found
