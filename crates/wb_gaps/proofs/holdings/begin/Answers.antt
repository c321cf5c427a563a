use Rattle.std.proofs.Common.{arith, refl}
use Rattle.wb_gaps.specs.Starts.{last_at}
use Rattle.wb_gaps.proofs.Adding.{begins_alone, begins_below}
use Rattle.wb_gaps.proofs.holdings.begin.Goals as goal

pub returns-then-last-at : goal.returns-then-last-at
returns-then-last-at c = let b = c.in-Some.ensures.found in (refl, refl, begins_alone (last_at c.args.ranges.now.entries c.args.at.page c.args.at.source) c.args.at.first c.in-Some.start.first c.in-Some.last (c.requires.ranges.apart c.args.at.page c.args.at.source) b.3 b.2 b.4 c.requires.positive c.if-last-at.true)

pub returns : goal.returns
returns c = let b = c.in-Some.ensures.found in (b.0, b.1, begins_below (last_at c.args.ranges.now.entries c.args.at.page c.args.at.source) c.args.at.first c.in-Some.start.first c.in-Some.last (c.requires.ranges.apart c.args.at.page c.args.at.source) b.3 b.2 b.4 (omega (arith, c.if-last-at.false, c.if-at-last.false)))
