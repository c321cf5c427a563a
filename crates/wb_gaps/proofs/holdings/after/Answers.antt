use Rattle.std.proofs.Common.{arith}
use Rattle.wb_gaps.specs.Starts.{last_at}
use Rattle.wb_gaps.proofs.Adding.{past_end}
use Rattle.wb_gaps.proofs.holdings.after.Goals as goal

pub returns-in_default : goal.returns-in_default
returns-in_default c = past_end (last_at c.args.ranges.now.entries c.args.at.page c.args.at.source) c.args.at.first (c.requires.ranges.apart c.args.at.page c.args.at.source) (omega (arith, c.in_default.ensures))
