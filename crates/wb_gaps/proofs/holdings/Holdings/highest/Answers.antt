use Rattle.std.proofs.Common.{subst}
use Rattle.std.specs.Prelude.{List}
use Rattle.wb_gaps.specs.Holdings.{HeldRange, IsHighest}
use Rattle.wb_gaps.proofs.HeldRanges.{highest_is}
use Rattle.wb_gaps.proofs.holdings.Holdings.highest.Goals as goal

pub returns : goal.returns
returns c = highest_is c.args.self.now c.args.page c.args.source _ (subst (λ (rs : List HeldRange). IsHighest rs c.args.page c.args.source c.highest_in.result) c.self.view_is c.highest_in.ensures)
