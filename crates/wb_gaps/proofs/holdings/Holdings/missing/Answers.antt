use Rattle.std.proofs.Common.{List, subst, sym}
use Rattle.wb_gaps.specs.Holdings.{HeldRange, HoldNamesOf}
use Rattle.wb_gaps.proofs.PageRanges.{runs_hold}
use Rattle.wb_gaps.proofs.Walking.{are_gaps_read}
use Rattle.wb_gaps.proofs.holdings.Holdings.missing.Goals as goal

pub returns : goal.returns
returns c = λ history held.
    are_gaps_read history c.args.page _ _ _ _ _
    (runs_hold c.self.inside.ranges c.runs_of.ensures.ordered c.self.invariant.ranges history (subst (λ (rs : List HeldRange). HoldNamesOf history rs) (sym c.self.view_is) held) c.args.page)
    c.as_slice.ensures.lawful c.runs_of.ensures.runs c.as_slice.ensures.entries c.new.ensures
