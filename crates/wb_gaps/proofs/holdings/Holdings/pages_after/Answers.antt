use Rattle.std.proofs.Common.{List, subst, sym}
use Rattle.wb_gaps.specs.Answers.{pages_of}
use Rattle.wb_gaps.specs.Holdings.{HeldRange, HoldNamesOf}
use Rattle.wb_gaps.proofs.PageAnswers.{pages_of_history}
use Rattle.wb_gaps.proofs.PageRanges.{pages_held}
use Rattle.wb_gaps.proofs.holdings.Holdings.pages_after.Goals as goal

pub returns : goal.returns
returns c = λ history held.
    c.in_ok-pages.ensures.pages (pages_of history)
    (pages_held c.self.inside.ranges c.in_ok-pages.ensures.ordered c.self.invariant.ranges history (subst (λ (rs : List HeldRange). HoldNamesOf history rs) (sym c.self.view_is) held) (pages_of history) (pages_of_history history))
