use Rattle.std.proofs.Common.{refl, subst}
use Rattle.wb_gaps.specs.Holdings.{HoldNamesOf}
use Rattle.wb_history.specs.Passes.{PassValue}
use Rattle.wb_board.proofs.desk.Desk.holdings.Goals as goal

pub returns : goal.returns
returns c = ((refl, λ _. tt, c.self.view_is), record { desk = tt; holds = subst (λ (p : PassValue). HoldNamesOf p.seen c.catch_up.new.self.holdings) c.self.view_is c.in_ok-catch_up.ensures.all; few = c.catch_up.ensures.few })
