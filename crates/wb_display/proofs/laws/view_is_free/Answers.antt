use Rattle.wb_display.proofs.Convergence.{stays_a_view}
use Rattle.wb_display.proofs.laws.view_is_free.Goals as goal

pub returns : goal.returns
returns c = stays_a_view
