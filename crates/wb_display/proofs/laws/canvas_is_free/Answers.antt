use Rattle.wb_display.proofs.Convergence.{paints_alike}
use Rattle.wb_display.proofs.laws.canvas_is_free.Goals as goal

pub returns : goal.returns
returns c = paints_alike
