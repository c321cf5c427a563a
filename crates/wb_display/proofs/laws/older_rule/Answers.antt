use Rattle.wb_display.proofs.Convergence.{older_rule}
use Rattle.wb_display.proofs.laws.older_rule.Goals as goal

pub returns : goal.returns
returns c = older_rule
