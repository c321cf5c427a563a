use Rattle.wb_recovery.proofs.Bounds.{step_bound}
use Rattle.wb_recovery.proofs.expiry.step.Goals as goal

pub returns-clause-bounded : goal.returns-clause-bounded
returns-clause-bounded c = rw (c.pow.ensures, c.from.ensures) (step_bound c.args.level c.args.constant c.args.delay c.requires.level c.requires.constant c.requires.delay)
