use Rattle.std.proofs.Common.{sym, subst}
use Rattle.wb_recovery.specs.Timing.{AreDelays}
use Rattle.wb_recovery.proofs.recovery.Recovery.timers.Goals as goal

pub returns-clause-delays : goal.returns-clause-delays
returns-clause-delays c = subst AreDelays (sym c.timers_of.ensures) (c.self.invariant.delays c.args.name.now)
