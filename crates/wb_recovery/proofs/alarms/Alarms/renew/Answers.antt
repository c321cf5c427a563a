use Rattle.std.proofs.Common.{refl}
use Rattle.wb_recovery.proofs.AlarmMoves.{keep_renewed}
use Rattle.wb_recovery.proofs.alarms.Alarms.renew.Goals as goal

pub returns-then-not-self-clause-kept : goal.returns-then-not-self-clause-kept
returns-then-not-self-clause-kept c = λ dues. keep_renewed dues c.args.self.now _ refl c.least-self.ensures.least c.least-self.ensures.ordered
