use Rattle.std.proofs.Common.{refl}
use Rattle.wb_recovery.proofs.AlarmMoves.{keep_cleared}
use Rattle.wb_recovery.proofs.alarms.Alarms.clear.Goals as goal

pub returns : goal.returns
returns c = λ dues. keep_cleared dues c.args.name c.remove-old.result c.args.self.now _ c.remove-old.ensures.updates.0 refl c.remove-old.ensures.value (λ e. (c.is_exact_without-self.ensures.exact e, c.is_exact_without-self.ensures.other e))
