use Rattle.std.proofs.Common.{take}
use Rattle.wb_recovery.specs.Stopping.{EndsAll}
use Rattle.wb_recovery.proofs.recovery.Recovery.end_all.Given as goal

abbrev pub invariant-loop-one : goal.invariant-loop-one
invariant-loop-one l = EndsAll l.now (take l.one-index l.received) l.initial.self l.self
