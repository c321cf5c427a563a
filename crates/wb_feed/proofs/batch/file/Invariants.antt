use Rattle.std.proofs.Common.{take}
use Rattle.wb_feed.specs.Inside.Filing.{Files}
use Rattle.wb_feed.proofs.batch.file.Given as goal

abbrev pub invariant-loop-i : goal.invariant-loop-i
invariant-loop-i l = Files (take l.i l.told) l.count l.filed.items
