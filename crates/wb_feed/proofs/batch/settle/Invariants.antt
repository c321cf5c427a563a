use Rattle.wb_feed.proofs.Filing.{RestSoFar}
use Rattle.wb_feed.proofs.batch.settle.Given as goal

abbrev pub invariant-loop-i : goal.invariant-loop-i
invariant-loop-i l = RestSoFar l.initial.desk l.filed l.arrived l.i l.desk l.batch
