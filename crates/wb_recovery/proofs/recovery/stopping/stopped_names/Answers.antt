use Rattle.std.proofs.Common.{arith}
use Rattle.std.specs.BTreeSet.{contains}
use Rattle.wb_names.specs.Orders.{name_cmp}
use Rattle.wb_recovery.proofs.StoppedNames.{set_more}
use Rattle.wb_recovery.proofs.recovery.stopping.stopped_names.Goals as goal

pub loop-one-preserved : goal.loop-one-preserved
loop-one-preserved c = λ n. set_more c.args.received.now c.loop-one.one-index c.one-item.result n (omega arith) c.one-item.is (contains name_cmp c.loop-one.names) (contains name_cmp c.insert.new.self) (c.loop-one.invariant n) (c.in_ok-insert.ensures.updates.0 n)
