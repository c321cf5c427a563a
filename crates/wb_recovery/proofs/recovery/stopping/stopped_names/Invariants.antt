use Rattle.std.proofs.Common.{◌≡◌, take}
use Rattle.std.specs.BTreeSet.{contains}
use Rattle.wb_names.specs.Values.{NameValue}
use Rattle.wb_names.specs.Orders.{name_cmp}
use Rattle.wb_recovery.specs.Stopping.{is_received}
use Rattle.wb_recovery.proofs.recovery.stopping.stopped_names.Given as goal

abbrev pub invariant-loop-one : goal.invariant-loop-one
invariant-loop-one l = (n : NameValue) → contains name_cmp l.names n ≡ is_received (take l.one-index l.received) n
