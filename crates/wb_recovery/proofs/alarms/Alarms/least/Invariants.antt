use Rattle.std.proofs.Common.{◌≡◌, None}
use Rattle.std.specs.BTreeMap.{values}
use Rattle.wb_recovery.specs.Alarms.{earliest}
use Rattle.wb_recovery.proofs.alarms.Alarms.least.Given as goal

abbrev pub invariant-loop-due : goal.invariant-loop-due
invariant-loop-due l = earliest None (values l.self.dues) ≡ earliest l.least l.due-iterator
