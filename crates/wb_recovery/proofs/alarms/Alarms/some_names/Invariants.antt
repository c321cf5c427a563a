use Rattle.std.proofs.Common.{◌≡◌, ◌++◌, Bool, filter}
use Rattle.std.specs.BTreeMap.{keys}
use Rattle.std.specs.Fn.{FnReturnsAt}
use Rattle.wb_names.specs.Values.{NameValue}
use Rattle.wb_recovery.specs.Alarms.{Tells}
use Rattle.wb_recovery.proofs.alarms.Alarms.some_names.Given as goal

abbrev pub invariant-loop-name : goal.invariant-loop-name
invariant-loop-name g l = (p : NameValue → Bool) → Tells (FnReturnsAt g.F.Fn l.test) p → filter p (keys l.self.dues) ≡ l.names.items ++ filter p l.name-iterator
