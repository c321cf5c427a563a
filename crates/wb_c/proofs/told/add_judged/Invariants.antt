use Rattle.std.proofs.Common.{◌≡◌, ◌++◌, map}
use Rattle.wb_c.specs.declared.event.Event.TheVariants.{Judged}
use Rattle.wb_c.proofs.told.add_judged.Given as goal

abbrev pub invariant-loop-event : goal.invariant-loop-event
invariant-loop-event l = l.events.items ≡ l.initial.events.items ++ map Judged l.yielded
