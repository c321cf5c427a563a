use Rattle.std.proofs.Common.{◌≡◌, ◌++◌, map, take}
use Rattle.wb_judging.specs.declared.event.Event.TheVariants.{Record}
use Rattle.wb_judging.proofs.telling.add_records.Given as goal

abbrev pub invariant-loop-line : goal.invariant-loop-line
invariant-loop-line l = l.events.items ≡ l.initial.events.items ++ map Record (take l.line-index l.lines)
