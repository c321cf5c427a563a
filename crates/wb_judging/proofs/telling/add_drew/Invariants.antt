use Rattle.std.proofs.Common.{◌≡◌, ◌++◌, map, take}
use Rattle.wb_judging.specs.Events.{drew_event}
use Rattle.wb_judging.proofs.telling.add_drew.Given as goal

abbrev pub invariant-loop-drawop : goal.invariant-loop-drawop
invariant-loop-drawop l = l.events.items ≡ l.initial.events.items ++ map drew_event (take l.drawop-index l.gained)
