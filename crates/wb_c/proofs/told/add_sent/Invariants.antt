use Rattle.std.proofs.Common.{◌≡◌, ◌++◌, map}
use Rattle.wb_c.specs.declared.event.Event.TheVariants.{Sent}
use Rattle.wb_c.proofs.told.add_sent.Given as goal

abbrev pub invariant-loop-datagram : goal.invariant-loop-datagram
invariant-loop-datagram l = l.events.items ≡ l.initial.events.items ++ map Sent l.yielded
