use Rattle.std.proofs.Common.{◌≡◌, ◌++◌, map}
use Rattle.wb_judging.specs.Events.{send_event}
use Rattle.wb_judging.proofs.telling.add_sent.Given as goal

abbrev pub invariant-loop-datagram : goal.invariant-loop-datagram
invariant-loop-datagram l = l.events.items ≡ l.initial.events.items ++ map (send_event l.echo) l.yielded
