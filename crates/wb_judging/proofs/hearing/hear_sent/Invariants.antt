use Rattle.std.proofs.Common.{◌≡◌, drop}
use Rattle.wb_judging.specs.Hearing.{after_sends}
use Rattle.wb_judging.proofs.hearing.hear_sent.Given as goal

abbrev pub invariant-loop-datagram : goal.invariant-loop-datagram
invariant-loop-datagram l = after_sends (drop l.datagram-index l.sent) l.judge ≡ after_sends l.sent l.initial.judge
