use Rattle.std.proofs.Common.{[], ◌≤◌, ◌-◌, drop, length}
use Rattle.wb_lines.specs.Output.{SendsOut}
use Rattle.wb_lines.proofs.output.Output.flush.Given as goal

abbrev pub invariant-loop-self : goal.invariant-loop-self
invariant-loop-self g l = record {
  in_range : l.self-inside.start ≤ length l.self-inside.bytes.items;
  sends : SendsOut (g.W.Sink.taken l.fn.sink) l.fn.self (g.W.Sink.taken l.sink) (drop l.self-inside.start l.self-inside.bytes.items) [];
}

abbrev pub decreases-loop-self : goal.decreases-loop-self
decreases-loop-self g l = length l.self-inside.bytes.items - l.self-inside.start
