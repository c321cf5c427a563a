use Rattle.std.proofs.Common.{◌≡◌, ◌≤◌, ◌-◌, List, ℕ, [], ◌++◌, length}
use Rattle.wb_lines.specs.Output.{SendsOut}
use Rattle.wb_lines.specs.Ahead.{ReadsAhead, NoLineFeed}
use Rattle.wb_lines.proofs.line_reader.LineReader.next_line.Given as goal

abbrev pub invariant-loop-line : goal.invariant-loop-line
invariant-loop-line g l = record {
  sends : SendsOut (g.W.Sink.taken l.fn.sink) l.fn.output (g.W.Sink.taken l.sink) l.output [];
  waits : l.fn.output ≡ [] → l.output ≡ [];
  read : (given : List ℕ) × ReadsAhead l.fn.self l.self (g.R.Source.left l.fn.source) (g.R.Source.left l.source) (g.R.Source.has_failed l.fn.source) (g.R.Source.has_failed l.source) given
      × (l.fn.self.bytes ++ given ≡ l.line.items ++ l.self.bytes) × NoLineFeed l.line.items × (length l.line.items ≤ 65536);
}

abbrev pub decreases-loop-line : goal.decreases-loop-line
decreases-loop-line g l = 65537 - length l.line.items
