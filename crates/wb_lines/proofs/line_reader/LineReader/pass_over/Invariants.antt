use Rattle.std.proofs.Common.{◌≡◌, ◌-◌, ◌^◌, List, ℕ, [], ◌++◌, length}
use Rattle.wb_lines.specs.Output.{SendsOut}
use Rattle.wb_lines.specs.Ahead.{ReadsAhead, NoLineFeed}
use Rattle.wb_lines.proofs.line_reader.LineReader.pass_over.Given as goal

abbrev pub invariant-loop-passed : goal.invariant-loop-passed
invariant-loop-passed g l = record {
  sends : SendsOut (g.W.Sink.taken l.fn.sink) l.fn.output (g.W.Sink.taken l.sink) l.output [];
  read : (given : List ℕ) × (rest : List ℕ) × ReadsAhead l.fn.self l.self (g.R.Source.left l.fn.source) (g.R.Source.left l.source) (g.R.Source.has_failed l.fn.source) (g.R.Source.has_failed l.source) given
      × (l.fn.self.bytes ++ given ≡ rest ++ l.self.bytes) × NoLineFeed rest × (length rest ≡ l.passed);
}

abbrev pub decreases-loop-passed : goal.decreases-loop-passed
decreases-loop-passed g l = 2 ^ 64 - l.passed
