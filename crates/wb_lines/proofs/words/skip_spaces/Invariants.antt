use Rattle.std.proofs.Common.{◌≡◌, drop}
use Rattle.wb_lines.specs.Words.{words}
use Rattle.wb_lines.proofs.words.skip_spaces.Given as goal

abbrev pub invariant-loop-start : goal.invariant-loop-start
invariant-loop-start l = words (drop l.start l.line) ≡ words l.line
