use Rattle.std.proofs.Common.{◌≡◌, drop}
use Rattle.wb_lines.specs.Words.{number_of, number_from}
use Rattle.wb_lines.proofs.numbers.number.Given as goal

abbrev pub invariant-loop-byte : goal.invariant-loop-byte
invariant-loop-byte l = number_of l.low l.high l.word ≡ number_from l.low l.high l.value (drop l.byte-index l.word)
