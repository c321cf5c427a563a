use Rattle.std.proofs.Common.{◌<◌, ◌^◌}
use Rattle.wb_words.proofs.Numerals.{Walked}
use Rattle.wb_words.proofs.number.number_in.Given as goal

abbrev pub invariant-loop-byte : goal.invariant-loop-byte
invariant-loop-byte l = Walked l.word l.byte-index l.value × (l.value < 2 ^ 64)
