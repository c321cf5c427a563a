use Rattle.std.proofs.Common.{◌≡◌, drop}
use Rattle.wb_words.specs.Words.{text_in, text_after}
use Rattle.wb_words.proofs.text.text_in.Given as goal

abbrev pub invariant-loop-place : goal.invariant-loop-place
invariant-loop-place l = text_in l.fn.bytes ≡ text_after l.text.items l.escaped (drop l.place l.quoted)
