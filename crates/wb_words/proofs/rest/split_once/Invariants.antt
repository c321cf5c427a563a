use Rattle.std.proofs.Common.{◌≡◌, take, drop}
use Rattle.wb_words.specs.Words.{split_once, split_after}
use Rattle.wb_words.proofs.rest.split_once.Given as goal

abbrev pub invariant-loop-place : goal.invariant-loop-place
invariant-loop-place l = split_once l.mark l.bytes ≡ split_after (take l.place l.bytes) l.mark (drop l.place l.bytes)
