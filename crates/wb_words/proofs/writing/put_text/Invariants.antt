use Rattle.std.proofs.Common.{◌≡◌, ◌∷◌, ◌++◌, take}
use Rattle.std.specs.List.{flat_map}
use Rattle.wb_words.specs.Spelling.{escaped}
use Rattle.wb_words.proofs.writing.put_text.Given as goal

abbrev pub invariant-loop-byte : goal.invariant-loop-byte
invariant-loop-byte l = l.out.items ≡ l.fn.out.items ++ 32 ∷ 34 ∷ flat_map escaped (take l.byte-index l.text)
