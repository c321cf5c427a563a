use Rattle.std.proofs.Common.{◌≡◌, ◌*◌, ◌≤◌, length, take}
use Rattle.std.specs.List.{flat_map}
use Rattle.std.specs.Int.{w64, to_be_bytes}
use Rattle.wb_codec.proofs.row.text_bytes.Given as goal

abbrev pub invariant-loop-k : goal.invariant-loop-k
invariant-loop-k l = (length l.bytes ≡ 64) × (l.k ≤ 8) × (take (8 * l.k) l.bytes ≡ flat_map (to_be_bytes w64) (take l.k l.words))
