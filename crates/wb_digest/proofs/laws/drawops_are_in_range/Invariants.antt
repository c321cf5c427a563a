use Rattle.std.specs.Prelude.{All, take}
use Rattle.wb_codec.specs.Ranges.{IsDrawop}
use Rattle.wb_digest.proofs.laws.drawops_are_in_range.Given as goal

abbrev pub invariant-loop-drawop : goal.invariant-loop-drawop
invariant-loop-drawop l = All IsDrawop (take l.drawop-index l.drawops)
