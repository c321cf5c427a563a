use Rattle.std.proofs.Common.{◌≡◌, ◌++◌, map, take}
use Rattle.wb_judging.specs.Recording.{line_of}
use Rattle.wb_judging.proofs.record.add_given.Given as goal

abbrev pub invariant-loop-drawop : goal.invariant-loop-drawop
invariant-loop-drawop l = l.lines.items ≡ l.initial.lines.items ++ map (line_of l.strange.given) (take l.drawop-index l.gained)
