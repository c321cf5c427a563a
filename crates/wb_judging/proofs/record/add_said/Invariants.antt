use Rattle.std.proofs.Common.{◌≡◌, ◌++◌, map, take}
use Rattle.wb_judging.specs.declared.record.RecordLine.TheVariants.{Said}
use Rattle.wb_judging.proofs.record.add_said.Given as goal

abbrev pub invariant-loop-drawop : goal.invariant-loop-drawop
invariant-loop-drawop l = l.lines.items ≡ l.initial.lines.items ++ map Said (take l.drawop-index l.gained)
