use Rattle.std.proofs.Common.{◌≡◌, take}
use Rattle.wb_keeping.specs.Drawings.{drawing_time}
use Rattle.wb_keeping.proofs.drawings.time_of.Given as goal

abbrev pub invariant-loop-drawop : goal.invariant-loop-drawop
invariant-loop-drawop l = l.latest ≡ drawing_time (take l.drawop-index l.list) l.page l.time
