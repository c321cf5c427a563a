use Rattle.std.proofs.Common.{◌≡◌, take}
use Rattle.wb_names.specs.History.{highest}
use Rattle.wb_board.proofs.held.highest.Given as goal

abbrev pub invariant-loop-drawop : goal.invariant-loop-drawop
invariant-loop-drawop l = l.highest ≡ highest l.page l.source (take l.drawop-index l.list)
