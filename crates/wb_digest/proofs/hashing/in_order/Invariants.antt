use Rattle.std.proofs.Common.{◌≡◌, take}
use Rattle.wb_display.specs.Laws.{on_page}
use Rattle.wb_digest.proofs.hashing.in_order.Given as goal

abbrev pub invariant-loop-drawop : goal.invariant-loop-drawop
invariant-loop-drawop l = l.listed.items ≡ on_page l.fn.page (take l.drawop-index l.drawops)
