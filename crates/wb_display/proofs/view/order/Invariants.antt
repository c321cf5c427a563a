use Rattle.std.proofs.Common.{◌≡◌, take}
use Rattle.std.specs.Prelude.{filter}
use Rattle.wb_display.specs.Display.{is_shown}
use Rattle.wb_display.proofs.view.order.Given as goal

abbrev pub invariant-loop-drawop : goal.invariant-loop-drawop
invariant-loop-drawop l = l.shown.items ≡ filter (is_shown l.fn.list l.fn.page) (take l.drawop-index l.list)
