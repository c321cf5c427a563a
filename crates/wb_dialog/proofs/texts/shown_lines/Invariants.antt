use Rattle.std.proofs.Common.{◌≡◌, take, flat_map}
use Rattle.wb_dialog.specs.Texts.{shown_line}
use Rattle.wb_dialog.proofs.texts.shown_lines.Given as goal

abbrev pub invariant-loop-placed : goal.invariant-loop-placed
invariant-loop-placed l = l.text.items ≡ flat_map shown_line (take l.placed-index l.shown)
