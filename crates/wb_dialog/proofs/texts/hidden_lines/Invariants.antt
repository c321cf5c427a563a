use Rattle.std.proofs.Common.{◌≡◌, take, flat_map}
use Rattle.wb_dialog.specs.Texts.{hidden_line}
use Rattle.wb_dialog.proofs.texts.hidden_lines.Given as goal

abbrev pub invariant-loop-target : goal.invariant-loop-target
invariant-loop-target l = l.text.items ≡ flat_map hidden_line (take l.target-index l.hidden)
