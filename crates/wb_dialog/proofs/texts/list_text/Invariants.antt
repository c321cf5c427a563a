use Rattle.std.proofs.Common.{◌≡◌, ◌++◌, length, take, codes, flat_map}
use Rattle.std.specs.Fmt.{decimal}
use Rattle.std.specs.String.{string_bytes}
use Rattle.wb_dialog.specs.Texts.{listed_line}
use Rattle.wb_dialog.proofs.texts.list_text.Given as goal

abbrev pub invariant-loop-listed : goal.invariant-loop-listed
invariant-loop-listed l = string_bytes l.text ≡ codes "list " ++ (decimal (length l.pages) ++ codes "\n") ++ flat_map listed_line (take l.listed-index l.pages)
