use Rattle.std.proofs.Common.{◌≡◌, ◌++◌, length, take, codes, flat_map}
use Rattle.std.specs.Fmt.{decimal}
use Rattle.std.specs.String.{string_bytes}
use Rattle.wb_dialog.specs.Texts.{member_line}
use Rattle.wb_dialog.proofs.texts.members_text.Given as goal

abbrev pub invariant-loop-member : goal.invariant-loop-member
invariant-loop-member l = string_bytes l.text ≡ codes "members " ++ (decimal (length l.members) ++ codes "\n") ++ flat_map member_line (take l.member-index l.members)
