use Rattle.std.proofs.Common.{◌≡◌, take, flat_map}
use Rattle.wb_commands.proofs.listing.lines_text.Given as goal

abbrev pub invariant-loop-item : goal.invariant-loop-item
invariant-loop-item g l = l.text.items ≡ flat_map g.T.Lined.spelled (take l.item-index l.items)
