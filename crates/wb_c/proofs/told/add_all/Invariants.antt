use Rattle.std.proofs.Common.{◌≡◌, ◌++◌, map, take}
use Rattle.wb_c.proofs.told.add_all.Given as goal

abbrev pub invariant-loop-item : goal.invariant-loop-item
invariant-loop-item g l = l.events.items ≡ l.initial.events.items ++ map g.T.Told.told (take l.item-index l.items)
