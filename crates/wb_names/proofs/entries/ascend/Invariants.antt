use Rattle.wb_names.proofs.Ascents.{Climbs}
use Rattle.wb_names.proofs.entries.ascend.Given as goal

abbrev pub invariant-loop-place : goal.invariant-loop-place
invariant-loop-place g l = Climbs g.E.Entry.source g.E.Entry.IsPositive l.entries l.place
