use Rattle.std.proofs.Common.{◌≡◌, ◌++◌, drop}
use Rattle.wb_judging.specs.Since.{is_among, placed_from}
use Rattle.wb_judging.proofs.since.Touched.placed.Given as goal

abbrev pub invariant-loop-place : goal.invariant-loop-place
invariant-loop-place l = l.placed.items ++ placed_from (is_among l.self) l.place (drop l.place l.drawops) ≡ placed_from (is_among l.self) 0 l.drawops
