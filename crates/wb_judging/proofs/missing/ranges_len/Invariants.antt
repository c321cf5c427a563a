use Rattle.std.proofs.Common.{◌≡◌, ◌-◌, ◌^◌, take}
use Rattle.std.specs.Prelude.{min}
use Rattle.std.specs.List.{sum_by}
use Rattle.wb_judging.specs.Missing.{range_len}
use Rattle.wb_judging.proofs.missing.ranges_len.Given as goal

abbrev pub invariant-loop-gap : goal.invariant-loop-gap
invariant-loop-gap l = l.total ≡ min (sum_by range_len (take l.gap-index l.gaps)) (2 ^ 64 - 1)
