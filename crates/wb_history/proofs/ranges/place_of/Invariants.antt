use Rattle.std.proofs.Common.{◌≡◌, ◌+◌, length, take}
use Rattle.wb_history.specs.RowRanges.{rows_in}
use Rattle.wb_history.proofs.ranges.place_of.Given as goal

-- the ranges before this one have all the rows but those that are left
abbrev pub invariant-loop-i : goal.invariant-loop-i
invariant-loop-i l = length (rows_in (take l.i l.ranges)) + l.left ≡ l.rows
