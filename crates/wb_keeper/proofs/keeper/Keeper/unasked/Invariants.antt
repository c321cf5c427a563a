use Rattle.std.proofs.Common.{◌≡◌, ◌++◌, ◌≤◌, filter, length, take}
use Rattle.std.specs.Prelude.{All}
use Rattle.wb_recovery.specs.Values.{timers_in}
use Rattle.wb_keeper.specs.Missing.{is_unasked, names_in_gaps}
use Rattle.wb_keeper.proofs.keeper.Keeper.unasked.Given as goal

abbrev pub invariant-loop-gaps : goal.invariant-loop-gaps
invariant-loop-gaps l = record {
  few : length l.names.items ≤ l.room;
  taken : take l.room (l.names.items ++ filter (is_unasked (timers_in l.self.recovery)) (names_in_gaps l.page l.gaps)) ≡ take l.room (filter (is_unasked (timers_in l.self.recovery)) (names_in_gaps l.page l.fn.gaps));
  first : All (λ gap. 1 ≤ gap.first) l.gaps;
  filled : All (λ gap. gap.first ≤ gap.last) l.gaps;
}

abbrev pub decreases-loop-gaps : goal.decreases-loop-gaps
decreases-loop-gaps l = length l.gaps
