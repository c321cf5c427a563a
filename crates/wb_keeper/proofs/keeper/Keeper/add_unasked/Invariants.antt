use Rattle.std.proofs.Common.{◌≡◌, ◌++◌, ◌-◌, ◌≤◌, filter, length, map, take}
use Rattle.wb_names.specs.History.{name_of}
use Rattle.wb_recovery.specs.Values.{timers_in}
use Rattle.wb_keeper.specs.Missing.{is_unasked, numbers_from}
use Rattle.wb_keeper.proofs.keeper.Keeper.add_unasked.Given as goal

abbrev pub invariant-loop-seq : goal.invariant-loop-seq
invariant-loop-seq l = record {
  few : length l.names.items ≤ l.room;
  added : l.names.items ≡ take l.room (l.initial.names.items ++ filter (is_unasked (timers_in l.self.recovery)) (map (name_of l.page l.gap.source) (numbers_from l.gap.first (l.seq - l.gap.first))));
}
