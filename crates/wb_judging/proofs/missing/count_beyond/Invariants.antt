use Rattle.std.proofs.Common.{◌≡◌, ◌≤◌, take}
use Rattle.std.specs.List.{count_by}
use Rattle.wb_judging.specs.Missing.{is_beyond}
use Rattle.wb_judging.proofs.missing.count_beyond.Given as goal

abbrev pub invariant-loop-name : goal.invariant-loop-name
invariant-loop-name l = record {
  few : l.count ≤ l.name-index;
  is : l.count ≡ count_by (is_beyond l.page l.gaps) (take l.name-index l.names);
}
