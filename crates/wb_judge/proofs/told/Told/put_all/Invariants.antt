use Rattle.std.proofs.Common.{◌≡◌, drop}
use Rattle.wb_judge.specs.Told.{with_marks}
use Rattle.wb_judge.proofs.told.Told.put_all.Given as goal

abbrev pub invariant-loop-mark : goal.invariant-loop-mark
invariant-loop-mark l = record {
  told : with_marks l.page (drop l.mark-index l.marks) l.self ≡ with_marks l.page l.marks l.fn.self;
}
