use Rattle.std.proofs.Common.{◌≡◌, ◌*◌, ◌≤◌, take}
use Rattle.std.specs.List.{sum_by}
use Rattle.wb_keeping.specs.Performing.{IsKeptAt, Keeping}
use Rattle.wb_judging.specs.Handing.{lacks}
use Rattle.wb_judging.proofs.facts.lacking.Given as goal

abbrev pub invariant-loop-mark : goal.invariant-loop-mark
invariant-loop-mark l = record {
  same : l.kept ≡ l.fn.kept;
  bound : l.total ≤ 4294967295 * l.mark-index;
  lacking : (k : Keeping) → IsKeptAt l.fn.kept k → l.total ≡ sum_by (lacks l.page k.host) (take l.mark-index l.mark-items);
}
