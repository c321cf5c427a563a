use Rattle.std.proofs.Common.{◌≡◌, List, map, take, All}
use Rattle.wb_names.specs.Marks.{IsReport}
use Rattle.wb_names.specs.Values.{DrawopValue}
use Rattle.wb_gaps.specs.Holdings.{HoldNamesOf}
use Rattle.wb_gaps.proofs.holdings.Holdings.reports.Given as goal

abbrev pub invariant-loop-page : goal.invariant-loop-page
invariant-loop-page l = record {
  pages : map (λ r. r.page) l.reports.items ≡ take l.page-index l.page-items;
  each : (history : List DrawopValue) → HoldNamesOf history l.self → All (λ r. IsReport history r.page r.marks) l.reports.items;
}
