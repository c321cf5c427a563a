use Rattle.std.proofs.Common.{◌≡◌, ◌++◌, ◌≤◌, ◌-◌, List, length}
use Rattle.std.specs.Prelude.{filter}
use Rattle.wb_names.specs.Listing.{Lists}
use Rattle.wb_names.specs.Orders.{page_cmp}
use Rattle.wb_names.specs.declared.name.PageId.{PageId}
use Rattle.wb_gaps.specs.Starts.{HasPage, is_past}
use Rattle.wb_gaps.proofs.telling.pages_past.Given as goal

abbrev pub invariant-loop-page : goal.invariant-loop-page
invariant-loop-page l = record {
  few : length l.pages.items ≤ l.most;
  split : (all : List PageId) → Lists page_cmp (HasPage l.fn.ranges.entries) all → l.pages.items ++ filter (is_past l.last) all ≡ filter (is_past l.fn.last) all;
}

abbrev pub decreases-loop-page : goal.decreases-loop-page
decreases-loop-page l = l.most - length l.pages.items
