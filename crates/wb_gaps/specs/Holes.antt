-- The holes of a list of drawops: the gaps of its pages below the greatest numbers that they hold.
use Rattle.std.specs.Prelude.{ℕ, Bool, List, [], Option, map}
use Rattle.std.specs.List.{find, flat_map}
use Rattle.std.specs.Ordering.{is_lt}
use Rattle.wb_names.specs.Values.{DrawopValue}
use Rattle.wb_names.specs.declared.gap.Gap.{Gap}
use Rattle.wb_names.specs.declared.name.PageId.{PageId}
use Rattle.wb_gaps.specs.Answers.{gaps_of, pages_of}
use Rattle.wb_gaps.specs.Starts.{start, start_cmp}
use Rattle.wb_gaps.specs.declared.holdings.Start.{Start}
use Rattle.wb_gaps.specs.declared.holes.Hole.{Hole}

abbrev pub hole_on : PageId → Gap → Hole
hole_on page gap = record { page = page; gap = gap }

-- the holes of a page, ascending by source and number
abbrev pub holes_on : List DrawopValue → PageId → List Hole
holes_on history page = map (hole_on page) (gaps_of history page [])

-- the holes of all pages, ascending by page, source and number
abbrev pub holes_of : List DrawopValue → List Hole
holes_of history = flat_map (holes_on history) (pages_of history)

abbrev pub begins_after : Start → Hole → Bool
begins_after place hole = is_lt (start_cmp place (start hole.page hole.gap.source hole.gap.first))

-- the first hole that begins after this number of a source on a page
abbrev pub hole_after : List DrawopValue → PageId → ℕ → ℕ → Option Hole
hole_after history page source number = find (begins_after (start page source number)) (holes_of history)
