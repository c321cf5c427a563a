-- Which pages are listed, as a function.
use Rattle.std.specs.Prelude.{ℕ, List, take}
use Rattle.std.specs.Ordering.{nat_cmp, ordering_then}
use Rattle.std.specs.declared.cmp.Ordering.{Ordering}
use Rattle.wb_gaps.specs.Sorting.{sorted}
use Rattle.wb_judge.specs.Pages.{place_of}
use Rattle.wb_judge.specs.declared.pages.Listed.{Listed}
use Rattle.wb_judging.specs.Asking.{all_listed}
use Rattle.wb_judging.specs.Judged.{Judged}

-- those of ours first, then those of members, then those of strangers alone; and of each kind the one that was drawn on last first
abbrev pub listing_cmp : Listed → Listed → Ordering
listing_cmp p q = ordering_then (nat_cmp (place_of p.rank) (place_of q.rank)) (nat_cmp q.last p.last)

-- the first so many of all pages that are drawn on
abbrev pub listed_first : ℕ → Judged → List Listed
listed_first most h = take most (sorted listing_cmp (all_listed h))
