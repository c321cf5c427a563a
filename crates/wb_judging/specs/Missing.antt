-- How many drawops of a page are missing.
use Rattle.std.specs.Prelude.{ℕ, ◌+◌, ◌-◌, ◌^◌, Bool, ◌&&◌, not, List, min, nat_eq, nat_le}
use Rattle.std.specs.List.{count_by, list_any, sum_by}
use Rattle.wb_names.specs.Orders.{same_page}
use Rattle.wb_names.specs.Values.{NameValue}
use Rattle.wb_names.specs.declared.gap.Gap.{Gap}
use Rattle.wb_names.specs.declared.name.PageId.{PageId}
use Rattle.wb_member.specs.Judged.{asked_names}
use Rattle.wb_member.specs.Opened.{Opened, gaps_at}

-- how many numbers a range has
abbrev pub range_len : Gap → ℕ
range_len g = g.last + 1 - g.first

abbrev pub is_in : NameValue → Gap → Bool
is_in n g = nat_eq n.source g.source && (nat_le g.first n.seq && nat_le n.seq g.last)

-- a name of the page that is in no missing range
abbrev pub is_beyond : PageId → List Gap → NameValue → Bool
is_beyond page gaps n = same_page n.page page && not (list_any (is_in n) gaps)

-- the numbers of these ranges, and of these names those beyond, at most 2^64 - 1
abbrev pub missing_of : PageId → List Gap → List NameValue → ℕ
missing_of page gaps asked = min (sum_by range_len gaps + count_by (is_beyond page gaps) asked) (2 ^ 64 - 1)

-- the numbers that are missing up to the greatest that are held or were heard of, and what is requested above these
abbrev pub missing_on : PageId → Opened → ℕ
missing_on page host = missing_of page (gaps_at page host) (asked_names host)
