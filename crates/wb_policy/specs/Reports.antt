-- Reports: when one is due, and which marks it has.
use Rattle.std.specs.Prelude.{ℕ, zero, suc, ◌+◌, ◌*◌, ◌/◌, Bool, true, false, List, [], ◌∷◌, Option, Some, None, filter, length, max, min, nat_lt, take, unwrap_or, if◌then◌else◌}
use Rattle.std.specs.List.{find}
use Rattle.std.specs.Option.{option_or}
use Rattle.std.specs.Ordering.{is_lt}
use Rattle.wb_names.specs.Orders.{page_cmp}
use Rattle.wb_names.specs.Values.{DrawopValue, MarkValue, NameValue}
use Rattle.wb_names.specs.declared.echo.Echo.{Echo}
use Rattle.wb_names.specs.declared.name.PageId.{PageId}
use Rattle.wb_policy.specs.Choices.{last_source, newest}
use Rattle.wb_policy.specs.Turns.{nowhere}
use Rattle.wb_policy.specs.declared.reports.Told.{Told}
use Rattle.wb_policy.specs.declared.limits.TheConstants.{ECHO_BYTES, HEAD_BYTES, HEARD, LONGEST_MEAN, MARK_BYTES, MOST_MARKS, SECOND, SHORTEST_MEAN}

-- The mean time between two reports, so that those of all members together take `rate` bytes a second: from 2 to 64 seconds.
abbrev pub mean_time : ℕ → ℕ → ℕ → ℕ
mean_time rate members bytes = min (max (members * bytes * SECOND / rate) SHORTEST_MEAN) LONGEST_MEAN

-- this member, and those of whom a session message was heard within 192 seconds
abbrev pub members_in : List Echo → ℕ
members_in echoes = 1 + length (filter (λ e. nat_lt e.held HEARD) echoes)

-- the next one is due after half of that up to one and a half
abbrev pub next_report : ℕ → ℕ → ℕ → ℕ
next_report now mean drawn = now + mean / 2 + drawn

-- the bytes of a session message with these marks and echoes
abbrev pub report_bytes : List MarkValue → List Echo → ℕ
report_bytes marks echoes = HEAD_BYTES + MARK_BYTES * length marks + ECHO_BYTES * length echoes

-- ---- slices

-- a source above the last of earlier slices, if there is one
abbrev pub is_untold : Option ℕ → ℕ → Bool
is_untold None source = true
is_untold (Some told) source = nat_lt told source

-- the next 64 marks of a page
abbrev pub slice_after : Option ℕ → List MarkValue → List MarkValue
slice_after told marks = take MOST_MARKS (filter (λ m. is_untold told m.source) marks)

-- The telling of a page goes on up to the source that was its last when it began, whatever has come since.
abbrev pub is_telling : ℕ → Option ℕ → Bool
is_telling until None = false
is_telling until (Some told) = nat_lt told until

-- the next marks of the page of the last report, and none if its telling has ended
abbrev pub rest_after : ℕ → Option ℕ → List MarkValue → List MarkValue
rest_after until told marks = if is_telling until told then slice_after told marks else []

-- ---- what changed last

-- what reports told, after one in turn: of these marks of a page, whose telling ends at a source
abbrev pub told_in_turn : PageId → ℕ → List MarkValue → Told
told_in_turn page until marks = record { page = page; last = last_source None marks; until = until; in_turn = true }

-- and after one of what changed last: what is in turn waits
abbrev pub told_newest : Told → Told
told_newest t = record t { in_turn = false }

-- after a report in turn, the name of the newest of what is held
abbrev pub newest_now : List DrawopValue → Told → Option NameValue
newest_now held t = if t.in_turn then newest held else None

-- a slice that begins behind this one has this source first
abbrev pub from_source : ℕ → Option ℕ
from_source zero = None
from_source (suc source) = Some source

-- The slice of a page with a source: its first 64 marks, or those from that source on if it is not among these.
abbrev pub slice_with : ℕ → List MarkValue → List MarkValue
slice_with source marks = slice_after (if is_untold (last_source None (slice_after None marks)) source then from_source source else None) marks

-- ---- pages

-- the first of some pages
abbrev pub first_of_pages : List PageId → Option PageId
first_of_pages [] = None
first_of_pages (page ∷ pages) = Some page

abbrev pub is_after : PageId → PageId → Bool
is_after last page = is_lt (page_cmp last page)

-- the next page in the cycle of the pages, and page 0/0 if there is none
abbrev pub page_after : PageId → List PageId → PageId
page_after last pages = unwrap_or (option_or (find (is_after last) pages) (first_of_pages pages)) nowhere
