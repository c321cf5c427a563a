-- The marks that members told: whoever reports a mark has a drawop of that number, so numbers up to it exist.
use Rattle.std.specs.Prelude.{ℕ, ◌+◌, Bool, not, ◌&&◌, List, [], ◌∷◌, nat_le, nat_lt, if◌then◌else◌}
use Rattle.std.specs.List.{list_any}
use Rattle.wb_names.specs.Values.{MarkValue, NameValue}
use Rattle.wb_names.specs.declared.name.PageId.{PageId}
use Rattle.wb_codec.specs.declared.datagram.Datagram.{Datagram}
use Rattle.wb_codec.specs.declared.datagram.Datagram.TheVariants.{PageState, Session}
use Rattle.wb_judge.specs.Lists.{joined}
use Rattle.wb_judge.specs.Strange.{row_of, same_row}
use Rattle.wb_judge.specs.declared.limits.TheConstants.{MOST_TOLD}
use Rattle.wb_judge.specs.declared.rows.Row.{Row}
use Rattle.wb_judge.specs.declared.told.ToldMark.{ToldMark}

-- a member told this number of a source on a page, or one above it
abbrev pub was_told : Row → ℕ → List ToldMark → Bool
was_told row number told = list_any (λ m. same_row m.row row && nat_le number m.high) told

-- A mark is remembered, unless one is that is as high.
abbrev pub with_mark : ToldMark → List ToldMark → List ToldMark
with_mark m told = if was_told m.row m.high told then told else joined MOST_TOLD m told

abbrev pub mark_on : PageId → MarkValue → ToldMark
mark_on page mark = record { row = record { source = mark.source; page = page }; high = mark.high }

abbrev pub with_marks : PageId → List MarkValue → List ToldMark → List ToldMark
with_marks page [] told = told
with_marks page (mark ∷ marks) told = with_marks page marks (with_mark (mark_on page mark) told)

-- the marks of a report
abbrev pub with_report : Datagram → List ToldMark → List ToldMark
with_report (Session s sent page marks echoes) told = with_marks page marks told
with_report (PageState s page marks) told = with_marks page marks told
with_report v told = told

-- It leaves numbers missing between the greatest that is held of its source on its page and itself, and no member told of it.
unfoldable pub leaves_holes : NameValue → ℕ → List ToldMark → Bool
leaves_holes name top told = nat_lt (top + 1) name.seq && not (was_told (row_of name) name.seq told)
