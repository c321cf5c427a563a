-- What a member is asked, and what it answers: a function of its number, of what it heard and of what it holds.
use Rattle.std.specs.Prelude.{◌≡◌, ℕ, true, List, ◌++◌, map, Option}
use Rattle.wb_names.specs.Values.{DrawopValue, MarkValue}
use Rattle.wb_names.specs.Marks.{known as known_in}
use Rattle.wb_names.specs.Orders.{page_cmp}
use Rattle.wb_names.specs.declared.gap.Gap.{Gap}
use Rattle.wb_names.specs.declared.name.PageId.{PageId}
use Rattle.wb_digest.specs.Digest.{digest_of}
use Rattle.wb_display.specs.Canvas.{canvas_text, is_canvas_size}
use Rattle.wb_gaps.specs.Answers.{gaps_of, report_of, pages_of}
use Rattle.wb_gaps.specs.Sorting.{sorted}
use Rattle.wb_keeper.specs.Hearing.{marks_heard}
use Rattle.wb_keeper.specs.Known.{pages_heard}
use Rattle.wb_member.specs.Opened.{Opened, number_after}
use Rattle.wb_member.specs.Queries.{view_of}
use Rattle.wb_member.specs.declared.questions.Query.{Query}
use Rattle.wb_member.specs.declared.questions.Query.TheVariants.{Canvas, Gaps, Report, Pages, View, Known, Next, Digest}
use Rattle.wb_member.specs.declared.questions.Answer.{Answer}
use Rattle.wb_member.specs.declared.questions.Answer.TheVariants as answers

-- a canvas that is asked for is not too large
abbrev pub IsAnswerable : Query → Type 0
IsAnswerable (Canvas page width height) = is_canvas_size width height ≡ true
IsAnswerable query = Unit {0}

-- what a member answers: the text of a canvas, ranges, marks, pages, drawops, a number or a digest
pub data Told : Type 0 where
  canvas : List ℕ → Told
  gaps : List Gap → Told
  report : List MarkValue → Told
  pages : List PageId → Told
  view : List DrawopValue → Told
  known : List PageId → Told
  next : Option ℕ → Told
  digest : List ℕ → Told

-- the answer of a member of this number that heard these marks of each page, of these pages, and holds these drawops
abbrev pub answer_by : ℕ → (PageId → List MarkValue) → List PageId → List DrawopValue → Query → Told
answer_by number marks heard history (Canvas page width height) = canvas (canvas_text (view_of history page) width height)
answer_by number marks heard history (Gaps page) = gaps (gaps_of history page (marks page))
answer_by number marks heard history (Report page) = report (report_of history page)
answer_by number marks heard history Pages = pages (pages_of history)
answer_by number marks heard history (View page) = view (view_of history page)
answer_by number marks heard history Known = known (sorted page_cmp (map (λ d. d.name.page) history ++ heard))
answer_by number marks heard history (Next page) = next (number_after (known_in history page (marks page) number))
answer_by number marks heard history (Digest page) = digest (digest_of history page)

abbrev pub answer_to : Query → Opened → Told
answer_to query host = answer_by host.is.number (marks_heard host.is.number host.is.calls) (pages_heard host.is.number host.is.calls) host.is.held query

-- what the code answers
abbrev pub told : Answer → Told
told (answers.Canvas text) = canvas text
told (answers.Gaps ranges) = gaps ranges.items
told (answers.Report marks) = report marks
told (answers.Pages all) = pages all.items
told (answers.View drawops) = view drawops.items
told (answers.Known all) = known all.items
told (answers.Next number) = next number
told (answers.Digest bytes) = digest bytes
