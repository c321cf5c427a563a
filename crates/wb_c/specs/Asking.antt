-- Questions by numbers.
use Rattle.std.specs.Prelude.{ℕ, Option, Some, None, if◌then◌else◌, nat_eq}
use Rattle.wb_display.specs.Canvas.{is_canvas_size}
use Rattle.wb_names.specs.declared.name.PageId.{PageId}
use Rattle.wb_member.specs.declared.questions.Query.{Query}
use Rattle.wb_member.specs.declared.questions.Query.TheVariants.{Canvas, Gaps, Report, Pages, View, Known, Next, Digest}

-- of a canvas, its size is to be one
abbrev pub canvas_query : PageId → ℕ → ℕ → Option Query
canvas_query page width height = if is_canvas_size width height then Some (Canvas page width height) else None

abbrev pub query_of : ℕ → PageId → ℕ → ℕ → Option Query
query_of question page width height =
    if nat_eq question 1 then Some (Next page)
    else (if nat_eq question 2 then Some (View page)
    else (if nat_eq question 3 then Some (Gaps page)
    else (if nat_eq question 4 then Some (Report page)
    else (if nat_eq question 5 then Some Pages
    else (if nat_eq question 6 then Some Known
    else (if nat_eq question 7 then canvas_query page width height
    else (if nat_eq question 8 then Some (Digest page)
    else None)))))))
