-- A part of what a member reports of a list of drawops: the next marks of a page, its last source, and the next pages.
use Rattle.std.specs.Prelude.{ℕ, List, Option, None, filter, map, take}
use Rattle.std.specs.List.{last_or}
use Rattle.wb_names.specs.Ascending.{is_above}
use Rattle.wb_names.specs.Values.{DrawopValue, MarkValue}
use Rattle.wb_names.specs.declared.name.PageId.{PageId}
use Rattle.wb_gaps.specs.Answers.{pages_of, report_of}
use Rattle.wb_gaps.specs.Starts.{is_past}

-- the marks of the sources above one, if there is one, at most `most` of them, the first ones
abbrev pub marks_after : List DrawopValue → PageId → Option ℕ → ℕ → List MarkValue
marks_after history page last most = take most (filter (λ m. is_above last m.source) (report_of history page))

-- the last source of a report, if it has one
abbrev pub last_source : List DrawopValue → PageId → Option ℕ
last_source history page = last_or None (map (λ m. m.source) (report_of history page))

-- the pages after one, if there is one, at most `most` of them, the first ones
abbrev pub pages_after : List DrawopValue → Option PageId → ℕ → List PageId
pages_after history last most = take most (filter (is_past last) (pages_of history))
