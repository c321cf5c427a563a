-- Whose turn it is, and what reports tell, one after the other, if what is held stays as it is.
use Rattle.std.specs.Prelude.{◌≡◌, ◌⊎◌, ℕ, zero, suc, ◌+◌, ◌-◌, ◌*◌, ◌/◌, ◌<◌, ◌≤◌, true, List, [], ◌∷◌, ◌++◌, Option, Some, None, Contains, filter, length, max}
use Rattle.std.specs.List.{sum_by}
use Rattle.std.specs.Option.{option_map, option_or}
use Rattle.wb_names.specs.History.{name_of}
use Rattle.wb_names.specs.Values.{DrawopValue, MarkValue, NameValue}
use Rattle.wb_names.specs.declared.name.PageId.{PageId}
use Rattle.wb_gaps.specs.Answers.{pages_of, report_of, top_mark}
use Rattle.wb_gaps.specs.Holes.{hole_after, holes_of}
use Rattle.wb_gaps.specs.declared.holes.Hole.{Hole}
use Rattle.wb_policy.specs.Choices.{until_in}
use Rattle.wb_policy.specs.Reports.{is_untold, newest_now, page_after, rest_after, slice_after, slice_with, told_in_turn, told_newest}
use Rattle.wb_policy.specs.Turns.{after_hole, name_in, next_round, nowhere, windows_in}
use Rattle.wb_policy.specs.declared.limits.TheConstants.{MOST_MARKS, ROUND_LIMIT, WINDOW}
pub use Rattle.wb_policy.specs.declared.reports.Told.{Told}
use Rattle.wb_policy.specs.declared.turns.Turns.{Turns}

-- ---- holes

-- the hole whose turn it is, if there is one: the next after the last turn, or the first of all in another round
abbrev pub hole_in_turn : List DrawopValue → Turns → Option Hole
hole_in_turn held t = option_or (hole_after held t.page t.source t.number) (hole_after held nowhere 0 0)

abbrev pub led_to : Option Hole → Option Hole → Turns → Turns
led_to (Some hole) first t = after_hole t hole
led_to None (Some hole) t = after_hole (next_round t) hole
led_to None None t = next_round t

-- where the turns stand once it had its turn
abbrev pub after_turn : List DrawopValue → Turns → Turns
after_turn held t = led_to (hole_after held t.page t.source t.number) (hole_after held nowhere 0 0) t

-- the turns in the round of that hole, and the name of it that is wanted
abbrev pub in_round : Option Hole → Turns → Turns
in_round (Some hole) t = t
in_round None t = next_round t

abbrev pub name_in_turn : List DrawopValue → Turns → Option NameValue
name_in_turn held t = option_map (name_in (in_round (hole_after held t.page t.source t.number) t)) (hole_in_turn held t)

-- where they stand after `count` turns
abbrev pub after_turns : List DrawopValue → ℕ → Turns → Turns
after_turns held zero t = t
after_turns held (suc count) t = after_turn held (after_turns held count t)

-- how many numbers a hole has, and whether none has more than these
abbrev pub numbers_in : Hole → ℕ
numbers_in hole = hole.gap.last + 1 - hole.gap.first

abbrev pub HaveAtMost : ℕ → List DrawopValue → Type 0
HaveAtMost most held = (hole : Hole) → Contains (holes_of held) hole → numbers_in hole ≤ most

-- Of R holes each has its turn among each 64 R turns.
abbrev pub EachHoleHasItsTurn : Type 0
EachHoleHasItsTurn = (held : List DrawopValue) (t : Turns) (hole : Hole) → Contains (holes_of held) hole
    → (count : ℕ) × (count < WINDOW * length (holes_of held)) × (hole_in_turn held (after_turns held count t) ≡ Some hole)

-- A number of a hole that has n is wanted after at most 64 R turns for each 64 of its n numbers or part of these, however many another hole has, as long as the
-- rounds are counted with 32 bits.
abbrev pub EachNumberHasItsTurn : Type 0
EachNumberHasItsTurn = (held : List DrawopValue) (t : Turns) (hole : Hole) (number : ℕ) → Contains (holes_of held) hole → hole.gap.first ≤ number → number ≤ hole.gap.last
    → t.round + windows_in hole.gap + 1 < ROUND_LIMIT
    → (count : ℕ) × (count ≤ windows_in hole.gap * length (holes_of held) * WINDOW) × (name_in_turn held (after_turns held count t) ≡ Some (name_of hole.page hole.gap.source number))

-- If none of R holes has more than n numbers, each number of one is wanted among each 2 n R turns.
abbrev pub EachNumberHasItsTurnSoon : Type 0
EachNumberHasItsTurnSoon = (held : List DrawopValue) (t : Turns) (hole : Hole) (number most : ℕ) → Contains (holes_of held) hole → hole.gap.first ≤ number → number ≤ hole.gap.last
    → HaveAtMost most held → t.round + 2 * most < ROUND_LIMIT
    → (count : ℕ) × (count < 2 * most * length (holes_of held)) × (name_in_turn held (after_turns held count t) ≡ Some (name_of hole.page hole.gap.source number))

-- ---- marks

-- what is left of the telling
abbrev pub left_to_tell : List DrawopValue → Told → List MarkValue
left_to_tell held t = rest_after t.until t.last (report_of held t.page)

-- by whether something of a page is left
abbrev pub where_left : {X : Type 0} → List MarkValue → X → X → X
where_left [] none some = none
where_left (m ∷ marks) none some = some

-- the page of the next report in turn, and which of its marks: what is left of the telling, or the next page
abbrev pub page_in_turn : List DrawopValue → Told → PageId
page_in_turn held t = where_left (left_to_tell held t) (page_after t.page (pages_of held)) t.page

abbrev pub marks_in_turn : List DrawopValue → Told → List MarkValue
marks_in_turn held t = where_left (left_to_tell held t) (slice_after None (report_of held (page_after t.page (pages_of held)))) (left_to_tell held t)

abbrev pub until_in_turn : List DrawopValue → Told → ℕ
until_in_turn held t = where_left (left_to_tell held t) (until_in (report_of held (page_after t.page (pages_of held)))) t.until

abbrev pub after_telling : List DrawopValue → Told → Told
after_telling held t = told_in_turn (page_in_turn held t) (until_in_turn held t) (marks_in_turn held t)

-- the next report: what changed last, if it is time for that, or what is in turn
abbrev pub where_newest : {X : Type 0} → Option NameValue → X → (NameValue → X) → X
where_newest None turn last = turn
where_newest (Some name) turn last = last name

abbrev pub page_reported : List DrawopValue → Told → PageId
page_reported held t = where_newest (newest_now held t) (page_in_turn held t) (λ name. name.page)

abbrev pub marks_reported : List DrawopValue → Told → List MarkValue
marks_reported held t = where_newest (newest_now held t) (marks_in_turn held t) (λ name. slice_with name.source (report_of held name.page))

abbrev pub after_reporting : List DrawopValue → Told → Told
after_reporting held t = where_newest (newest_now held t) (after_telling held t) (λ name. told_newest t)

abbrev pub after_reports : List DrawopValue → ℕ → Told → Told
after_reports held zero t = t
after_reports held (suc count) t = after_reporting held (after_reports held count t)

-- how many slices of at most 64 marks a page has, at least one
abbrev pub slices_on : List DrawopValue → PageId → ℕ
slices_on held page = max 1 ((length (report_of held page) + (MOST_MARKS - 1)) / MOST_MARKS)

-- and how many a board has
abbrev pub slices_of : List DrawopValue → ℕ
slices_of held = sum_by (slices_on held) (pages_of held)

-- Each mark of a board of S slices is among twice S reports, and twice as many more as the page of the last one in turn has slices.
abbrev pub EachMarkIsTold : Type 0
EachMarkIsTold = (held : List DrawopValue) (t : Told) (page : PageId) (m : MarkValue) → Contains (pages_of held) page → Contains (report_of held page) m
    → (count : ℕ) × (count < 2 * (slices_of held + slices_on held t.page)) × (page_reported held (after_reports held count t) ≡ page) × Contains (marks_reported held (after_reports held count t)) m

-- a report tells the greatest number of the source of a drawop, on its page
abbrev pub TellsSourceOf : DrawopValue → List DrawopValue → Told → Type 0
TellsSourceOf d held t = (page_reported held t ≡ d.name.page) × Contains (marks_reported held t) (top_mark held d.name.page d.name.source)

-- Of two reports in a row one tells that of the newest drawop that is held.
abbrev pub NewestIsTold : Type 0
NewestIsTold = (older : List DrawopValue) (d : DrawopValue) (t : Told) → 1 ≤ d.name.seq
    → let held = older ++ d ∷ [] in TellsSourceOf d held t ⊎ TellsSourceOf d held (after_reporting held t)

-- While the telling of a page goes on, whatever the board has become meanwhile: a report in turn tells of that page sources above those before, and 64
-- of them or all that there are. So a telling tells no source twice, and each of its reports but the last tells 64.
pub record GoesOnTelling (held : List DrawopValue) (t : Told) : Type 0 where
  pub page : page_in_turn held t ≡ t.page
  pub until : until_in_turn held t ≡ t.until
  pub above : (m : MarkValue) → Contains (marks_in_turn held t) m → is_untold t.last m.source ≡ true
  pub many : (length (marks_in_turn held t) ≡ MOST_MARKS) ⊎ (marks_in_turn held t ≡ filter (λ m. is_untold t.last m.source) (report_of held t.page))

abbrev pub TellingsRise : Type 0
TellingsRise = (held : List DrawopValue) (t : Told) (m : MarkValue) → Contains (left_to_tell held t) m → GoesOnTelling held t
