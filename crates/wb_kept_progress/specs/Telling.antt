-- By when a host tells a number that it holds as the last of its source, whatever comes to it meanwhile.
use Rattle.std.specs.Prelude.{◌≡◌, ℕ, zero, suc, ◌+◌, ◌*◌, ◌<◌, ◌≤◌, true, List, ◌∷◌, ◌++◌, Contains, nat_eq}
use Rattle.wb_names.specs.Values.{DrawopValue, MarkValue}
use Rattle.wb_names.specs.declared.echo.Echo.{Echo}
use Rattle.wb_names.specs.declared.name.PageId.{PageId}
use Rattle.wb_codec.specs.declared.datagram.Datagram.TheVariants.{Session}
use Rattle.wb_gaps.specs.Answers.{top_mark}
use Rattle.wb_progress.specs.Turns.{Terms}
use Rattle.wb_policy.specs.Fairness.{after_reporting, marks_reported, page_reported, slices_of}
use Rattle.wb_policy.specs.declared.reports.Told.{Told}
use Rattle.wb_policy.specs.Reports.{is_telling}
use Rattle.wb_kept_progress.specs.Sessions.{Opening}
use Rattle.wb_kept_progress.specs.Timed.{At, time_of}
use Rattle.wb_kept_progress.specs.Whole.{IsTimelySession, ReportWithin, sends_then, there}
use Rattle.wb_keeping.specs.Laws.{KeptLine}

-- ---- boards that grow

-- each has what the one before has
abbrev pub AreGrowing : (ℕ → List DrawopValue) → Type 0
AreGrowing boards = (count : ℕ) (d : DrawopValue) → Contains (boards count) d → Contains (boards (suc count)) d

-- where tellings stand after `count` reports, each of its own board
abbrev pub after_growing : (ℕ → List DrawopValue) → ℕ → Told → Told
after_growing boards zero t = t
after_growing boards (suc count) t = after_reporting (boards count) (after_growing boards count t)

-- a page has a mark of a source: a drawop of both is held whose number is not 0
pub record HasMark (held : List DrawopValue) (page : PageId) (source : ℕ) : Type 0 where
  pub d : DrawopValue
  pub there : Contains held d
  pub on : d.name.page ≡ page
  pub by : d.name.source ≡ source
  pub counted : 1 ≤ d.name.seq

-- a telling that goes on ends at a source that its page has
abbrev pub EndsAtMark : List DrawopValue → Told → Type 0
EndsAtMark held t = is_telling t.until t.last ≡ true → HasMark held t.page t.until

-- While boards grow, one of four times as many reports as the last of them has slices tells a mark of the first, as it is by then: the telling of a page ends at
-- the source that was the last when it began, so no page waits for another for ever.
abbrev pub EachMarkIsToldOfGrowing : Type 0
EachMarkIsToldOfGrowing = (boards : ℕ → List DrawopValue) (t : Told) (page : PageId) (source last : ℕ) → AreGrowing boards → EndsAtMark (boards 0) t → HasMark (boards 0) page source → 4 * slices_of (boards last) ≤ last
    → (count : ℕ) × (count < 4 * slices_of (boards last)) × (page_reported (boards count) (after_growing boards count t) ≡ page) × Contains (marks_reported (boards count) (after_growing boards count t)) (top_mark (boards count) page source)

-- ---- live hosts

-- From `quiet` on the board of a live host has at most this many slices.
abbrev pub HaveSlices : (ℕ → Opening) → Terms → List (At KeptLine) → ℕ → Type 0
HaveSlices hosts terms trace slices = (newer older : List (At KeptLine)) (i : ℕ) → trace ≡ newer ++ older → Contains terms.live i → terms.quiet < time_of older → slices_of (there hosts older i).host.is.held ≤ slices

-- by a call of a window, and by a time, a host reports a page with a mark
pub record IsTold (hosts : ℕ → Opening) (window base : List (At KeptLine)) (j by : ℕ) (page : PageId) (mark : MarkValue) : Type 0 where
  pub later : List (At KeptLine)
  pub e : At KeptLine
  pub between : List (At KeptLine)
  pub split : window ≡ later ++ e ∷ between
  pub place : nat_eq e.place j ≡ true
  pub after : time_of base ≤ e.time
  pub soon : e.time ≤ by
  pub sent : ℕ
  pub marks : List MarkValue
  pub echoes : List Echo
  pub report : Contains (sends_then hosts (between ++ base) e) (Session (hosts j).number sent page marks echoes)
  pub among : Contains marks mark

-- So what a live host holds it tells within four times as many reports as its board has slices, or a greater number of that source, whatever comes meanwhile.
abbrev pub HeldNumbersAreTold : Type 0
HeldNumbersAreTold = (hosts : ℕ → Opening) (terms : Terms) (trace newest window base : List (At KeptLine)) (slices since pause j : ℕ) (d : DrawopValue)
    → IsTimelySession hosts terms trace → ReportWithin hosts terms trace since pause → HaveSlices hosts terms trace slices
    → trace ≡ newest ++ (window ++ base) → Contains terms.live j → terms.quiet < time_of base → since ≤ time_of base
    → Contains (there hosts base j).host.is.held d → 1 ≤ d.name.seq
    → time_of base + 4 * slices * (pause + terms.late) < time_of (window ++ base)
    → (high : ℕ) × (d.name.seq ≤ high) × IsTold hosts window base j (time_of base + 4 * slices * (pause + terms.late)) d.name.page (record { source = d.name.source; high = high })

-- And it tells that number, if it stays the last of its source.
abbrev pub LastNumbersAreTold : Type 0
LastNumbersAreTold = (hosts : ℕ → Opening) (terms : Terms) (trace newest window base : List (At KeptLine)) (slices since pause j : ℕ) (d : DrawopValue)
    → IsTimelySession hosts terms trace → ReportWithin hosts terms trace since pause → HaveSlices hosts terms trace slices
    → trace ≡ newest ++ (window ++ base) → Contains terms.live j → terms.quiet < time_of base → since ≤ time_of base
    → Contains (there hosts base j).host.is.held d → 1 ≤ d.name.seq
    → ((newer older : List (At KeptLine)) (x : DrawopValue) → window ++ base ≡ newer ++ older → Contains (there hosts older j).host.is.held x → x.name.page ≡ d.name.page → x.name.source ≡ d.name.source → x.name.seq ≤ d.name.seq)
    → time_of base + 4 * slices * (pause + terms.late) < time_of (window ++ base)
    → IsTold hosts window base j (time_of base + 4 * slices * (pause + terms.late)) d.name.page (record { source = d.name.source; high = d.name.seq })
