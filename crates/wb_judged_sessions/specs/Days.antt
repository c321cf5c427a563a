-- The time of day of judged members, through every start: how far it may go back, so that what a
-- user draws still lies above what its page held.
use Rattle.std.specs.Prelude.{◌≡◌, ℕ, ◌+◌, ◌-◌, ◌^◌, ◌<◌, ◌≤◌, Bool, true, false, List, [], ◌∷◌, Contains, length, max, nat_eq, if◌then◌else◌}
use Rattle.wb_names.specs.Values.{DrawopValue}
use Rattle.wb_board.specs.Counts.{MAX_CELLS}
use Rattle.wb_judge.specs.Days.{time_of_day}
use Rattle.wb_judge.specs.declared.limits.TheConstants.{AHEAD_KNOWN}
use Rattle.wb_member.specs.Opened.{present}
use Rattle.wb_judging.specs.Judged.{Judged}
use Rattle.wb_judging.specs.declared.call.Call.{Call}
use Rattle.wb_judging.specs.declared.call.Call.TheVariants.{Held, Passed}
use Rattle.wb_judging.specs.Laws.{drawops_in, drawops_of}
use Rattle.wb_judging.specs.News.{is_day}
use Rattle.wb_judging.specs.declared.record.RecordLine.{RecordLine}
use Rattle.wb_judged_sessions.specs.Calls.{after_call, drawn_by, JudgedCall, Starts, Takes, Tunes}
use Rattle.wb_judged_sessions.specs.Sessions.{At, drawn_at, Holds, judged_at}
use Rattle.wb_judged_sessions.specs.Terms.{AreTaken, KeepFiles, file_at}

-- ---- the time of day

-- that a member has at its present moment
abbrev pub day_of : Judged → ℕ
day_of h = time_of_day h.judge.clock (present h.kept.host)

-- A judge lets in nothing that is over a day ahead. So a record with these drawops was written at
-- this time of day at the earliest.
abbrev pub day_of_record : List DrawopValue → ℕ
day_of_record [] = 0
day_of_record (d ∷ ds) = max (d.time - AHEAD_KNOWN) (day_of_record ds)

-- what a line hands in from a record
abbrev pub recalled_by : Call → List DrawopValue
recalled_by (Held line) = drawops_in line
recalled_by line = []

-- The latest time of day before a call takes effect, in all runs of the record of a member: the runs
-- that wrote its file, and those that wrote what else it is handed of a record.
abbrev pub latest_before : JudgedCall → List RecordLine → ℕ → ℕ
latest_before (Starts start given) [] latest = day_of_record (drawops_of given)
latest_before (Starts start given) (line ∷ file) latest = latest
latest_before (Takes line) file latest = max latest (day_of_record (recalled_by line))
latest_before (Tunes constants) file latest = latest

-- and after it
abbrev pub latest_after : JudgedCall → List RecordLine → Judged → ℕ → ℕ
latest_after call file h latest = max (latest_before call file latest) (day_of (after_call call h))

-- that of the member at a place
abbrev pub latest_at : (ℕ → ℕ) → List (At JudgedCall) → ℕ → ℕ
latest_at numbers [] i = 0
latest_at numbers (e ∷ older) i =
    if nat_eq e.place i then latest_after e.event (file_at numbers older i) (judged_at numbers older i) (latest_at numbers older i)
    else latest_at numbers older i

-- ---- how far it goes back

-- its driver tells the time of day, or hands in a record
abbrev pub is_day_told : Call → Bool
is_day_told (Passed now news) = is_day news
is_day_told (Held line) = true
is_day_told line = false

abbrev pub tells_day : JudgedCall → Bool
tells_day (Starts start given) = true
tells_day (Takes line) = is_day_told line
tells_day (Tunes constants) = false

-- Whenever a driver does, the time of day is then less than a day, less 65,535 microseconds, before
-- the latest one. Drawings of a page that come faster than the clock goes are a microsecond apart,
-- and a board has no more cells.
abbrev pub NeverADayBack : (ℕ → ℕ) → List (At JudgedCall) → Type 0
NeverADayBack numbers [] = Unit {0}
NeverADayBack numbers (e ∷ older) =
    (tells_day e.event ≡ true
    → latest_before e.event (file_at numbers older e.place) (latest_at numbers older e.place) + MAX_CELLS
    < day_of (after_call e.event (judged_at numbers older e.place)) + AHEAD_KNOWN)
    × NeverADayBack numbers older

-- No line is refused, each program starts with its file, and the time of day goes back by less.
pub record KeepsDays (numbers : ℕ → ℕ) (calls : List (At JudgedCall)) : Type 0 where
  pub taken : AreTaken numbers calls
  pub files : KeepFiles numbers calls
  pub back : NeverADayBack numbers calls

-- ---- laws

-- What a member holds is ahead of the latest time of day that it had by a day at most, and a
-- microsecond for each drawop that it holds.
abbrev pub HeldIsNear : Type 0
HeldIsNear = (numbers : ℕ → ℕ) (calls : List (At JudgedCall)) (i : ℕ) (d : DrawopValue)
    → KeepFiles numbers calls → Holds numbers calls i d
    → d.time ≤ latest_at numbers calls i + AHEAD_KNOWN + length (judged_at numbers calls i).kept.host.is.held

-- What a user draws, by the last call of a session, has a greater time than each drawop that its
-- page held there. Times of day are below 2^63, as `time_of_day` of a judge promises it.
abbrev pub OursLieAbove : Type 0
OursLieAbove = (numbers : ℕ → ℕ) (older : List (At JudgedCall)) (e : At JudgedCall) (ours d : DrawopValue)
    → KeepsDays numbers (e ∷ older) → day_of (after_call e.event (judged_at numbers older e.place)) < 2 ^ 63
    → Contains (drawn_by e.event (judged_at numbers older e.place)) ours
    → Holds numbers older e.place d → d.name.page ≡ ours.name.page
    → d.time < ours.time

-- So it has a greater time than each that this member drew there before, by all runs of its program.
abbrev pub OursAreInOrder : Type 0
OursAreInOrder = (numbers : ℕ → ℕ) (older : List (At JudgedCall)) (e : At JudgedCall) (ours d : DrawopValue)
    → KeepsDays numbers (e ∷ older) → day_of (after_call e.event (judged_at numbers older e.place)) < 2 ^ 63
    → Contains (drawn_by e.event (judged_at numbers older e.place)) ours
    → Contains (drawn_at numbers older e.place) d → d.name.page ≡ ours.name.page
    → d.time < ours.time
