-- A clock that is set back while a program does not run, as an example: what its user draws after
-- it starts again, from its file.
use Rattle.std.specs.Prelude.{◌≡◌, ◌^◌, ◌<◌, ℕ, List, [], ◌∷◌}
use Rattle.wb_names.specs.History.{name_of}
use Rattle.wb_names.specs.Values.{DrawopValue}
use Rattle.wb_names.specs.declared.parts.Change.TheVariants.{Delete}
use Rattle.wb_names.specs.declared.parts.Op.{Op}
use Rattle.wb_names.specs.declared.parts.Op.TheVariants.{Aimed}
use Rattle.wb_judging.specs.declared.call.Call.TheVariants.{UserDrew}
use Rattle.wb_judging.specs.declared.record.RecordLine.{RecordLine}
use Rattle.wb_judging.specs.declared.record.RecordLine.TheVariants.{Said, Tick}
use Rattle.wb_judged_sessions.specs.Days.{KeepsDays, NeverADayBack, day_of}
use Rattle.wb_judged_sessions.specs.Examples.{at, deletes, numbers, page, start}
use Rattle.wb_judged_sessions.specs.Calls.{JudgedCall, Start, Starts, Takes}
use Rattle.wb_judged_sessions.specs.Sessions.{At, drawn_at, judged_at}
use Rattle.wb_judged_sessions.specs.Terms.{AreTaken, KeepFiles}

-- a start at which the time of day is this
abbrev pub start_on : ℕ → ℕ → ℕ → Start
start_on wall seed moment = record (start seed moment) { wall = wall }

-- it is the fourth day, eleven hours and twenty minutes, and two microseconds later its user draws
abbrev pub late : ℕ
late = 300000000000

abbrev pub first : DrawopValue
first = record { name = name_of page 10 1; time = 300000000002; op = deletes }

abbrev pub once : List (At JudgedCall)
once = at 3 0 (Takes (UserDrew 3 page deletes)) ∷ (at 1 0 (Starts (start_on late 1 1) []) ∷ [])

abbrev pub file : List RecordLine
file = Tick 3 ∷ Said first ∷ []

-- It starts again, at another time of day, and two microseconds later its user draws.
abbrev pub twice : ℕ → List (At JudgedCall)
twice wall = at 9 0 (Takes (UserDrew 9 page deletes)) ∷ (at 7 0 (Starts (start_on wall 2 7) file) ∷ once)

-- his second drawing, at some time
abbrev pub second : ℕ → DrawopValue
second time = record { name = name_of page 10 2; time = time; op = deletes }

-- It keeps to what is asked of starts, files and times of day, but for how far these go back.
pub record StartsAgain (wall time : ℕ) : Type 0 where
  pub taken : AreTaken numbers (twice wall)
  pub files : KeepFiles numbers (twice wall)
  pub day : day_of (judged_at numbers (twice wall) 0) < 2 ^ 63
  pub drew : drawn_at numbers (twice wall) 0 ≡ second time ∷ first ∷ []

-- sixteen hours and forty minutes back: a microsecond after the first, which is far ahead
pub record IsSetBack : Type 0 where
  pub again : StartsAgain 240000000000 300000000003
  pub keeps : KeepsDays numbers (twice 240000000000)

-- two days, seven hours and thirty-three minutes back: before the first
pub record IsSetBackTooFar : Type 0 where
  pub again : StartsAgain 100000000000 100000000002
  pub more : NeverADayBack numbers (twice 100000000000) → ⊥

-- A member of another number is given this record at its first start, when the time of day is as
-- early as that. No clock was set back. Two microseconds later its user draws.
abbrev pub deletes_first : Op
deletes_first = Aimed Delete (record { source = 10; seq = 1 })

abbrev pub elsewhere : List (At JudgedCall)
elsewhere = at 9 1 (Takes (UserDrew 9 page deletes_first)) ∷ (at 7 1 (Starts (start_on 100000000000 2 7) file) ∷ once)

-- Its drawing comes before the first, which it holds. So the runs that wrote its record count too.
pub record IsGivenAhead : Type 0 where
  pub taken : AreTaken numbers elsewhere
  pub files : KeepFiles numbers elsewhere
  pub held : (judged_at numbers elsewhere 1).kept.host.is.held ≡ first ∷ record { name = name_of page 11 1; time = 100000000002; op = deletes_first } ∷ []
  pub more : NeverADayBack numbers elsewhere → ⊥
