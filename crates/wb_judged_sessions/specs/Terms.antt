-- What is asked of a session of judged members, and of the records of their programs.
use Rattle.std.specs.Prelude.{◌≡◌, ◌⊎◌, ℕ, ◌≤◌, List, [], ◌∷◌, ◌++◌, Contains, nat_eq, if◌then◌else◌}
use Rattle.wb_names.specs.Arrivals.{history_after}
use Rattle.wb_names.specs.Values.{DrawopValue}
use Rattle.wb_names.specs.declared.name.PageId.{PageId}
use Rattle.wb_names.specs.declared.parts.Op.{Op}
use Rattle.wb_member.specs.Opened.{last_number}
use Rattle.wb_judging.specs.Judged.{Judged}
use Rattle.wb_judging.specs.declared.call.Call.TheVariants.{UserDrew}
use Rattle.wb_judging.specs.Laws.{drawops_of, record_of}
use Rattle.wb_judging.specs.declared.record.RecordLine.{RecordLine}
use Rattle.wb_laws_machines.specs.Honest.{AreApart}
use Rattle.wb_laws_machines.specs.Machines as of
use Rattle.wb_judged_sessions.specs.Calls.{brought_by, JudgedCall, Start, Starts, Takes, Tunes}
use Rattle.wb_judged_sessions.specs.Judged.{judged}
use Rattle.wb_judged_sessions.specs.Sessions.{At, drawn_at, judged_at, WasHeld}

-- each call is taken
abbrev pub AreTaken : (ℕ → ℕ) → List (At JudgedCall) → Type 0
AreTaken = of.AreTaken judged

-- ---- what comes was held

-- Some member held each of them before: members send, hand on and record only what they hold. What
-- the judge drops may be anything, and so may reports, requests and questions, from whatever origin.
-- Under a key nobody else can speak; without one it is asked of people that they forge no drawops.
abbrev pub DrawopsWereHeld : (ℕ → ℕ) → List (At JudgedCall) → Type 0
DrawopsWereHeld numbers [] = Unit {0}
DrawopsWereHeld numbers (e ∷ older) =
    ((d : DrawopValue) → Contains (brought_by e.event (judged_at numbers older e.place)) d → WasHeld numbers older d)
    × DrawopsWereHeld numbers older

-- ---- members know their own numbers

-- The last number of its own that the member at a place knows on a page, by what it holds or heard,
-- is as great as each that it drew there, by all runs of its program.
abbrev pub KnowsItsOwn : (ℕ → ℕ) → List (At JudgedCall) → ℕ → PageId → Type 0
KnowsItsOwn numbers older i page =
    (d : DrawopValue) → Contains (drawn_at numbers older i) d → d.name.page ≡ page
    → d.name.seq ≤ last_number page (judged_at numbers older i).kept.host

-- So it is whenever its user draws.
abbrev pub KnowTheirOwn : (ℕ → ℕ) → List (At JudgedCall) → Type 0
KnowTheirOwn numbers [] = Unit {0}
KnowTheirOwn numbers (e ∷ older) =
    ((now : ℕ) (page : PageId) (op : Op) → e.event ≡ Takes (UserDrew now page op)
    → KnowsItsOwn numbers older e.place page)
    × KnowTheirOwn numbers older

-- No two places have one number, no line is refused, each drawop that is let in was held, and
-- members know their own numbers.
pub record IsSession (numbers : ℕ → ℕ) (calls : List (At JudgedCall)) : Type 0 where
  pub apart : AreApart numbers
  pub taken : AreTaken numbers calls
  pub held : DrawopsWereHeld numbers calls
  pub know : KnowTheirOwn numbers calls

-- ---- records

-- A board of so many cells that takes the drawops of the record has all that the member at the
-- place drew. What others drew may be missing.
abbrev pub IsWholeRecord : (ℕ → ℕ) → List (At JudgedCall) → ℕ → Start → List RecordLine → Type 0
IsWholeRecord numbers older i start given =
    (d : DrawopValue) → Contains (drawn_at numbers older i) d
    → Contains (history_after start.opening.cells [] (drawops_of given)) d

-- Each program starts with such a record.
abbrev pub RecordsAreWhole : (ℕ → ℕ) → List (At JudgedCall) → Type 0
RecordsAreWhole numbers [] = Unit {0}
RecordsAreWhole numbers (e ∷ older) =
    ((start : Start) (given : List RecordLine) → e.event ≡ Starts start given
    → IsWholeRecord numbers older e.place start given)
    × RecordsAreWhole numbers older

-- The file of the member at a place: what its program was given when it started, and then what the
-- member told its driver to record, or was handed as a line of the record.
abbrev pub file_after : JudgedCall → Judged → List RecordLine → List RecordLine
file_after (Starts start given) h file = given
file_after (Takes line) h file = file ++ record_of line h
file_after (Tunes constants) h file = file

abbrev pub file_at : (ℕ → ℕ) → List (At JudgedCall) → ℕ → List RecordLine
file_at numbers [] i = []
file_at numbers (e ∷ older) i =
    if nat_eq e.place i then file_after e.event (judged_at numbers older i) (file_at numbers older i)
    else file_at numbers older i

-- A program is given the drawops of its file, in their order, and has as many cells as before. If
-- nothing is in its file, it may be given anything, as the record of another number.
abbrev pub IsItsFile : (ℕ → ℕ) → List (At JudgedCall) → ℕ → Start → List RecordLine → Type 0
IsItsFile numbers older i start given =
    (file_at numbers older i ≡ [])
    ⊎ ((drawops_of given ≡ drawops_of (file_at numbers older i))
    × (start.opening.cells ≡ (judged_at numbers older i).kept.host.is.cells))

-- Each program starts so. live/board.py writes what is to be recorded before it sends what follows
-- in the block, and gives a new host what was written (tests/live/test_keeping.py).
abbrev pub KeepFiles : (ℕ → ℕ) → List (At JudgedCall) → Type 0
KeepFiles numbers [] = Unit {0}
KeepFiles numbers (e ∷ older) =
    ((start : Start) (given : List RecordLine) → e.event ≡ Starts start given
    → IsItsFile numbers older e.place start given)
    × KeepFiles numbers older
