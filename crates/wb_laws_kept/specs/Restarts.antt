-- What a record has when a program starts, and what a member knows of its own sequence numbers.
use Rattle.std.specs.Prelude.{◌≡◌, ℕ, ◌≤◌, List, [], ◌∷◌, Contains, length}
use Rattle.wb_names.specs.Arrivals.{Clash}
use Rattle.wb_names.specs.History.{name_of}
use Rattle.wb_names.specs.Values.{DrawopValue, MarkValue}
use Rattle.wb_names.specs.declared.name.PageId.{PageId}
use Rattle.wb_names.specs.declared.parts.Op.{Op}
use Rattle.wb_codec.specs.declared.datagram.Datagram.{Datagram}
use Rattle.wb_codec.specs.declared.datagram.Datagram.TheVariants.{Draw}
use Rattle.wb_gaps.specs.Answers.{report_of}
use Rattle.wb_keeper.specs.Hearing.{marks_in}
use Rattle.wb_member.specs.Opened.{becomes, gaps_at, last_number}
use Rattle.wb_keeping.specs.Laws.{Added}
use Rattle.wb_laws_kept.specs.Openings.{Opening}
use Rattle.wb_laws_machines.specs.Agreement.{Agree}
use Rattle.wb_laws_sessions.specs.Drawn.{AreHonest, WasDrawn, WasHeld, drawn_at}
use Rattle.wb_laws_sessions.specs.Sessions.{sent}
use Rattle.wb_laws_machines.specs.Honest.{AreApart}
use Rattle.wb_laws_kept.specs.Sessions.{AreTaken, At, DrawopsWereHeld, kept_at, steps_of}
use Rattle.wb_laws_kept.specs.Calls.{drawops_in, Begins, Call, Handed}
use Rattle.wb_laws_machines.specs.Machines.{◌⊑◌}

-- The record has all that the member at the place drew, and its drawops fit on the board. What
-- others drew may be missing. live/board.py holds to it (`draw`, `start`; tests/live/test_keeping.py:
-- test_draw, test_unwritten, check_old), and web/member/board.js (tests/browser/keeping.test.mjs: testDraw,
-- testNoRoom, testEnds).
pub record IsWholeRecord (numbers : ℕ → ℕ) (older : List (At Call)) (i : ℕ) (o : Opening)
    (given : List Datagram) : Type 0 where
  pub own : (d : DrawopValue) → Contains (drawn_at numbers (steps_of numbers older) i) d
      → Contains given (Draw d)
  pub few : length (drawops_in given) ≤ o.cells

-- Each program starts with such a record.
abbrev pub RecordsAreWhole : (ℕ → ℕ) → List (At Call) → Type 0
RecordsAreWhole numbers [] = Unit {0}
RecordsAreWhole numbers (e ∷ older) =
    ((o : Opening) (given : List Datagram) → e.event ≡ Begins o given
    → IsWholeRecord numbers older e.place o given)
    × RecordsAreWhole numbers older

-- The last number of its own that the member at a place knows on a page, by what it holds or heard,
-- is as great as each that it drew there, by all runs of its program.
abbrev pub KnowsItsOwn : (ℕ → ℕ) → List (At Call) → ℕ → PageId → Type 0
KnowsItsOwn numbers older i page =
    (d : DrawopValue) → Contains (drawn_at numbers (steps_of numbers older) i) d
    → d.name.page ≡ page → d.name.seq ≤ last_number page (kept_at numbers older i).host

-- So it is whenever a member draws. A member whose record may lack its last lines listens before it
-- draws: LISTENING of live/board.py (tests/live/test_keeping.py: check_listening, check_mark) and of
-- web/member/board.js (tests/browser/keeping.test.mjs: testMarks).
abbrev pub KnowTheirOwn : (ℕ → ℕ) → List (At Call) → Type 0
KnowTheirOwn numbers [] = Unit {0}
KnowTheirOwn numbers (e ∷ older) =
    ((now : ℕ) (page : PageId) (time : ℕ) (op : Op) → e.event ≡ Handed (Added now page time op)
    → KnowsItsOwn numbers older e.place page)
    × KnowTheirOwn numbers older

-- ---- laws

-- Members whose programs start with whole records know their own numbers, so they use none twice.
abbrev pub WholeRecordsTell : Type 0
WholeRecordsTell = (numbers : ℕ → ℕ) (calls : List (At Call))
    → AreApart numbers → AreTaken numbers calls → DrawopsWereHeld numbers calls
    → RecordsAreWhole numbers calls → KnowTheirOwn numbers calls

-- What members do that know their own numbers is what a session asks for.
abbrev pub KeptAreHonest : Type 0
KeptAreHonest = (numbers : ℕ → ℕ) (calls : List (At Call))
    → AreTaken numbers calls → DrawopsWereHeld numbers calls → KnowTheirOwn numbers calls
    → AreHonest numbers (steps_of numbers calls)

-- Two members that have one report of a page, and no gaps there, agree: each at a moment of its
-- own, in either order, and whoever started anew between.
abbrev pub ReportsTellAgreementAt : (ℕ → ℕ) → List (At Call) → Type 0
ReportsTellAgreementAt numbers calls =
    (older older' : List (At Call)) (i j : ℕ) (page : PageId) → older ⊑ calls → older' ⊑ calls
    → let one = (kept_at numbers older i).host in
    let other = (kept_at numbers older' j).host in
    report_of one.is.held page ≡ report_of other.is.held page
    → gaps_at page one ≡ [] → gaps_at page other ≡ [] → Agree one other page

-- So it is if members know their own numbers,
abbrev pub KeptReportsTellAgreement : Type 0
KeptReportsTellAgreement = (numbers : ℕ → ℕ) (calls : List (At Call))
    → AreApart numbers → AreTaken numbers calls → DrawopsWereHeld numbers calls
    → KnowTheirOwn numbers calls → ReportsTellAgreementAt numbers calls

-- and so if each record has what its member drew.
abbrev pub RecordedReportsTellAgreement : Type 0
RecordedReportsTellAgreement = (numbers : ℕ → ℕ) (calls : List (At Call))
    → AreApart numbers → AreTaken numbers calls → DrawopsWereHeld numbers calls
    → RecordsAreWhole numbers calls → ReportsTellAgreementAt numbers calls

-- A drawop that some member held clashes with nothing that another holds, at whatever moments.
abbrev pub KeptNeverClash : Type 0
KeptNeverClash = (numbers : ℕ → ℕ) (calls older : List (At Call)) (i : ℕ) (d : DrawopValue) (place : ℕ)
    → AreApart numbers → AreTaken numbers calls → DrawopsWereHeld numbers calls → KnowTheirOwn numbers calls
    → older ⊑ calls → WasHeld numbers (steps_of numbers calls) d
    → becomes d (kept_at numbers older i).host ≡ Clash place → ⊥

-- Each mark that a member sends is of a drawop that was drawn.
abbrev pub MarksWereDrawn : Type 0
MarksWereDrawn = (numbers : ℕ → ℕ) (calls : List (At Call))
    → AreTaken numbers calls → DrawopsWereHeld numbers calls → KnowTheirOwn numbers calls
    → (v : Datagram) (page : PageId) (m : MarkValue)
    → Contains (sent numbers (steps_of numbers calls)) v → Contains (marks_in page v) m
    → (d : DrawopValue) × WasDrawn numbers (steps_of numbers calls) d
    × (d.name ≡ name_of page m.source m.high)
