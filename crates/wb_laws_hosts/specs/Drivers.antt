-- What the drivers of hosts keep to, line by line.
use Rattle.std.specs.Prelude.{◌≡◌, ◌⊎◌, ◌≤◌, ℕ, List, [], ◌∷◌, Contains, Option, Some, None, Ok}
use Rattle.wb_names.specs.Values.{DrawopValue}
use Rattle.wb_names.specs.declared.name.PageId.{PageId}
use Rattle.wb_codec.specs.declared.datagram.Datagram.TheVariants.{Draw}
use Rattle.wb_lines.specs.Input.{InputLine}
use Rattle.wb_lines.specs.Taking.{met}
use Rattle.wb_words.specs.declared.adding.Adding.{Adding}
use Rattle.wb_member.specs.Opened.{last_number}
use Rattle.wb_dialog.specs.declared.line.DriverLine.TheVariants.{Say, Add}
use Rattle.wb_dialog.specs.Dialog.{says_line}
use Rattle.wb_dialog.specs.Hosting.{Host, Driven, Kept}
use Rattle.wb_laws_sessions.specs.Drawn.{AreHonest, WasHeld, drawn_at}
use Rattle.wb_laws_machines.specs.Honest.{IsAbove, AreApart}
use Rattle.wb_laws_hosts.specs.Laws.{HandsIn, ReportsTellShowsAt}
use Rattle.wb_laws_hosts.specs.Texts.{EventAt, HaveNumbers, Takes, hosting_at, steps_of_texts}

-- A self-managing host knows its own numbers of a page: the last that it holds or heard of is as
-- great as each that its member drew there, by all processes.
abbrev pub HostKnowsItsOwn : List DrawopValue → Option Host → PageId → Type 0
HostKnowsItsOwn drawn None page = Unit {0}
HostKnowsItsOwn drawn (Some (Driven host board)) page = Unit {0}
HostKnowsItsOwn drawn (Some (Kept k)) page = (d : DrawopValue) → Contains drawn d
    → d.name.page ≡ page → d.name.seq ≤ last_number page k.host

-- What a driver says as a drawing is held already, or has a number above all that its member drew
-- there.
abbrev pub IsHeldOrNext : List DrawopValue → Option Host → DrawopValue → Type 0
IsHeldOrNext drawn None d = Unit {0}
IsHeldOrNext drawn (Some (Driven host board)) d = Contains host.is.held d ⊎ IsAbove drawn d.name
IsHeldOrNext drawn (Some (Kept k)) d = Unit {0}

-- A drawop that is handed in, from others or from a record, was on some member's board
-- (tests/live/test_keeping.py: check_old; tests/live/test_joins.py: check_join). A member whose host is self-managing
-- knows its own numbers when it draws, since it is handed its record first, and listens if that may
-- lack its last lines (tests/live/test_keeping.py: test_draw, check_listening; tests/browser/keeping.test.mjs:
-- testDraw, testMarks). A driver that numbers drawings itself uses none twice (tests/sessions).
pub record IsHonestLine (numbers : ℕ → ℕ) (older : List EventAt) (place : ℕ) (line : InputLine) : Type 0 where
  pub comes : (d : DrawopValue) → HandsIn line (Draw d) → WasHeld numbers (steps_of_texts older) d
  pub adds : (a : Adding) → says_line (met line) ≡ Ok (Add a)
      → HostKnowsItsOwn (drawn_at numbers (steps_of_texts older) place) (hosting_at older place).host a.page
  pub says : (d : DrawopValue) → says_line (met line) ≡ Ok (Say (Draw d))
      → IsHeldOrNext (drawn_at numbers (steps_of_texts older) place) (hosting_at older place).host d

abbrev pub AreHonestLines : (ℕ → ℕ) → List EventAt → Type 0
AreHonestLines numbers [] = Unit {0}
AreHonestLines numbers (e ∷ older) =
    ((line : InputLine) → e.event ≡ Takes line → IsHonestLine numbers older e.place line)
    × AreHonestLines numbers older

-- Then the session keeps to its terms.
abbrev pub LinesAreHonestSteps : Type 0
LinesAreHonestSteps = (numbers : ℕ → ℕ) (events : List EventAt) → HaveNumbers numbers events
    → AreHonestLines numbers events → AreHonest numbers (steps_of_texts events)

-- So two hosts that would print one report and no gaps print one canvas and one view.
abbrev pub HonestReportsTellShows : Type 0
HonestReportsTellShows = (numbers : ℕ → ℕ) (events : List EventAt) → AreApart numbers
    → HaveNumbers numbers events → AreHonestLines numbers events → ReportsTellShowsAt events
