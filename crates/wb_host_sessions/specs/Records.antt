-- What the programs of hosts are given when they start. So they know their own numbers.
use Rattle.std.specs.Prelude.{◌≡◌, ◌⊎◌, ℕ, List, [], ◌∷◌, Contains, nat_eq, if◌then◌else◌}
use Rattle.wb_names.specs.Arrivals.{history_after}
use Rattle.wb_names.specs.Values.{DrawopValue}
use Rattle.wb_names.specs.declared.name.PageId.{PageId}
use Rattle.wb_judging.specs.Laws.{drawops_of}
use Rattle.wb_judging.specs.declared.record.RecordLine.{RecordLine}
use Rattle.wb_laws_machines.specs.Honest.{AreApart}
use Rattle.wb_laws_machines.specs.Machines.{AreTaken, At, WasHeld, drawn_at, state_at}
use Rattle.wb_judged_sessions.specs.Calls.{Start, Starts, Takes, Tunes}
use Rattle.wb_judged_sessions.specs.Terms.{file_after as judged_file_after}
use Rattle.wb_host_sessions.specs.Hosts.{AnyHost, Drives, HostEvent, Judges, Keeps, Sets, hosts, judged_state, member_of}
use Rattle.wb_host_sessions.specs.Sessions.{DrawsAnew, KeepTo, ReportsTell}
use Rattle.wb_laws_kept.specs.Calls.{Begins, drawops_in, Handed}

-- among these is each drawop of a page that a place drew, by all its programs
abbrev pub HasItsOwn : PageId → (ℕ → ℕ) → List (At HostEvent) → ℕ → List DrawopValue → Type 0
HasItsOwn page numbers older i ds =
    (d : DrawopValue) → Contains (drawn_at hosts numbers older i) d → d.name.page ≡ page → Contains ds d

-- The file of a judged host: what its program was given, and then what it told its driver to record, or
-- was handed as a line of the record. A program of another kind leaves none.
abbrev pub file_after : HostEvent → AnyHost → List RecordLine → List RecordLine
file_after (Drives deed) x file = []
file_after (Keeps call) x file = []
file_after (Judges call) x file = judged_file_after call (judged_state x) file
file_after (Sets rate listen seed) x file = file

abbrev pub file_at : (ℕ → ℕ) → List (At HostEvent) → ℕ → List RecordLine
file_at numbers [] i = []
file_at numbers (e ∷ older) i =
    if nat_eq e.place i then file_after e.event (state_at hosts numbers older i) (file_at numbers older i)
    else file_at numbers older i

-- The program of a judged host is given the drawops of its file, in their order, and has as many cells
-- as before.
abbrev pub IsItsFile : (ℕ → ℕ) → List (At HostEvent) → ℕ → Start → List RecordLine → AnyHost → Type 0
IsItsFile numbers older i start given x =
    (drawops_of given ≡ drawops_of (file_at numbers older i))
    × (start.opening.cells ≡ (judged_state x).kept.host.is.cells)

-- So a judged host starts; or, as any that counts by itself, with a record of which its board takes all
-- that its place drew: the first has drawn nothing, and what others drew may be missing. live/board.py
-- writes what is to be recorded before it sends what follows in the block, and gives a new host what was
-- written (tests/live/test_keeping.py: test_draw, test_unwritten, check_old); web/member/board.js does so
-- too (tests/browser/keeping.test.mjs: testDraw, testNoRoom, testEnds). A driven host that is set to be
-- self-managing holds all that its place drew. A driver draws as it had to.
abbrev pub StartsWhole : PageId → (ℕ → ℕ) → List (At HostEvent) → ℕ → HostEvent → AnyHost → Type 0
StartsWhole page numbers older i (Drives deed) x = DrawsAnew page numbers older i (Drives deed) x
StartsWhole page numbers older i (Keeps (Begins o given)) x =
    HasItsOwn page numbers older i (history_after o.cells [] (drawops_in given))
StartsWhole page numbers older i (Keeps (Handed line)) x = Unit {0}
StartsWhole page numbers older i (Judges (Starts start given)) x =
    IsItsFile numbers older i start given x
    ⊎ HasItsOwn page numbers older i (history_after start.opening.cells [] (drawops_of given))
StartsWhole page numbers older i (Judges (Takes line)) x = Unit {0}
StartsWhole page numbers older i (Judges (Tunes constants)) x = Unit {0}
StartsWhole page numbers older i (Sets rate listen seed) x = HasItsOwn page numbers older i (member_of x).is.held

-- Of one page: each drawop that a host takes in, some host held before, and programs start so.
pub record KeepsRecords (page : PageId) (numbers : ℕ → ℕ) (older : List (At HostEvent))
    (e : At HostEvent) : Type 0 where
  pub comes : (d : DrawopValue) → d.name.page ≡ page
      → Contains (hosts.gained e.event (state_at hosts numbers older e.place)) d
      → WasHeld hosts numbers older d
  pub starts : StartsWhole page numbers older e.place e.event (state_at hosts numbers older e.place)

abbrev pub KeepRecords : PageId → (ℕ → ℕ) → List (At HostEvent) → Type 0
KeepRecords page numbers [] = Unit {0}
KeepRecords page numbers (e ∷ older) = KeepsRecords page numbers older e × KeepRecords page numbers older

-- ---- laws

-- What a judged host holds is what a board of its cells holds that takes the drawops of its file, in
-- their order, whatever came, and whatever programs its place had.
abbrev pub BoardsAreFiles : Type 0
BoardsAreFiles = (numbers : ℕ → ℕ) (trace : List (At HostEvent)) (i : ℕ)
    → let is = (judged_state (state_at hosts numbers trace i)).kept.host.is in
    is.held ≡ history_after is.cells [] (drawops_of (file_at numbers trace i))

-- Hosts whose programs start so know their own numbers whenever they draw.
abbrev pub RecordsTell : Type 0
RecordsTell = (page : PageId) (numbers : ℕ → ℕ) (trace : List (At HostEvent))
    → KeepRecords page numbers trace → KeepTo page numbers trace

-- Two of them that have one report of a page and no gaps there agree.
abbrev pub RecordedHostsAgree : Type 0
RecordedHostsAgree = (numbers : ℕ → ℕ) (trace : List (At HostEvent)) (page : PageId)
    → AreApart numbers → AreTaken hosts numbers trace → KeepRecords page numbers trace
    → ReportsTell numbers trace page
