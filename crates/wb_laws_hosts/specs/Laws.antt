-- Laws of sessions of hosts, from the bytes of their lines to the characters that they print.
use Rattle.std.specs.Prelude.{◌≡◌, ◌≢◌, ◌⊎◌, ℕ, List, [], ◌∷◌, ◌++◌, Contains, All, Bool, Option, Some, None, Ok, nat_eq, if◌then◌else◌}
use Rattle.std.specs.List.{concat}
use Rattle.wb_names.specs.Arrivals.{Clash}
use Rattle.wb_names.specs.Values.{DrawopValue}
use Rattle.wb_names.specs.declared.name.PageId.{PageId}
use Rattle.wb_codec.specs.Ranges.{IsDrawop}
use Rattle.wb_codec.specs.Spelling.{spelling}
use Rattle.wb_codec.specs.declared.datagram.Datagram.{Datagram}
use Rattle.wb_codec.specs.declared.datagram.Datagram.TheVariants.{Draw}
use Rattle.wb_lines.specs.Input.{InputLine, input_lines}
use Rattle.wb_lines.specs.Taking.{met}
use Rattle.wb_lines.specs.Words.{words, unhex}
use Rattle.wb_words.specs.Reading.{reading}
use Rattle.wb_words.specs.declared.adding.Adding.{Adding}
use Rattle.wb_commands.specs.Answers.{gaps_text}
use Rattle.wb_commands.specs.Parsing.{handed_in}
use Rattle.wb_member.specs.Lines.{Says}
use Rattle.wb_member.specs.Opened.{Opened}
use Rattle.wb_member.specs.declared.questions.Query.TheVariants as queries
use Rattle.wb_dialog.specs.declared.line.DriverLine.TheVariants.{Script, Say, Came, Add}
use Rattle.wb_dialog.specs.Dialog.{answered_lines, batch_of, says_line}
use Rattle.wb_dialog.specs.Doing.{text_in}
use Rattle.wb_dialog.specs.Hosting.{Host, Driven, Kept, Hosting, block_of, reply_of, transcript}
use Rattle.wb_dialog.specs.Lines.{asks, line_of}
use Rattle.wb_laws_sessions.specs.Drawn.{AreHonest, WasHeld}
use Rattle.wb_laws_sessions.specs.Members.{Does}
use Rattle.wb_laws_machines.specs.Honest.{AreApart}
use Rattle.wb_laws_hosts.specs.Telling.{told_at}
use Rattle.wb_laws_hosts.specs.Texts.{CameOut, TextEvent, EventAt, HaveNumbers, Starts, Takes, deeds_at, hosting_at, sent_for_line, steps_of_texts}
use Rattle.wb_laws_machines.specs.Machines.{◌⊑◌}

-- this member is open, whether its driver drives it or it is self-managing
abbrev pub IsOpenHost : Option Host → Opened → Type 0
IsOpenHost None member = ⊥
IsOpenHost (Some (Driven host board)) member = host ≡ member
IsOpenHost (Some (Kept k)) member = k.host ≡ member

-- ---- ranges

-- Each drawop that a host holds has all its fields in range, whatever the lines.
abbrev pub BoardsAreInRange : Type 0
BoardsAreInRange = (events : List EventAt) (i : ℕ) (host : Opened)
    → IsOpenHost (hosting_at events i).host host → All IsDrawop host.is.held

-- ---- inputs

-- the lines that the process at a place was handed since it started, and the blocks that it wrote
abbrev pub lines_after : TextEvent → List InputLine → List InputLine
lines_after (Starts tuning) lines = []
lines_after (Takes line) lines = lines ++ line ∷ []

abbrev pub lines_at : List EventAt → ℕ → List InputLine
lines_at [] i = []
lines_at (e ∷ older) i =
    if nat_eq e.place i then lines_after e.event (lines_at older i) else lines_at older i

abbrev pub blocks_after : TextEvent → Hosting → List (List ℕ) → List (List ℕ)
blocks_after (Starts tuning) s blocks = []
blocks_after (Takes line) s blocks = blocks ++ block_of (reply_of s (met line)) ∷ []

abbrev pub blocks_at : List EventAt → ℕ → List (List ℕ)
blocks_at [] i = []
blocks_at (e ∷ older) i =
    if nat_eq e.place i then blocks_after e.event (hosting_at older i) (blocks_at older i)
    else blocks_at older i

-- If the lines of a process are those of an input, which may be cut off, its blocks are the
-- transcript of that, whether the host is self-managing or not.
abbrev pub BlocksAreTranscripts : Type 0
BlocksAreTranscripts = (events : List EventAt) (i : ℕ) (cut : Bool) (input : List ℕ)
    → lines_at events i ≡ answered_lines cut (input_lines input)
    → concat (blocks_at events i) ≡ transcript (hosting_at events i).tuning cut input

-- ---- bytes

-- A line says a datagram in words, or its second and last word is the hexadecimal digits of its
-- bytes.
abbrev pub SaysDatagram : List ℕ → Datagram → Type 0
SaysDatagram line v =
    (reading line ≡ Ok v)
    ⊎ ((word digits : List ℕ) × (words line ≡ word ∷ digits ∷ []) × (unhex digits ≡ Some (spelling v)))

-- So does each line that hands one in to a host that its driver drives.
abbrev pub LinesCarryBytes : Type 0
LinesCarryBytes = (line : List ℕ) (v : Datagram)
    → line_of line ≡ Ok (Script (handed_in v)) → SaysDatagram line v

-- a line hands in a datagram, to a host of either kind
abbrev pub HandsIn : InputLine → Datagram → Type 0
HandsIn line v =
    (says_line (met line) ≡ Ok (Script (handed_in v)))
    ⊎ ((now : ℕ) × (says_line (met line) ≡ Ok (Came now v)))

-- The bytes of a drawop tell it: a line that hands in one of which a `send` line was printed hands
-- in one that some member held, as a session asks for.
abbrev pub BytesTellDrawops : Type 0
BytesTellDrawops = (numbers : ℕ → ℕ) (events : List EventAt) (line : InputLine) (d : DrawopValue)
    → HaveNumbers numbers events → HandsIn line (Draw d) → CameOut events (Draw d)
    → WasHeld numbers (steps_of_texts events) d

-- ---- no clash

-- a line hands in a drawop, or has its host say one of its own
abbrev pub BringsDrawop : InputLine → Type 0
BringsDrawop line =
    ((d : DrawopValue) × HandsIn line (Draw d))
    ⊎ ((d : DrawopValue) × (says_line (met line) ≡ Ok (Say (Draw d))))
    ⊎ ((a : Adding) × (says_line (met line) ≡ Ok (Add a)))

-- What such a line tells beside the datagrams that it sends is no batch that counts a clash.
abbrev pub BatchesCountNoClash : Type 0
BatchesCountNoClash =
    (numbers : ℕ → ℕ) (older : List EventAt) (e : EventAt) (line : InputLine) (place : ℕ)
    → AreApart numbers → HaveNumbers numbers (e ∷ older)
    → AreHonest numbers (steps_of_texts (e ∷ older)) → e.event ≡ Takes line → BringsDrawop line
    → told_at (hosting_at older e.place) line ≢ batch_of (Clash place)

-- ---- what is sent, at once or as a repair

-- at some point a line is handed in that sends this
pub record WasSentByLine (events : List EventAt) (v : Datagram) : Type 0 where
  pub e : EventAt
  pub older : List EventAt
  pub behind : (e ∷ older) ⊑ events
  pub line : InputLine
  pub takes : e.event ≡ Takes line
  pub out : Contains (sent_for_line (hosting_at older e.place) line) v

-- by a line that had the host of its source say it
pub record WasSaid (numbers : ℕ → ℕ) (events : List EventAt) (d : DrawopValue) : Type 0 where
  pub sent : WasSentByLine events (Draw d)
  pub source : d.name.source ≡ numbers sent.e.place
  pub said : Contains (deeds_at (hosting_at sent.older sent.e.place) sent.line) (Does (Says (Draw d)))

-- Each drawop that anyone sent is, in every byte, what its source said and sent.
abbrev pub SentWasSaid : Type 0
SentWasSaid = (numbers : ℕ → ℕ) (events : List EventAt)
    → HaveNumbers numbers events → AreHonest numbers (steps_of_texts events)
    → (d : DrawopValue) → WasSentByLine events (Draw d) → WasSaid numbers events d

-- So is each that a host holds.
abbrev pub HeldWasSaid : Type 0
HeldWasSaid = (numbers : ℕ → ℕ) (events : List EventAt)
    → HaveNumbers numbers events → AreHonest numbers (steps_of_texts events)
    → (i : ℕ) (host : Opened) → IsOpenHost (hosting_at events i).host host
    → (d : DrawopValue) → Contains host.is.held d → WasSaid numbers events d

-- Of each name one drawop is ever sent.
abbrev pub SentOnce : Type 0
SentOnce = (numbers : ℕ → ℕ) (events : List EventAt)
    → AreApart numbers → HaveNumbers numbers events → AreHonest numbers (steps_of_texts events)
    → (d e : DrawopValue) → WasSentByLine events (Draw d) → WasSentByLine events (Draw e)
    → d.name ≡ e.name → d ≡ e

-- ---- agreement

-- what a host would print now for a line, before the line that closes the block
abbrev pub prints_at : List EventAt → ℕ → InputLine → List ℕ
prints_at events i line = text_in (reply_of (hosting_at events i) (met line))

-- Lines that ask for the report, the gaps, the canvas and the view of a page. The spellings of their
-- words may differ.
pub record AskOf (page : PageId) (width height : ℕ) (report gaps show view : InputLine) : Type 0 where
  pub asks_report : says_line (met report) ≡ Ok (asks (queries.Report page))
  pub asks_gaps : says_line (met gaps) ≡ Ok (asks (queries.Gaps page))
  pub asks_show : says_line (met show) ≡ Ok (asks (queries.Canvas page width height))
  pub asks_view : says_line (met view) ≡ Ok (asks (queries.View page))

-- Two hosts that would print one answer to `report C N`, and `gaps 0` for `gaps C N`, print one
-- answer to `show C N W H` and to `view C N`: each at a point of its own, in either order, whether
-- they are self-managing or not, and whichever process started anew between.
abbrev pub ReportsTellShowsAt : List EventAt → Type 0
ReportsTellShowsAt events =
    (older older' : List EventAt) (i j : ℕ)
    (page : PageId) (width height : ℕ) (report gaps show view : InputLine)
    → older ⊑ events → older' ⊑ events
    → AskOf page width height report gaps show view
    → prints_at older i report ≡ prints_at older' j report
    → prints_at older i gaps ≡ gaps_text [] → prints_at older' j gaps ≡ gaps_text []
    → (prints_at older i show ≡ prints_at older' j show) × (prints_at older i view ≡ prints_at older' j view)

abbrev pub ReportsTellShows : Type 0
ReportsTellShows = (numbers : ℕ → ℕ) (events : List EventAt) → AreApart numbers
    → HaveNumbers numbers events → AreHonest numbers (steps_of_texts events)
    → ReportsTellShowsAt events
