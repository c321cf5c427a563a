-- A line that a host performs, what becomes of a member that performs lines, and what it sends by them.
use Rattle.std.specs.Prelude.{ℕ, List, [], ◌∷◌, ◌++◌, map}
use Rattle.wb_names.specs.Arrivals.{Outcome, New, Again, Clash, Left}
use Rattle.wb_names.specs.Values.{DrawopValue, NameValue}
use Rattle.wb_codec.specs.declared.datagram.Datagram.{Datagram}
use Rattle.wb_codec.specs.declared.datagram.Datagram.TheVariants.{Draw, Session, Request, AskPages, PageState}
use Rattle.wb_member.specs.Calls.{after_call, sent_by_call}
use Rattle.wb_member.specs.Opened.{Opened, accepted, becomes}
use Rattle.wb_member.specs.declared.calls.Call.{Call}
use Rattle.wb_member.specs.declared.calls.Call.TheVariants.{Tick, Hear, SetDelay, Tune, Ask, Stop}

-- a drawop comes to a member, it says a datagram of its own, or it is called
pub data Line : Type 0 where
  Arrives : (d : DrawopValue) → Line
  Says : (v : Datagram) → Line
  Calls : (call : Call) → Line

-- The calls that a policy makes. It asks for names one by one, and says what it reports: it does not look for all that a page
-- lacks, and does not call for a session message.
abbrev pub IsOfPolicy : Call → Type 0
IsOfPolicy (Tick now) = Unit {0}
IsOfPolicy (Hear v) = Unit {0}
IsOfPolicy (SetDelay source micros) = Unit {0}
IsOfPolicy (Tune constants) = Unit {0}
IsOfPolicy (Ask name) = Unit {0}
IsOfPolicy (Stop name) = Unit {0}
IsOfPolicy call = ⊥

-- time goes on to each of these moments
abbrev pub ticks_at : List ℕ → List Line
ticks_at moments = map (λ now. Calls (Tick now)) moments

-- it gives up asking for each of these names
abbrev pub stops_for : List NameValue → List Line
stops_for names = map (λ name. Calls (Stop name)) names

-- ---- one line

-- A drawop of its own is taken before it is sent, and any other datagram is only sent.
abbrev pub after_saying : Datagram → Opened → Opened
after_saying (Draw d) host = accepted d host
after_saying (Session sender sent page marks echoes) host = host
after_saying (Request asker name) host = host
after_saying (AskPages asker) host = host
after_saying (PageState sender page marks) host = host

-- It is not sent if its name means another drawop, or the board is full.
abbrev pub said_where : DrawopValue → Outcome → List Datagram
said_where d (New place) = Draw d ∷ []
said_where d (Again place) = Draw d ∷ []
said_where d (Clash place) = []
said_where d Left = []

abbrev pub said : Datagram → Opened → List Datagram
said (Draw d) host = said_where d (becomes d host)
said (Session sender sent page marks echoes) host = Session sender sent page marks echoes ∷ []
said (Request asker name) host = Request asker name ∷ []
said (AskPages asker) host = AskPages asker ∷ []
said (PageState sender page marks) host = PageState sender page marks ∷ []

-- what a host is once it performed a line: a call that it refuses changes nothing
abbrev pub after_line : Line → Opened → Opened
after_line (Arrives d) host = accepted d host
after_line (Says v) host = after_saying v host
after_line (Calls call) host = after_call call host

-- and what it sends by that
abbrev pub sent_by_line : Line → Opened → List Datagram
sent_by_line (Arrives d) host = []
sent_by_line (Says v) host = said v host
sent_by_line (Calls call) host = sent_by_call call host

-- ---- lines, one after the other

abbrev pub after_lines : List Line → Opened → Opened
after_lines [] host = host
after_lines (line ∷ lines) host = after_lines lines (after_line line host)

abbrev pub sent_by_lines : List Line → Opened → List Datagram
sent_by_lines [] host = []
sent_by_lines (line ∷ lines) host = sent_by_line line host ++ sent_by_lines lines (after_line line host)
