-- A body of which every check has passed, and whose lists are not yet taken into memory.
use Rattle.std.specs.Prelude.{◌≡◌, ℕ, true, List, [], Result, Ok, Err}
use Rattle.std.specs.Result.{is_ok}
use Rattle.wb_names.specs.Values.{MarkValue}
use Rattle.wb_names.specs.declared.echo.Echo.{Echo}
use Rattle.wb_codec.specs.declared.datagram.Datagram.{Datagram}
use Rattle.wb_codec.specs.declared.datagram.Datagram.TheVariants as datagrams
use Rattle.wb_codec.specs.declared.fault.ReadFault.{ReadFault}
use Rattle.wb_codec.specs.declared.body.Body.{Body}
use Rattle.wb_codec.specs.declared.body.Body.TheVariants.{Draw, Session, Request, AskPages, PageState}
use Rattle.wb_codec.specs.Reading.{marks_at, echoes_at}

abbrev pub listed : {X : Type 0} → Result (List X × List ℕ) ReadFault → List X
listed (Ok entries) = entries.0
listed (Err fault) = []

-- the first n entries that the bytes spell
abbrev pub marks_in : ℕ → List ℕ → List MarkValue
marks_in n bytes = listed (marks_at n bytes)

abbrev pub echoes_in : ℕ → List ℕ → List Echo
echoes_in n bytes = listed (echoes_at n bytes)

-- the datagram of the body
abbrev pub datagram_of : Body → Datagram
datagram_of (Draw d) = datagrams.Draw d
datagram_of (Session sender sent page marks echoes) = datagrams.Session sender sent page (marks_in marks.count marks.bytes.now) (echoes_in echoes.count echoes.bytes.now)
datagram_of (Request asker name) = datagrams.Request asker name
datagram_of (AskPages asker) = datagrams.AskPages asker
datagram_of (PageState sender page marks) = datagrams.PageState sender page (marks_in marks.count marks.bytes.now)

-- the entries of its lists have passed every check
abbrev pub IsChecked : Body → Type 0
IsChecked (Session sender sent page marks echoes) = (is_ok (marks_at marks.count marks.bytes.now) ≡ true) × (is_ok (echoes_at echoes.count echoes.bytes.now) ≡ true)
IsChecked (PageState sender page marks) = is_ok (marks_at marks.count marks.bytes.now) ≡ true
IsChecked body = Unit {0}
