-- Names, drawops and datagrams with each number in the range of the integer that holds it. Every one of the code is so.
use Rattle.std.specs.Prelude.{ℕ, ◌<◌, ◌≤◌, ◌^◌, List, All}
use Rattle.wb_names.specs.Values.{NameValue, DrawopValue, MarkValue}
use Rattle.wb_names.specs.Drawing.{IsLawful}
use Rattle.wb_names.specs.Ascending.{AreEntries}
use Rattle.wb_names.specs.declared.name.PageId.{PageId}
use Rattle.wb_names.specs.declared.echo.Echo.{Echo}
use Rattle.wb_names.specs.declared.parts.Op.{Op}
use Rattle.wb_names.specs.declared.parts.Op.TheVariants.{Drawn, Text, Aimed}
use Rattle.wb_codec.specs.declared.datagram.Datagram.{Datagram}
use Rattle.wb_codec.specs.declared.datagram.Datagram.TheVariants.{Draw, Session, Request, AskPages, PageState}

pub record IsPage (p : PageId) : Type 0 where
  pub creator : p.creator < 2 ^ 32
  pub number : p.number < 2 ^ 32

pub record IsName (n : NameValue) : Type 0 where
  pub source : n.source < 2 ^ 32
  pub page : IsPage n.page
  pub positive : 1 ≤ n.seq
  pub seq : n.seq < 2 ^ 32

-- the target's source and number fit four bytes; what a lawful operation draws is in narrower ranges
abbrev pub HasTarget : Op → Type 0
HasTarget (Drawn figure s) = Unit {0}
HasTarget (Text x y text) = Unit {0}
HasTarget (Aimed change t) = (t.source < 2 ^ 32) × (t.seq < 2 ^ 32)

pub record IsDrawop (d : DrawopValue) : Type 0 where
  pub name : IsName d.name
  pub time : d.time < 2 ^ 64
  pub lawful : IsLawful d.name d.op
  pub target : HasTarget d.op

pub record IsMark (m : MarkValue) : Type 0 where
  pub source : m.source < 2 ^ 32
  pub high : m.high < 2 ^ 32

pub record IsEcho (e : Echo) : Type 0 where
  pub source : e.source < 2 ^ 32
  pub sent : e.sent < 2 ^ 64
  pub held : e.held < 2 ^ 64

-- entries in order, each in range
pub record IsEntryList {E : Type 0} (source : E → ℕ) (IsPositive IsEntry : E → Type 0) (entries : List E) : Type 0 where
  pub lawful : AreEntries source IsPositive entries
  pub ranges : All IsEntry entries

abbrev pub IsMarkList : List MarkValue → Type 0
IsMarkList = IsEntryList (λ (m : MarkValue). m.source) (λ (m : MarkValue). 1 ≤ m.high) IsMark

abbrev pub IsEchoList : List Echo → Type 0
IsEchoList = IsEntryList (λ (e : Echo). e.source) (λ (e : Echo). Unit {0}) IsEcho

pub record IsSession (sender sent : ℕ) (page : PageId) (marks : List MarkValue) (echoes : List Echo) : Type 0 where
  pub sender-fits : sender < 2 ^ 32
  pub sent-fits : sent < 2 ^ 64
  pub page-fits : IsPage page
  pub marks-fit : IsMarkList marks
  pub echoes-fit : IsEchoList echoes

pub record IsPageState (sender : ℕ) (page : PageId) (marks : List MarkValue) : Type 0 where
  pub sender-fits : sender < 2 ^ 32
  pub page-fits : IsPage page
  pub marks-fit : IsMarkList marks

-- a datagram with all its fields in range
abbrev pub IsDatagram : Datagram → Type 0
IsDatagram (Draw d) = IsDrawop d
IsDatagram (Session sender sent page marks echoes) = IsSession sender sent page marks echoes
IsDatagram (Request asker name) = (asker < 2 ^ 32) × IsName name
IsDatagram (AskPages asker) = asker < 2 ^ 32
IsDatagram (PageState sender page marks) = IsPageState sender page marks
