-- A member of a session: what it is, what it does, and what it sends by that.
use Rattle.std.specs.Prelude.{ℕ, ◌+◌, List, [], ◌∷◌, filter, map}
use Rattle.wb_names.specs.Values.{NameValue, DrawopValue}
use Rattle.wb_names.specs.Arrivals.{history_after}
use Rattle.wb_names.specs.History.{highest, name_of}
use Rattle.wb_names.specs.declared.parts.Op.{Op}
use Rattle.wb_names.specs.declared.name.PageId.{PageId}
use Rattle.wb_codec.specs.declared.datagram.Datagram.{Datagram}
use Rattle.wb_codec.specs.declared.datagram.Datagram.TheVariants.{Draw, AskPages}
use Rattle.wb_recovery.specs.Events.{timers_of}
use Rattle.wb_recovery.specs.declared.tuning.Tuning.{Tuning}
use Rattle.wb_keeper.specs.GivingUp.{is_asked}
use Rattle.wb_keeper.specs.Keeper.{KeeperCall, SetDelay, SetConstants, Hear, Arrive, Miss, GoOn, Report, GiveUp, events_of, holds}
use Rattle.wb_keeper.specs.Hearing.{asks_for_held, answers_to}
use Rattle.wb_keeper.specs.Sessions.{message_of}
use Rattle.wb_keeper.specs.Ticks.{sent_by_tick, stopped_after}

-- The number of a member, the cells of its board and the constants of its timers at first; what it drew, the newest first; what its
-- board holds, the newest last; and the calls that its keeper accepted, the newest first. A board is one history, however
-- many desks take drawops into it.
pub record Member : Type 0 where
  pub number : ℕ
  pub cells : ℕ
  pub constants : Tuning
  pub drawn : List DrawopValue
  pub held : List DrawopValue
  pub calls : List KeeperCall

-- What a member does, with the moment of its clock and the random words that it takes for this. A batch of drawops arrives, and
-- those of `order` are taken, in their order: all of the batch in some order, or none of it. Any other datagram is heard. A
-- call that is refused, or in which an allocation fails, is none of these.
pub data Act : Type 0 where
  Draws : (page : PageId) (time : ℕ) (op : Op) → Act
  Takes : (now : ℕ) (batch order : List DrawopValue) → Act
  Hears : (now : ℕ) (datagram : Datagram) (word : ℕ) → Act
  SetsDelay : (source micros : ℕ) → Act
  SetsConstants : (constants : Tuning) → Act
  Misses : (now : ℕ) (names : List NameValue) (words : List ℕ) → Act
  GivesUp : (now : ℕ) (name : NameValue) → Act
  Ticks : (now : ℕ) (words : List ℕ) → Act
  Reports : (now : ℕ) (page : PageId) → Act
  AsksForPages : Act

-- A drawop under the next number of the member's own on a page: above all that it drew there, whether or not its board has
-- a cell for it. So a member that starts anew under its old number has to know what it drew.
abbrev pub next_drawop : Member → PageId → ℕ → Op → DrawopValue
next_drawop m page time op = record { name = name_of page m.number (highest page m.number m.drawn + 1); time = time; op = op }

-- the names of drawops, in their order
abbrev pub names_of : List DrawopValue → List NameValue
names_of drawops = map (λ d. d.name) drawops

abbrev pub calling : KeeperCall → Member → Member
calling call m = record m { calls = call ∷ m.calls }

-- once a batch has arrived, and the board holds this
abbrev pub holding : ℕ → List DrawopValue → List DrawopValue → Member → Member
holding now batch held m = record m { held = held; calls = Arrive now (filter (holds held) (names_of batch)) ∷ m.calls }

-- what a member is after an act
abbrev pub after : Act → Member → Member
after (Draws page time op) m = record m { drawn = next_drawop m page time op ∷ m.drawn }
after (Takes now batch order) m = holding now batch (history_after m.cells m.held order) m
after (Hears now datagram word) m = calling (Hear now datagram word (asks_for_held m.held datagram)) m
after (SetsDelay source micros) m = calling (SetDelay source micros) m
after (SetsConstants constants) m = calling (SetConstants constants) m
after (Misses now names words) m = calling (Miss now names words) m
after (GivesUp now name) m = calling (GiveUp now name (is_asked (timers_of m.constants (events_of m.number m.calls)) name)) m
after (Ticks now words) m = calling (GoOn now words (stopped_after m.number m.constants m.calls m.held)) m
after (Reports now page) m = calling (Report now) m
after AsksForPages m = m

-- what it sends by an act
abbrev pub sends : Act → Member → List Datagram
sends (Draws page time op) m = Draw (next_drawop m page time op) ∷ []
sends (Takes now batch order) m = []
sends (Hears now datagram word) m = answers_to m.number m.held datagram
sends (SetsDelay source micros) m = []
sends (SetsConstants constants) m = []
sends (Misses now names words) m = []
sends (GivesUp now name) m = []
sends (Ticks now words) m = sent_by_tick m.number m.constants m.calls m.held now
sends (Reports now page) m = message_of m.number m.calls now m.held page ∷ []
sends AsksForPages m = AskPages m.number ∷ []
