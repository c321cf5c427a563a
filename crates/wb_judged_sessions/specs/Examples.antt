-- A session of two judged members, as an example: one draws, the other hears of it from an origin
-- that it does not know, and starts anew from its file.
use Rattle.std.specs.Prelude.{◌≡◌, ℕ, ◌+◌, List, [], ◌∷◌, None}
use Rattle.wb_names.specs.History.{name_of}
use Rattle.wb_names.specs.Values.{DrawopValue}
use Rattle.wb_names.specs.declared.name.PageId.{PageId}
use Rattle.wb_names.specs.declared.parts.Change.TheVariants.{Delete}
use Rattle.wb_names.specs.declared.parts.Op.{Op}
use Rattle.wb_names.specs.declared.parts.Op.TheVariants.{Aimed}
use Rattle.wb_codec.specs.declared.datagram.Datagram.TheVariants.{Draw}
use Rattle.wb_judge.specs.declared.origin.Origin.{Origin}
use Rattle.wb_judging.specs.declared.call.Call.TheVariants.{CameFrom, UserDrew}
use Rattle.wb_judging.specs.declared.record.RecordLine.{RecordLine}
use Rattle.wb_judging.specs.declared.record.RecordLine.TheVariants.{Strange, Tick}
use Rattle.wb_judged_sessions.specs.Calls.{JudgedCall, Start, Starts, Takes}
use Rattle.wb_judged_sessions.specs.Sessions.{At, drawn_at, judged_at}
use Rattle.wb_judged_sessions.specs.Terms.{IsSession, KeepFiles, file_at}

abbrev pub page : PageId
page = record { creator = 10; number = 1 }

-- the members at the places 0 and 1 have the numbers 10 and 11
abbrev pub numbers : ℕ → ℕ
numbers i = 10 + i

abbrev pub deletes : Op
deletes = Aimed Delete (record { source = 11; seq = 1 })

-- at a moment at which the time of day is 5
abbrev pub start : ℕ → ℕ → Start
start seed moment = record {
  opening = record {
    constants = record { c1 = 2; c2 = 2; d1 = 1; d2 = 1 };
    cells = 8;
    seed = seed;
    moments = moment ∷ [];
    rate = 4096;
    listen = 0;
  };
  wall = 5;
  here = None;
  strangers = None;
}

abbrev pub at : ℕ → ℕ → JudgedCall → At JudgedCall
at time place call = record { time = time; place = place; event = call }

abbrev pub somewhere : Origin
somewhere = record { place = 77; owner = None }

-- two moments later it is 7
abbrev pub drawing : DrawopValue
drawing = record { name = name_of page 10 1; time = 7; op = deletes }

-- the one starts, and then the other
abbrev pub one_started : List (At JudgedCall)
one_started = at 1 0 (Starts (start 1 1) []) ∷ []

abbrev pub both_started : List (At JudgedCall)
both_started = at 2 1 (Starts (start 2 1) []) ∷ one_started

abbrev pub drawn : List (At JudgedCall)
drawn = at 3 0 (Takes (UserDrew 3 page deletes)) ∷ both_started

abbrev pub heard : List (At JudgedCall)
heard = at 4 1 (Takes (CameFrom 4 somewhere (Draw drawing))) ∷ drawn

-- what it told its driver to record
abbrev pub file : List RecordLine
file = Tick 4 ∷ Strange drawing ∷ []

abbrev pub again : List (At JudgedCall)
again = at 5 1 (Starts (start 3 7) file) ∷ heard

-- It is such a session, of members that start with their files.
pub record IsShared : Type 0 where
  pub session : IsSession numbers again
  pub files : KeepFiles numbers again
  pub drew : drawn_at numbers again 0 ≡ drawing ∷ []
  pub told : file_at numbers heard 1 ≡ file
  pub held : (judged_at numbers heard 1).kept.host.is.held ≡ drawing ∷ []
  pub still : (judged_at numbers again 1).kept.host.is.held ≡ drawing ∷ []
