-- A session as an example: a loss, and its repair by a third.
use Rattle.std.specs.Prelude.{◌≡◌, ℕ, ◌+◌, List, [], ◌∷◌}
use Rattle.wb_names.specs.Arrivals.{Clash}
use Rattle.wb_names.specs.Values.{DrawopValue}
use Rattle.wb_names.specs.History.{name_of}
use Rattle.wb_names.specs.declared.name.PageId.{PageId}
use Rattle.wb_names.specs.declared.parts.Change.TheVariants.{Delete}
use Rattle.wb_names.specs.declared.parts.Op.{Op}
use Rattle.wb_names.specs.declared.parts.Op.TheVariants.{Aimed}
use Rattle.wb_codec.specs.declared.datagram.Datagram.{Datagram}
use Rattle.wb_codec.specs.declared.datagram.Datagram.TheVariants.{Draw, Session, Request}
use Rattle.wb_member.specs.Lines.{Arrives, Calls, Says}
use Rattle.wb_member.specs.Opened.{becomes, gaps_at}
use Rattle.wb_member.specs.declared.calls.Call.TheVariants as calls
use Rattle.wb_laws_sessions.specs.Drawn.{AreHonest}
use Rattle.wb_laws_sessions.specs.Sessions.{Step, host_at, sent}
use Rattle.wb_laws_sessions.specs.Members.{Deed, Does, Opens}
use Rattle.wb_laws_machines.specs.Honest.{AreApart}

abbrev pub page : PageId
page = record { creator = 10; number = 1 }

-- the members at the places 0, 1 and 2 have the numbers 10, 11 and 12
abbrev pub numbers : ℕ → ℕ
numbers i = 10 + i

abbrev pub deletes : Op
deletes = Aimed Delete (record { source = 11; seq = 1 })

abbrev pub drawing : DrawopValue
drawing = record { name = name_of page 10 1; time = 5; op = deletes }

abbrev pub at : ℕ → ℕ → Deed → Step
at time place deed = record { time = time; place = place; event = deed }

abbrev pub opens : ℕ → Deed
opens seed = Opens (record { c1 = 2; c2 = 2; d1 = 1; d2 = 1 }) 4 seed

-- each opens, and 10 draws, which comes to 11, and is lost on the way to 12
abbrev pub lossy : List Step
lossy =
    at 4 1 (Does (Arrives drawing))
    ∷ at 3 0 (Does (Says (Draw drawing)))
    ∷ at 2 2 (opens 3)
    ∷ at 1 1 (opens 2)
    ∷ at 0 0 (opens 1)
    ∷ []

-- what 10 reports, and what 12 asks for
abbrev pub report : Datagram
report = Session 10 1000 page (record { source = 10; high = 1 } ∷ []) []

abbrev pub request : Datagram
request = Request 12 drawing.name

-- 10 sends its session message, and 12 hears it
abbrev pub told : List Step
told =
    at 7 2 (Does (Calls (calls.Hear report)))
    ∷ at 6 0 (Does (Calls (calls.Session page)))
    ∷ at 5 0 (Does (Calls (calls.Tick 1000)))
    ∷ lossy

-- 12 asks for the drawop when its request timer is due; 11 hears that, and sends the drawop again
-- when its repair timer is due. Then 10 opens anew.
abbrev pub repaired : List Step
repaired =
    at 13 0 (opens 4)
    ∷ at 12 2 (Does (Arrives drawing))
    ∷ at 11 1 (Does (Calls (calls.Tick 2000000)))
    ∷ at 10 1 (Does (Calls (calls.Hear request)))
    ∷ at 9 2 (Does (Calls (calls.Tick 1000000)))
    ∷ at 8 2 (Does (Calls (calls.Ask drawing.name)))
    ∷ told

-- Such is the gap of 12 after the report, and this is all that is sent, the newest first. At the
-- end 12 lacks nothing.
pub record IsRepaired : Type 0 where
  pub apart : AreApart numbers
  pub honest : AreHonest numbers repaired
  pub gap : gaps_at page (host_at numbers told 2)
      ≡ record { source = 10; first = 1; last = 1 } ∷ []
  pub sent : sent numbers repaired ≡ Draw drawing ∷ request ∷ report ∷ Draw drawing ∷ []
  pub held : (host_at numbers repaired 2).is.held ≡ drawing ∷ []
  pub forgot : (host_at numbers repaired 0).is.held ≡ []
  pub whole : gaps_at page (host_at numbers repaired 2) ≡ []

-- ---- a program that starts anew and does not know what it drew

-- 10 draws under its old number again
abbrev pub again : DrawopValue
again = record { name = name_of page 10 1; time = 6; op = deletes }

abbrev pub forgotten : List Step
forgotten =
    at 6 0 (Does (Says (Draw again)))
    ∷ at 5 0 (opens 4)
    ∷ lossy

-- What it sends clashes with what 11 holds. So this session keeps to no terms.
pub record Clashes : Type 0 where
  pub sent : sent numbers forgotten ≡ Draw again ∷ Draw drawing ∷ []
  pub clash : becomes again (host_at numbers forgotten 1) ≡ Clash 0
  pub honest : AreHonest numbers forgotten → ⊥
