-- When what happens in one machine is what happens in another, event for events.
use Rattle.std.specs.Prelude.{◌≡◌, ℕ, List, [], ◌∷◌, ◌++◌, Contains, filter, nat_eq, not}
use Rattle.wb_names.specs.Values.{DrawopValue}
use Rattle.wb_codec.specs.declared.datagram.Datagram.{Datagram}
use Rattle.wb_codec.specs.declared.datagram.Datagram.TheVariants.{AskPages, Draw, PageState, Request, Session}
use Rattle.wb_laws_machines.specs.Machines.{AreAllTaken, At, Machine, after_all, drawn_by_all, gained_by_all, happen, sent_by_all, state_at}

-- A report may have an echo under the number of its sender, which no other member reads. This is the
-- report without it, and each other datagram is as it is.
abbrev pub plain : Datagram → Datagram
plain (Draw d) = Draw d
plain (Session sender sent page marks echoes) =
    Session sender sent page marks (filter (λ e. not (nat_eq e.source sender)) echoes)
plain (Request asker name) = Request asker name
plain (AskPages asker) = AskPages asker
plain (PageState sender page marks) = PageState sender page marks

-- two datagrams that are the same without it
abbrev pub SaySame : Datagram → Datagram → Type 0
SaySame v w = plain v ≡ plain w

-- among these is one that says the same
abbrev pub HasSame : List Datagram → Datagram → Type 0
HasSame sent v = (w : Datagram) × Contains sent w × SaySame w v

-- To each state there is one of a machine below, and to each event the events below that make the same
-- of it. A machine is in sound states at every time.
pub record Map (S E T F : Type 0) : Type 1 where
  pub state : S → T
  pub events : E → S → List F
  pub IsSound : S → Type 0

-- There stands the same member; the events below draw the same and take in nothing else; and in sound
-- states they are taken, and send what says the same.
pub record IsMap {S E T F : Type 0} (up : Machine S E) (low : Machine T F) (m : Map S E T F) : Type 0 where
  pub member : (s : S) → low.member (m.state s) ≡ up.member s
  pub starts : (n : ℕ) → m.state (up.start n) ≡ low.start n
  pub goes : (e : E) (s : S) → after_all low (m.events e s) (m.state s) ≡ m.state (up.after e s)
  pub draws : (e : E) (s : S) → drawn_by_all low (m.events e s) (m.state s) ≡ up.drawn e s
  pub gains : (e : E) (s : S) (d : DrawopValue) → Contains (gained_by_all low (m.events e s) (m.state s)) d
      → Contains (up.gained e s) d
  pub sound : (n : ℕ) → m.IsSound (up.start n)
  pub stays : (e : E) (s : S) → m.IsSound s → m.IsSound (up.after e s)
  pub takes : (e : E) (s : S) → m.IsSound s → up.IsTaken e s → AreAllTaken low (m.events e s) (m.state s)
  pub says : (e : E) (s : S) → m.IsSound s → up.IsTaken e s → (v : Datagram) → Contains (up.sends e s) v
      → HasSame (sent_by_all low (m.events e s) (m.state s)) v

-- the trace below a trace
abbrev pub below : {S E T F : Type 0} → Machine S E → Map S E T F → (ℕ → ℕ) → List (At E) → List (At F)
below up m numbers [] = []
below up m numbers (e ∷ older) =
    happen e.time e.place (m.events e.event (state_at up numbers older e.place)) (below up m numbers older)

-- events below events
abbrev pub spread : {S E T F : Type 0} → Machine S E → Map S E T F → List E → S → List F
spread up m [] s = []
spread up m (e ∷ events) s = m.events e s ++ spread up m events (up.after e s)

-- a map, and then another from the machine in the middle
abbrev pub both : {S E T F U G : Type 0} → Machine T F → Map S E T F → Map T F U G → Map S E U G
both mid m n = record {
  state = λ s. n.state (m.state s);
  events = λ e s. spread mid n (m.events e s) (m.state s);
  IsSound = λ s. m.IsSound s × n.IsSound (m.state s);
}
