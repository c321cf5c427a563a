-- What stands at a place, of whatever kind, and traces of what happens at places: in each event
-- something happens to what stands at a place, at a time. What is sent may be lost. It may also come to
-- anyone, at any later event, any number of times, from a network, a file or a hand.
-- If a program ended before it sent, recorded or showed anything of its last events, these may be left
-- out of the trace: when it starts again, only its number is left of it.
use Rattle.std.specs.Prelude.{◌≡◌, ℕ, List, [], ◌∷◌, ◌++◌, Contains, Option, nat_eq, if◌then◌else◌}
use Rattle.wb_names.specs.Values.{DrawopValue}
use Rattle.wb_codec.specs.declared.datagram.Datagram.{Datagram}
use Rattle.wb_member.specs.Opened.{Opened}
pub use Rattle.wb_progress.specs.Traces.{At}

-- One kind of state and of event: the state of a number before anything happened; the member in a
-- state; what an event makes of a state; what is sent by it, what it draws, and what it takes in
-- from others; its moment, if it has one; and whether it is taken, or refused.
pub record Machine (State Event : Type 0) : Type 1 where
  pub start : ℕ → State
  pub member : State → Opened
  pub after : Event → State → State
  pub sends : Event → State → List Datagram
  pub drawn : Event → State → List DrawopValue
  pub gained : Event → State → List DrawopValue
  pub moment : Event → State → Option ℕ
  pub IsTaken : Event → State → Type 0

-- A trace has its newest event first. One comes before another that is the same, or longer by
-- newer events.
infix 20 ◌⊑◌
pub data ◌⊑◌ {E : Type 0} (older : List E) : List E → Type 0 where
  whole : older ⊑ older
  part : {newer : List E} {e : E} → older ⊑ newer → older ⊑ (e ∷ newer)

-- the state at a place after some events; `numbers` has the number of each place, for ever
abbrev pub state_at : {S E : Type 0} → Machine S E → (ℕ → ℕ) → List (At E) → ℕ → S
state_at m numbers [] i = m.start (numbers i)
state_at m numbers (e ∷ older) i =
    if nat_eq e.place i then m.after e.event (state_at m numbers older i)
    else state_at m numbers older i

-- the member there
abbrev pub member_at : {S E : Type 0} → Machine S E → (ℕ → ℕ) → List (At E) → ℕ → Opened
member_at m numbers trace i = m.member (state_at m numbers trace i)

-- all that anyone sent
abbrev pub sent : {S E : Type 0} → Machine S E → (ℕ → ℕ) → List (At E) → List Datagram
sent m numbers [] = []
sent m numbers (e ∷ older) = m.sends e.event (state_at m numbers older e.place) ++ sent m numbers older

-- all that was drawn at a place, through every start, the newest first
abbrev pub drawn_at : {S E : Type 0} → Machine S E → (ℕ → ℕ) → List (At E) → ℕ → List DrawopValue
drawn_at m numbers [] i = []
drawn_at m numbers (e ∷ older) i =
    if nat_eq e.place i then m.drawn e.event (state_at m numbers older i) ++ drawn_at m numbers older i
    else drawn_at m numbers older i

-- each event is taken
abbrev pub AreTaken : {S E : Type 0} → Machine S E → (ℕ → ℕ) → List (At E) → Type 0
AreTaken m numbers [] = Unit {0}
AreTaken m numbers (e ∷ older) =
    m.IsTaken e.event (state_at m numbers older e.place) × AreTaken m numbers older

-- some member held it at some time
pub record WasHeld {S E : Type 0} (m : Machine S E) (numbers : ℕ → ℕ) (trace : List (At E))
    (d : DrawopValue) : Type 0 where
  pub older : List (At E)
  pub behind : older ⊑ trace
  pub place : ℕ
  pub held : Contains (member_at m numbers older place).is.held d

-- its source drew it, just as it is
abbrev pub WasDrawn : {S E : Type 0} → Machine S E → (ℕ → ℕ) → List (At E) → DrawopValue → Type 0
WasDrawn m numbers trace d =
    (k : ℕ) × (numbers k ≡ d.name.source) × Contains (drawn_at m numbers trace k) d

-- ---- several events of one state, one after the other

abbrev pub after_all : {S E : Type 0} → Machine S E → List E → S → S
after_all m [] s = s
after_all m (e ∷ events) s = after_all m events (m.after e s)

abbrev pub sent_by_all : {S E : Type 0} → Machine S E → List E → S → List Datagram
sent_by_all m [] s = []
sent_by_all m (e ∷ events) s = m.sends e s ++ sent_by_all m events (m.after e s)

-- the newest first
abbrev pub drawn_by_all : {S E : Type 0} → Machine S E → List E → S → List DrawopValue
drawn_by_all m [] s = []
drawn_by_all m (e ∷ events) s = drawn_by_all m events (m.after e s) ++ m.drawn e s

abbrev pub gained_by_all : {S E : Type 0} → Machine S E → List E → S → List DrawopValue
gained_by_all m [] s = []
gained_by_all m (e ∷ events) s = m.gained e s ++ gained_by_all m events (m.after e s)

abbrev pub AreAllTaken : {S E : Type 0} → Machine S E → List E → S → Type 0
AreAllTaken m [] s = Unit {0}
AreAllTaken m (e ∷ events) s = m.IsTaken e s × AreAllTaken m events (m.after e s)

-- as events of a trace
abbrev pub happen : {E : Type 0} → ℕ → ℕ → List E → List (At E) → List (At E)
happen time place [] older = older
happen time place (e ∷ events) older =
    happen time place events (record { time = time; place = place; event = e } ∷ older)
