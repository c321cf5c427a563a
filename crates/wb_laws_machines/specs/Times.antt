-- Traces in real time, of whatever machine: what drivers and the network keep to.
use Rattle.std.specs.Prelude.{◌≡◌, ◌≢◌, ℕ, ◌+◌, ◌<◌, ◌≤◌, false, List, [], ◌∷◌, Contains, Some}
use Rattle.wb_codec.specs.declared.datagram.Datagram.{Datagram}
use Rattle.wb_member.specs.Judged.{is_full}
use Rattle.wb_progress.specs.Turns.{IsNowAt, Terms, settled_by}
use Rattle.wb_laws_machines.specs.Honest.{AreApart}
use Rattle.wb_laws_machines.specs.Machines.{AreTaken, At, Machine, member_at, state_at, ◌⊑◌}
use Rattle.wb_laws_machines.specs.Maps.{HasSame, Map}
pub use Rattle.wb_progress.specs.Traces.{AreInOrder, time_of, until}

-- What a machine has besides in real time: what an event hands in of what comes; when a state has something to do; and
-- whether an event is no start of a program.
pub record Clocked {S E : Type 0} (m : Machine S E) : Type 1 where
  pub hears : E → S → List Datagram
  pub due : S → ℕ
  pub IsSteady : E → S → Type 0

-- one of these events sent what says the same, so shortly before a time
pub record WasSentBy {S E : Type 0} (m : Machine S E) (numbers : ℕ → ℕ) (trace : List (At E)) (time within : ℕ) (v : Datagram) : Type 0 where
  pub e : At E
  pub older : List (At E)
  pub behind : (e ∷ older) ⊑ trace
  pub soon : time ≤ e.time + within
  pub sent : HasSame (m.sends e.event (state_at m numbers older e.place)) v

-- one of the events after a part of a trace hands in what says the same, at a place and by a time
pub record ComesBy {S E : Type 0} (m : Machine S E) (c : Clocked m) (numbers : ℕ → ℕ) (trace base : List (At E)) (j by : ℕ) (v : Datagram) : Type 0 where
  pub e : At E
  pub older : List (At E)
  pub behind : (e ∷ older) ⊑ trace
  pub later : base ⊑ older
  pub place : e.place ≡ j
  pub soon : e.time ≤ by
  pub heard : HasSame (c.hears e.event (state_at m numbers older e.place)) v

-- Before `quiet` anything may happen, and programs start and end as they like. From then on live places alone have
-- events, in time, at moments that their clocks may tell; nobody draws; boards have room; what a live place sends
-- comes to each other one within `delivery`; and what is handed in, once all on its way has arrived, was sent shortly before.
pub record KeepsTime {S E : Type 0} (m : Machine S E) (c : Clocked m) (numbers : ℕ → ℕ) (terms : Terms) (trace : List (At E)) : Type 0 where
  pub apart : AreApart numbers
  pub taken : AreTaken m numbers trace
  pub order : AreInOrder trace
  pub alone : (e : At E) (older : List (At E)) → (e ∷ older) ⊑ trace → terms.quiet < e.time → Contains terms.live e.place
  pub steady : (e : At E) (older : List (At E)) → (e ∷ older) ⊑ trace → terms.quiet < e.time → c.IsSteady e.event (state_at m numbers older e.place)
  pub times : (e : At E) (older : List (At E)) (now : ℕ) → (e ∷ older) ⊑ trace → terms.quiet < e.time
      → m.moment e.event (state_at m numbers older e.place) ≡ Some now → IsNowAt terms e.time e.place now
  pub drawn : (e : At E) (older : List (At E)) → (e ∷ older) ⊑ trace → terms.quiet < e.time → m.drawn e.event (state_at m numbers older e.place) ≡ []
  pub soon : (e : At E) (older : List (At E)) (i : ℕ) → (e ∷ older) ⊑ trace → Contains terms.live i → terms.quiet < e.time
      → e.time ≤ c.due (state_at m numbers older i) + (terms.lag i + terms.late)
  pub room : (older : List (At E)) (i : ℕ) → older ⊑ trace → Contains terms.live i → terms.quiet < time_of older → is_full (member_at m numbers older i) ≡ false
  pub delivered : (e : At E) (older : List (At E)) (j : ℕ) (v : Datagram) → (e ∷ older) ⊑ trace → Contains terms.live j → e.place ≢ j → terms.quiet < e.time
      → Contains (m.sends e.event (state_at m numbers older e.place)) v → e.time + terms.delivery < time_of trace
      → ComesBy m c numbers trace (e ∷ older) j (e.time + terms.delivery) v
  pub fresh : (e : At E) (older : List (At E)) (v : Datagram) → (e ∷ older) ⊑ trace → settled_by terms < e.time
      → Contains (c.hears e.event (state_at m numbers older e.place)) v → WasSentBy m numbers older e.time terms.delivery v

-- ---- a map in real time

-- Each event but a start has one below, at the same moment; that hears and sends what says the same, no less and no more,
-- and is due with it.
pub record IsMapInTime {S E T F : Type 0} {up : Machine S E} {low : Machine T F} (m : Map S E T F) (c : Clocked up) (b : Clocked low) : Type 0 where
  pub one : E → S → F
  pub is_one : (e : E) (s : S) → c.IsSteady e s → m.events e s ≡ one e s ∷ []
  pub steady : (e : E) (s : S) → c.IsSteady e s → b.IsSteady (one e s) (m.state s)
  pub moment : (e : E) (s : S) → c.IsSteady e s → low.moment (one e s) (m.state s) ≡ up.moment e s
  pub hears : (e : E) (s : S) (v : Datagram) → c.IsSteady e s → Contains (c.hears e s) v → HasSame (b.hears (one e s) (m.state s)) v
  pub heard : (e : E) (s : S) (v : Datagram) → c.IsSteady e s → Contains (b.hears (one e s) (m.state s)) v → HasSame (c.hears e s) v
  pub sent : (e : E) (s : S) (v : Datagram) → c.IsSteady e s → m.IsSound s → up.IsTaken e s → Contains (low.sends (one e s) (m.state s)) v → HasSame (up.sends e s) v
  pub due : (s : S) → b.due (m.state s) ≡ c.due s
