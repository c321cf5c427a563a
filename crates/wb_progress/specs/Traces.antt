-- Events at places, in time, of whatever kind: a trace has the newest first.
use Rattle.std.specs.Prelude.{◌≡◌, ℕ, ◌≤◌, List, [], ◌∷◌, ◌++◌, nat_le, if◌then◌else◌}
use Rattle.wb_codec.specs.declared.datagram.Datagram.{Datagram}

-- an event at a place, at a time
pub record At (Event : Type 0) : Type 0 where
  pub time : ℕ
  pub place : ℕ
  pub event : Event

-- the time of the newest event, at first 0; times do not go back; the part of a trace up to a time
abbrev pub time_of : {E : Type 0} → List (At E) → ℕ
time_of [] = 0
time_of (e ∷ older) = e.time

abbrev pub AreInOrder : {E : Type 0} → List (At E) → Type 0
AreInOrder [] = Unit {0}
AreInOrder (e ∷ older) = (time_of older ≤ e.time) × AreInOrder older

abbrev pub until : {E : Type 0} → ℕ → List (At E) → List (At E)
until s [] = []
until s (e ∷ older) = if nat_le e.time s then e ∷ older else until s older

-- one of the newer events hands a datagram in, at a place and by a time; `came` is the event that does
pub record IsHandedIn {E : Type 0} (came : ℕ → Datagram → E) (newer : List (At E)) (j by : ℕ) (v : Datagram) : Type 0 where
  pub later : List (At E)
  pub call : At E
  pub between : List (At E)
  pub split : newer ≡ later ++ call ∷ between
  pub place : call.place ≡ j
  pub soon : call.time ≤ by
  pub now : ℕ
  pub is : call.event ≡ came now v
