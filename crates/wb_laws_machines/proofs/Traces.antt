-- Traces, and what comes before them.
use Rattle.std.proofs.Common.{◌≡◌, ℕ, Bool, cond, List, [], ◌∷◌, ◌++◌, ap, eq-eqb, refl, subst, sym}
use Rattle.std.specs.Prelude.{Contains}
use Rattle.std.proofs.lemmas.List.Elements.{Contains-append_right}
use Rattle.wb_names.specs.Values.{DrawopValue}
use Rattle.wb_codec.specs.declared.datagram.Datagram.{Datagram}
use Rattle.wb_laws_machines.specs.Machines.{AreTaken, At, Machine, WasHeld, happen, sent, state_at, ◌⊑◌, whole, part}

pub behind_both : {E : Type 0} {a b c : List E} → a ⊑ b → b ⊑ c → a ⊑ c
behind_both ab whole = ab
behind_both ab (part bc) = part (behind_both ab bc)

-- the same said by the newer ones
module _ {E : Type 0} where
  front_behind : (newer older : List E) → older ⊑ (newer ++ older)
  front_behind [] older = whole
  front_behind (e ∷ newer) older = part (front_behind newer older)

  pub split_behind : (newer older : List E) {trace : List E} → trace ≡ newer ++ older → older ⊑ trace
  split_behind newer older split = subst (λ (s : List E). older ⊑ s) (sym split) (front_behind newer older)

  pub split_of : {older trace : List E} → older ⊑ trace → (newer : List E) × (trace ≡ newer ++ older)
  split_of whole = ([], refl)
  split_of (part {e = e} behind) = let rest = split_of behind in (e ∷ rest.0, ap (λ (t : List E). e ∷ t) rest.1)

pub nothing_behind : {E : Type 0} (trace : List E) → [] ⊑ trace
nothing_behind [] = whole
nothing_behind (e ∷ trace) = part (nothing_behind trace)

pub happen_behind : {E : Type 0} (time place : ℕ) (events : List E) (older : List (At E)) → older ⊑ happen time place events older
happen_behind time place [] older = whole
happen_behind time place (e ∷ events) older = behind_both (part whole) (happen_behind time place events (record { time = time; place = place; event = e } ∷ older))

pub held_later : {S E : Type 0} (m : Machine S E) (numbers : ℕ → ℕ) {older trace : List (At E)} (d : DrawopValue) → older ⊑ trace → WasHeld m numbers older d → WasHeld m numbers trace d
held_later m numbers d behind w = record { older = w.older; behind = behind_both w.behind behind; place = w.place; held = w.held }

pub taken_behind : {S E : Type 0} (m : Machine S E) (numbers : ℕ → ℕ) {older trace : List (At E)} → older ⊑ trace → AreTaken m numbers trace → AreTaken m numbers older
taken_behind m numbers whole taken = taken
taken_behind m numbers (part behind) taken = taken_behind m numbers behind taken.1

-- what was sent stays sent
pub sent_later : {S E : Type 0} (m : Machine S E) (numbers : ℕ → ℕ) {older trace : List (At E)} (v : Datagram) → older ⊑ trace → Contains (sent m numbers older) v → Contains (sent m numbers trace) v
sent_later m numbers v whole c = c
sent_later m numbers v (part {newer = newer} {e = e} behind) c = Contains-append_right (m.sends e.event (state_at m numbers newer e.place)) (sent m numbers newer) v (sent_later m numbers v behind c)

-- the state at the place of the newest event
pub there : {S E : Type 0} (m : Machine S E) (numbers : ℕ → ℕ) (e : At E) (older : List (At E)) → state_at m numbers (e ∷ older) e.place ≡ m.after e.event (state_at m numbers older e.place)
there m numbers e older = ap (λ (b : Bool). cond b (m.after e.event (state_at m numbers older e.place)) (state_at m numbers older e.place)) (eq-eqb e.place e.place refl)
