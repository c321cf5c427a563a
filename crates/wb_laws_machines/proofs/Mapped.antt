-- What holds below holds above, and a trace above is one below.
use Rattle.std.proofs.Common.{◌≡◌, ◌⊎◌, ℕ, ◌≤◌, Bool, true, false, cond, List, [], ◌∷◌, ◌++◌, ◌∙◌, ap, append_assoc, eqb-true, inl, inr, length, refl, subst, sym, ⊎_elim}
use Rattle.std.specs.Prelude.{Contains, nat_eq}
use Rattle.std.proofs.lemmas.List.Elements.{Contains-append_cases, Contains-append_left, Contains-append_right}
use Rattle.wb_names.specs.History.{IsHistory}
use Rattle.wb_names.specs.Values.{DrawopValue}
use Rattle.wb_names.proofs.Listings.{Contains-none}
use Rattle.wb_board.specs.Counts.{MAX_CELLS}
use Rattle.wb_codec.specs.declared.datagram.Datagram.{Datagram}
use Rattle.wb_member.specs.Opened.{Opened}
use Rattle.wb_laws_machines.specs.Honest.{IsLawful}
use Rattle.wb_laws_machines.specs.Machines.{AreAllTaken, AreTaken, At, Machine, WasHeld, after_all, drawn_at, drawn_by_all, gained_by_all, happen, member_at, sent, sent_by_all, state_at, ◌⊑◌, whole, part}
use Rattle.wb_laws_machines.specs.Maps.{HasSame, IsMap, Map, below}
use Rattle.wb_laws_machines.proofs.Traces.{behind_both, happen_behind, sent_later, there}

-- ---- several events of a machine that keeps its laws

module _ {T F : Type 0} (low : Machine T F) (lawful : IsLawful low) where
  pub keeps_all : (events : List F) (t : T) → (low.member (after_all low events t)).is.number ≡ (low.member t).is.number
  keeps_all [] t = refl
  keeps_all (e ∷ events) t = keeps_all events (low.after e t) ∙ lawful.keeps e t

  pub brings_all : (events : List F) (t : T) (d : DrawopValue) → Contains (low.member (after_all low events t)).is.held d
      → Contains (low.member t).is.held d ⊎ (Contains (gained_by_all low events t) d ⊎ Contains (drawn_by_all low events t) d)
  brings_all [] t d c = inl c
  brings_all (e ∷ events) t d c = ⊎_elim
      (λ (was : Contains (low.member (low.after e t)).is.held d). ⊎_elim
      (λ (before : Contains (low.member t).is.held d). inl before)
      (λ (comes : Contains (low.gained e t) d ⊎ Contains (low.drawn e t) d). inr (⊎_elim
      (λ (g : Contains (low.gained e t) d). inl (Contains-append_left (low.gained e t) (gained_by_all low events (low.after e t)) d g))
      (λ (w : Contains (low.drawn e t) d). inr (Contains-append_right (drawn_by_all low events (low.after e t)) (low.drawn e t) d w)) comes))
      (lawful.brings e t d was))
      (λ (comes : Contains (gained_by_all low events (low.after e t)) d ⊎ Contains (drawn_by_all low events (low.after e t)) d). inr (⊎_elim
      (λ (g : Contains (gained_by_all low events (low.after e t)) d). inl (Contains-append_right (low.gained e t) (gained_by_all low events (low.after e t)) d g))
      (λ (w : Contains (drawn_by_all low events (low.after e t)) d). inr (Contains-append_left (drawn_by_all low events (low.after e t)) (low.drawn e t) d w)) comes))
      (brings_all events (low.after e t) d c)

  pub once_all : (events : List F) (t : T) → IsHistory (low.member t).is.held → IsHistory (low.member (after_all low events t)).is.held
  once_all [] t once = once
  once_all (e ∷ events) t once = once_all events (low.after e t) (lawful.once e t once)

  pub room_all : (events : List F) (t : T) → length (low.member t).is.held ≤ (low.member t).is.cells
      → length (low.member (after_all low events t)).is.held ≤ (low.member (after_all low events t)).is.cells
  room_all [] t room = room
  room_all (e ∷ events) t room = room_all events (low.after e t) (lawful.room e t room)

-- ---- a machine over one that keeps its laws

module _ {S E T F : Type 0} {up : Machine S E} {low : Machine T F} {via : Map S E T F} (o : IsMap up low via) where
  begins : (n : ℕ) → up.member (up.start n) ≡ low.member (low.start n)
  begins n = sym (o.member (up.start n)) ∙ ap low.member (o.starts n)

  goes_on : (e : E) (s : S) → low.member (after_all low (via.events e s) (via.state s)) ≡ up.member (up.after e s)
  goes_on e s = ap low.member (o.goes e s) ∙ o.member (up.after e s)

  pub lawful_over : IsLawful low → ((e : E) (s : S) → length (up.drawn e s) ≤ 1) → IsLawful up
  lawful_over lawful few = record {
    numbered = λ n. ap (λ (h : Opened). h.is.number) (begins n) ∙ lawful.numbered n;
    empty = λ n. ap (λ (h : Opened). h.is.held) (begins n) ∙ lawful.empty n;
    keeps = λ e s.
        ap (λ (h : Opened). h.is.number) (sym (goes_on e s))
        ∙ keeps_all low lawful (via.events e s) (via.state s)
        ∙ ap (λ (h : Opened). h.is.number) (o.member s);
    brings = λ e s d c. ⊎_elim
        (λ (was : Contains (low.member (via.state s)).is.held d). inl (subst (λ (h : Opened). Contains h.is.held d) (o.member s) was))
        (λ (comes : Contains (gained_by_all low (via.events e s) (via.state s)) d ⊎ Contains (drawn_by_all low (via.events e s) (via.state s)) d). inr (⊎_elim
        (λ (g : Contains (gained_by_all low (via.events e s) (via.state s)) d). inl (o.gains e s d g))
        (λ (w : Contains (drawn_by_all low (via.events e s) (via.state s)) d). inr (subst (λ (ds : List DrawopValue). Contains ds d) (o.draws e s) w)) comes))
        (brings_all low lawful (via.events e s) (via.state s) d (subst (λ (h : Opened). Contains h.is.held d) (sym (goes_on e s)) c));
    few = few;
    once = λ e s once. subst (λ (h : Opened). IsHistory h.is.held) (goes_on e s)
        (once_all low lawful (via.events e s) (via.state s) (subst (λ (h : Opened). IsHistory h.is.held) (sym (o.member s)) once));
    room = λ e s room. subst (λ (h : Opened). length h.is.held ≤ h.is.cells) (goes_on e s)
        (room_all low lawful (via.events e s) (via.state s) (subst (λ (h : Opened). length h.is.held ≤ h.is.cells) (sym (o.member s)) room));
  }

-- ---- several events of a trace

module _ {T F : Type 0} (low : Machine T F) (numbers : ℕ → ℕ) (time place : ℕ) where
  abbrev at : F → At F
  at e = record { time = time; place = place; event = e }

  pub happen_state : (events : List F) (older : List (At F)) (i : ℕ) (b : Bool) → nat_eq place i ≡ b
      → state_at low numbers (happen time place events older) i ≡ cond b (after_all low events (state_at low numbers older i)) (state_at low numbers older i)
  happen_state [] older i true is = refl
  happen_state [] older i false is = refl
  happen_state (e ∷ events) older i true is =
      happen_state events (at e ∷ older) i true is
      ∙ ap (λ (b : Bool). after_all low events (cond b (low.after e (state_at low numbers older i)) (state_at low numbers older i))) is
  happen_state (e ∷ events) older i false is =
      happen_state events (at e ∷ older) i false is
      ∙ ap (λ (b : Bool). cond b (low.after e (state_at low numbers older i)) (state_at low numbers older i)) is

  pub happen_drawn : (events : List F) (older : List (At F)) (i : ℕ) (b : Bool) → nat_eq place i ≡ b
      → drawn_at low numbers (happen time place events older) i ≡ cond b (drawn_by_all low events (state_at low numbers older i) ++ drawn_at low numbers older i) (drawn_at low numbers older i)
  happen_drawn [] older i true is = refl
  happen_drawn [] older i false is = refl
  happen_drawn (e ∷ events) older i true is =
      happen_drawn events (at e ∷ older) i true is
      ∙ ap (λ (b : Bool). drawn_by_all low events (cond b (low.after e (state_at low numbers older i)) (state_at low numbers older i))
      ++ cond b (low.drawn e (state_at low numbers older i) ++ drawn_at low numbers older i) (drawn_at low numbers older i)) is
      ∙ sym (append_assoc (drawn_by_all low events (low.after e (state_at low numbers older i))) (low.drawn e (state_at low numbers older i)) (drawn_at low numbers older i))
  happen_drawn (e ∷ events) older i false is =
      happen_drawn events (at e ∷ older) i false is
      ∙ ap (λ (b : Bool). cond b (low.drawn e (state_at low numbers older i) ++ drawn_at low numbers older i) (drawn_at low numbers older i)) is

  pub happen_sent : (events : List F) (older : List (At F)) (v : Datagram) → Contains (sent_by_all low events (state_at low numbers older place)) v
      → Contains (sent low numbers (happen time place events older)) v
  happen_sent [] older v c = absurd (Contains-none v c)
  happen_sent (e ∷ events) older v c = ⊎_elim
      (λ (now : Contains (low.sends e (state_at low numbers older place)) v).
      sent_later low numbers v (happen_behind time place events (at e ∷ older)) (Contains-append_left (low.sends e (state_at low numbers older place)) (sent low numbers older) v now))
      (λ (then : Contains (sent_by_all low events (low.after e (state_at low numbers older place))) v).
      happen_sent events (at e ∷ older) v (subst (λ (t : T). Contains (sent_by_all low events t) v) (sym (there low numbers (at e) older)) then))
      (Contains-append_cases (low.sends e (state_at low numbers older place)) (sent_by_all low events (low.after e (state_at low numbers older place))) v c)

  pub happen_taken : (events : List F) (older : List (At F)) → AreAllTaken low events (state_at low numbers older place) → AreTaken low numbers older → AreTaken low numbers (happen time place events older)
  happen_taken [] older all taken = taken
  happen_taken (e ∷ events) older all taken =
      happen_taken events (at e ∷ older) (subst (AreAllTaken low events) (sym (there low numbers (at e) older)) all.1) (all.0, taken)

-- ---- the trace below

module _ {S E T F : Type 0} {up : Machine S E} {low : Machine T F} {via : Map S E T F} (o : IsMap up low via) (numbers : ℕ → ℕ) where
  pub state_below : (trace : List (At E)) (i : ℕ) → state_at low numbers (below up via numbers trace) i ≡ via.state (state_at up numbers trace i)
  state_below [] i = sym (o.starts (numbers i))
  state_below (e ∷ older) i = by (state_below older i) (nat_eq e.place i) refl where
    events : ℕ → List F
    events p = via.events e.event (state_at up numbers older p)

    by : state_at low numbers (below up via numbers older) i ≡ via.state (state_at up numbers older i) → (b : Bool) → nat_eq e.place i ≡ b
        → state_at low numbers (happen e.time e.place (events e.place) (below up via numbers older)) i ≡ via.state (cond b (up.after e.event (state_at up numbers older i)) (state_at up numbers older i))
    by rest true is =
        happen_state low numbers e.time e.place (events e.place) (below up via numbers older) i true is
        ∙ ap (after_all low (events e.place)) rest
        ∙ ap (λ (p : ℕ). after_all low (events p) (via.state (state_at up numbers older i))) (eqb-true e.place i is)
        ∙ o.goes e.event (state_at up numbers older i)
    by rest false is = happen_state low numbers e.time e.place (events e.place) (below up via numbers older) i false is ∙ rest

  pub member_below : (trace : List (At E)) (i : ℕ) → member_at low numbers (below up via numbers trace) i ≡ member_at up numbers trace i
  member_below trace i = ap low.member (state_below trace i) ∙ o.member (state_at up numbers trace i)

  pub drawn_below : (trace : List (At E)) (i : ℕ) → drawn_at low numbers (below up via numbers trace) i ≡ drawn_at up numbers trace i
  drawn_below [] i = refl
  drawn_below (e ∷ older) i = by (drawn_below older i) (nat_eq e.place i) refl where
    events : ℕ → List F
    events p = via.events e.event (state_at up numbers older p)

    by : drawn_at low numbers (below up via numbers older) i ≡ drawn_at up numbers older i → (b : Bool) → nat_eq e.place i ≡ b
        → drawn_at low numbers (happen e.time e.place (events e.place) (below up via numbers older)) i ≡ cond b (up.drawn e.event (state_at up numbers older i) ++ drawn_at up numbers older i) (drawn_at up numbers older i)
    by rest true is =
        happen_drawn low numbers e.time e.place (events e.place) (below up via numbers older) i true is
        ∙ ap (λ (ds : List DrawopValue). drawn_by_all low (events e.place) (state_at low numbers (below up via numbers older) i) ++ ds) rest
        ∙ ap (λ (t : T). drawn_by_all low (events e.place) t ++ drawn_at up numbers older i) (state_below older i)
        ∙ ap (λ (p : ℕ). drawn_by_all low (events p) (via.state (state_at up numbers older i)) ++ drawn_at up numbers older i) (eqb-true e.place i is)
        ∙ ap (λ (ds : List DrawopValue). ds ++ drawn_at up numbers older i) (o.draws e.event (state_at up numbers older i))
    by rest false is = happen_drawn low numbers e.time e.place (events e.place) (below up via numbers older) i false is ∙ rest

  pub sound_at : (trace : List (At E)) (i : ℕ) → via.IsSound (state_at up numbers trace i)
  sound_at [] i = o.sound (numbers i)
  sound_at (e ∷ older) i = by (sound_at older i) (nat_eq e.place i) where
    by : via.IsSound (state_at up numbers older i) → (b : Bool) → via.IsSound (cond b (up.after e.event (state_at up numbers older i)) (state_at up numbers older i))
    by rest true = o.stays e.event (state_at up numbers older i) rest
    by rest false = rest

  pub below_step : (e : At E) (older : List (At E)) → below up via numbers older ⊑ below up via numbers (e ∷ older)
  below_step e older = happen_behind e.time e.place (via.events e.event (state_at up numbers older e.place)) (below up via numbers older)

  pub below_behind : {older trace : List (At E)} → older ⊑ trace → below up via numbers older ⊑ below up via numbers trace
  below_behind whole = whole
  below_behind (part {newer = newer} {e = e} behind) = behind_both (below_behind behind) (below_step e newer)

  pub sent_below : (trace : List (At E)) → AreTaken up numbers trace → (v : Datagram) → Contains (sent up numbers trace) v → HasSame (sent low numbers (below up via numbers trace)) v
  sent_below [] taken v c = absurd (Contains-none v c)
  sent_below (e ∷ older) taken v c =
      let s : S = state_at up numbers older e.place in
      ⊎_elim
      (λ (now : Contains (up.sends e.event s) v).
      let w = o.says e.event s (sound_at older e.place) taken.0 v now in (
        w.0,
        happen_sent low numbers e.time e.place (via.events e.event s) (below up via numbers older) w.0
            (subst (λ (t : T). Contains (sent_by_all low (via.events e.event s) t) w.0) (sym (state_below older e.place)) w.1),
        w.2,
      ))
      (λ (before : Contains (sent up numbers older) v). let w = sent_below older taken.1 v before in
      (w.0, sent_later low numbers w.0 (below_step e older) w.1, w.2))
      (Contains-append_cases (up.sends e.event s) (sent up numbers older) v c)

  pub taken_below : (trace : List (At E)) → AreTaken up numbers trace → AreTaken low numbers (below up via numbers trace)
  taken_below [] taken = tt
  taken_below (e ∷ older) taken =
      let s : S = state_at up numbers older e.place in
      happen_taken low numbers e.time e.place (via.events e.event s) (below up via numbers older)
      (subst (AreAllTaken low (via.events e.event s)) (sym (state_below older e.place)) (o.takes e.event s (sound_at older e.place) taken.0)) (taken_below older taken.1)

  pub held_below : (trace : List (At E)) (d : DrawopValue) → WasHeld up numbers trace d → WasHeld low numbers (below up via numbers trace) d
  held_below trace d w = record {
    older = below up via numbers w.older;
    behind = below_behind w.behind;
    place = w.place;
    held = subst (λ (h : Opened). Contains h.is.held d) (sym (member_below w.older w.place)) w.held;
  }

-- ---- boards of taken events

-- no board has more cells than one can have
abbrev pub TakenAreSmall : {S E : Type 0} → Machine S E → Type 0
TakenAreSmall {S} {E} m = (numbers : ℕ → ℕ) (trace : List (At E)) (i : ℕ) → AreTaken m numbers trace → (member_at m numbers trace i).is.cells ≤ MAX_CELLS

pub small_above : {S E T F : Type 0} {up : Machine S E} {low : Machine T F} {via : Map S E T F} → IsMap up low via → TakenAreSmall low → TakenAreSmall up
small_above {up = up} {via = via} o small numbers trace i taken =
    subst (λ (h : Opened). h.is.cells ≤ MAX_CELLS) (member_below o numbers trace i) (small numbers (below up via numbers trace) i (taken_below o numbers trace taken))
