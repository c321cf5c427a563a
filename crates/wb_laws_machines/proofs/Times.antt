-- What keeps time above keeps time below.
use Rattle.std.proofs.Common.{◌≡◌, ◌⊎◌, ℕ, ◌<◌, ◌≤◌, false, List, [], ◌∷◌, ◌∙◌, Some, ap, append-nil, arith, inl, inr, refl, subst, sym, ⊎_elim}
use Rattle.std.specs.Prelude.{◌+◌, Contains}
use Rattle.wb_codec.specs.declared.datagram.Datagram.{Datagram}
use Rattle.wb_progress.specs.Turns.{IsNowAt, Terms, settled_by}
use Rattle.wb_member.specs.Judged.{is_full}
use Rattle.wb_laws_machines.specs.Machines.{At, Machine, drawn_by_all, happen, member_at, sent_by_all, state_at, ◌⊑◌, whole, part}
use Rattle.wb_laws_machines.specs.Maps.{HasSame, IsMap, Map, below}
use Rattle.wb_laws_machines.specs.Times.{AreInOrder, Clocked, ComesBy, KeepsTime, IsMapInTime, WasSentBy, time_of}
use Rattle.wb_laws_machines.proofs.Mapped.{below_behind, member_below, sound_at, state_below, taken_below}
use Rattle.wb_laws_machines.proofs.Traces.{behind_both, taken_behind}

-- ---- what comes before

behind_cases : {E : Type 0} {x y : E} {xs ys : List E} → (x ∷ xs) ⊑ (y ∷ ys) → ((x ≡ y) × (xs ≡ ys)) ⊎ ((x ∷ xs) ⊑ ys)
behind_cases whole = inl (refl, refl)
behind_cases (part b) = inr b

module _ {E : Type 0} where
  later_time : {older trace : List (At E)} → older ⊑ trace → AreInOrder trace → time_of older ≤ time_of trace
  later_time whole order = omega arith
  later_time (part {newer = newer} {e = e} behind) order =
      let a = later_time behind order.1 in
      let b : time_of newer ≤ e.time = order.0 in
      omega (arith, a, b)

  order_behind : {older trace : List (At E)} → older ⊑ trace → AreInOrder trace → AreInOrder older
  order_behind whole order = order
  order_behind (part behind) order = order_behind behind order.1

  -- one of these events, which have all one time, or one before
  in_happen : (time place : ℕ) (events : List E) (base : List (At E)) (f : At E) (before : List (At E)) → (f ∷ before) ⊑ happen time place events base → (f.time ≡ time) ⊎ ((f ∷ before) ⊑ base)
  in_happen time place [] base f before b = inr b
  in_happen time place (e ∷ events) base f before b = ⊎_elim
      (λ (is : f.time ≡ time). inl is)
      (λ (more : (f ∷ before) ⊑ (record { time = time; place = place; event = e } ∷ base)). ⊎_elim
      (λ (now : (f ≡ record { time = time; place = place; event = e }) × (before ≡ base)). inl (ap (λ (x : At E). x.time) now.0))
      (λ (then : (f ∷ before) ⊑ base). inr then)
      (behind_cases more))
      (in_happen time place events (record { time = time; place = place; event = e } ∷ base) f before b)

  happen_order : (time place : ℕ) (events : List E) (base : List (At E)) → time_of base ≤ time → AreInOrder base → AreInOrder (happen time place events base) × (time_of (happen time place events base) ≤ time)
  happen_order time place [] base le order = (order, le)
  happen_order time place (e ∷ events) base le order = happen_order time place events (record { time = time; place = place; event = e } ∷ base) (omega arith) (le, order)

-- ---- in real time

module _ {S E T F : Type 0} {up : Machine S E} {low : Machine T F} {via : Map S E T F} (o : IsMap up low via) {c : Clocked up} {b : Clocked low} (t : IsMapInTime {up = up} {low = low} via c b)
    (numbers : ℕ → ℕ) (terms : Terms) (trace : List (At E)) (keeps : KeepsTime up c numbers terms trace) where
  abbrev low_of : List (At E) → List (At F)
  low_of older = below up via numbers older

  abbrev s_at : At E → List (At E) → S
  s_at e older = state_at up numbers older e.place

  abbrev its : At E → List (At E) → At F
  its e older = record { time = e.time; place = e.place; event = t.one e.event (s_at e older) }

  -- below a steady event is one
  just_one : (e : At E) (older : List (At E)) → c.IsSteady e.event (s_at e older) → low_of (e ∷ older) ≡ its e older ∷ low_of older
  just_one e older steady = ap (λ (events : List F). happen e.time e.place events (low_of older)) (t.is_one e.event (s_at e older) steady)

  -- an event below, after `quiet`, is that of an event
  record Found (f : At F) (before : List (At F)) : Type 0 where
    e : At E
    older : List (At E)
    behind : (e ∷ older) ⊑ trace
    steady : c.IsSteady e.event (s_at e older)
    is : f ≡ its e older
    rest : before ≡ low_of older

  found_in : (part_of : List (At E)) → part_of ⊑ trace → (f : At F) (before : List (At F)) → (f ∷ before) ⊑ low_of part_of → terms.quiet < f.time → Found f before
  found_in [] behind f before bl quiet = absurd (none bl) where
    none : (f ∷ before) ⊑ [] → ⊥
    none x = elim x [ ]
  found_in (e ∷ older) behind f before bl quiet = ⊎_elim
      (λ (now : f.time ≡ e.time).
      let steady : c.IsSteady e.event (s_at e older) = keeps.steady e older behind (subst (λ (n : ℕ). terms.quiet < n) now quiet) in
      ⊎_elim
      (λ (is : (f ≡ its e older) × (before ≡ low_of older)). record { e = e; older = older; behind = behind; steady = steady; is = is.0; rest = is.1 })
      (λ (deeper : (f ∷ before) ⊑ low_of older). found_in older (behind_both (part whole) behind) f before deeper quiet)
      (behind_cases (subst (λ (low' : List (At F)). (f ∷ before) ⊑ low') (just_one e older steady) bl)))
      (λ (deeper : (f ∷ before) ⊑ low_of older). found_in older (behind_both (part whole) behind) f before deeper quiet)
      (in_happen e.time e.place (via.events e.event (s_at e older)) (low_of older) f before bl)

  found : (f : At F) (before : List (At F)) → (f ∷ before) ⊑ low_of trace → terms.quiet < f.time → Found f before
  found f before bl quiet = found_in trace whole f before bl quiet

  -- the state below it
  there : {f : At F} {before : List (At F)} (x : Found f before) (i : ℕ) → state_at low numbers before i ≡ via.state (state_at up numbers x.older i)
  there x i = ap (λ (tr : List (At F)). state_at low numbers tr i) x.rest ∙ state_below o numbers x.older i

  time_is : {f : At F} {before : List (At F)} (x : Found f before) → f.time ≡ x.e.time
  time_is x = ap (λ (y : At F). y.time) x.is

  late : {f : At F} {before : List (At F)} (x : Found f before) → terms.quiet < f.time → terms.quiet < x.e.time
  late x quiet = subst (λ (n : ℕ). terms.quiet < n) (time_is x) quiet

  taken_at : (e : At E) (older : List (At E)) → (e ∷ older) ⊑ trace → up.IsTaken e.event (s_at e older)
  taken_at e older behind = (taken_behind up numbers behind keeps.taken).0

  -- what is asked of an event and of the state before it goes from the one to the other
  abbrev Of : (F → T → Type 0) → At F → List (At F) → Type 0
  Of P f before = P f.event (state_at low numbers before f.place)

  carry : (P : F → T → Type 0) (f : At F) (before : List (At F)) (x : Found f before) → P (t.one x.e.event (s_at x.e x.older)) (via.state (s_at x.e x.older)) → Of P f before
  carry P f before x p =
      subst (λ (y : At F). P y.event (state_at low numbers before y.place)) (sym x.is)
      (subst (λ (st : T). P (t.one x.e.event (s_at x.e x.older)) st) (sym (there x x.e.place)) p)

  back : (P : F → T → Type 0) (f : At F) (before : List (At F)) (x : Found f before) → Of P f before → P (t.one x.e.event (s_at x.e x.older)) (via.state (s_at x.e x.older))
  back P f before x p =
      subst (λ (st : T). P (t.one x.e.event (s_at x.e x.older)) st) (there x x.e.place)
      (subst (λ (y : At F). P y.event (state_at low numbers before y.place)) x.is p)

  order_below : (part_of : List (At E)) → AreInOrder part_of → AreInOrder (low_of part_of) × (time_of (low_of part_of) ≤ time_of part_of)
  order_below [] order = (tt, omega arith)
  order_below (e ∷ older) order =
      let rest = order_below older order.1 in
      let le = rest.1 in
      let ge : time_of older ≤ e.time = order.0 in
      happen_order e.time e.place (via.events e.event (s_at e older)) (low_of older) (omega (arith, le, ge)) rest.0

  -- it sends what says the same
  sends_low : (e : At E) (older : List (At E)) → (e ∷ older) ⊑ trace → c.IsSteady e.event (s_at e older) → (v : Datagram) → Contains (up.sends e.event (s_at e older)) v
      → HasSame (low.sends (t.one e.event (s_at e older)) (via.state (s_at e older))) v
  sends_low e older behind steady v sends =
      let s : S = s_at e older in
      let w = o.says e.event s (sound_at o numbers older e.place) (taken_at e older behind) v sends in (
        w.0,
        subst (λ (vs : List Datagram). Contains vs w.0) (append-nil (low.sends (t.one e.event s) (via.state s)))
            (subst (λ (events : List F). Contains (sent_by_all low events (via.state s)) w.0) (t.is_one e.event s steady) w.1),
        w.2,
      )

  delivered : (f : At F) (before : List (At F)) (j : ℕ) (v : Datagram) → (f ∷ before) ⊑ low_of trace → Contains terms.live j → (f.place ≡ j → ⊥) → terms.quiet < f.time
      → Contains (low.sends f.event (state_at low numbers before f.place)) v → f.time + terms.delivery < time_of (low_of trace)
      → ComesBy low b numbers (low_of trace) (f ∷ before) j (f.time + terms.delivery) v
  delivered f before j v bl live other quiet sends ends =
      let x = found f before bl quiet in
      let s : S = s_at x.e x.older in
      let w = t.sent x.e.event s v x.steady (sound_at o numbers x.older x.e.place) (taken_at x.e x.older x.behind)
      (back (λ event st. Contains (low.sends event st) v) f before x sends) in
      let end : time_of (low_of trace) ≤ time_of trace = (order_below trace keeps.order).1 in
      let same = time_is x in
      let a = keeps.delivered x.e x.older j w.0 x.behind live (λ is. other (ap (λ (y : At F). y.place) x.is ∙ is)) (late x quiet) w.1 (omega (arith, ends, end, same)) in
      let after : x.e.time ≤ time_of a.older = later_time a.later (order_behind a.behind keeps.order).1 in
      let then : time_of a.older ≤ a.e.time = (order_behind a.behind keeps.order).0 in
      let begun : terms.quiet < x.e.time = late x quiet in
      let steady : c.IsSteady a.e.event (s_at a.e a.older) = keeps.steady a.e a.older a.behind (omega (arith, after, then, begun)) in
      let h = t.hears a.e.event (s_at a.e a.older) a.heard.0 steady a.heard.1 in
      record {
        e = its a.e a.older;
        older = low_of a.older;
        behind = subst (λ (tr : List (At F)). tr ⊑ low_of trace) (just_one a.e a.older steady) (below_behind o numbers a.behind);
        later = subst (λ (tr : List (At F)). tr ⊑ low_of a.older)
            (just_one x.e x.older x.steady ∙ ap (λ (y : At F). y ∷ low_of x.older) (sym x.is) ∙ ap (λ (tr : List (At F)). f ∷ tr) (sym x.rest)) (below_behind o numbers a.later);
        place = a.place;
        soon = (let le = a.soon in omega (arith, le, same));
        heard = (h.0, subst (λ (st : T). Contains (b.hears (t.one a.e.event (s_at a.e a.older)) st) h.0) (sym (state_below o numbers a.older a.e.place)) h.1, h.2 ∙ a.heard.2 ∙ w.2);
      }

  fresh : (f : At F) (before : List (At F)) (v : Datagram) → (f ∷ before) ⊑ low_of trace → settled_by terms < f.time
      → Contains (b.hears f.event (state_at low numbers before f.place)) v → WasSentBy low numbers before f.time terms.delivery v
  fresh f before v bl settled hears =
      let quiet : terms.quiet < f.time = omega (arith, settled) in
      let x = found f before bl quiet in
      let w = t.heard x.e.event (s_at x.e x.older) v x.steady (back (λ event st. Contains (b.hears event st) v) f before x hears) in
      let a = keeps.fresh x.e x.older w.0 x.behind (subst (λ (n : ℕ). settled_by terms < n) (time_is x) settled) w.1 in
      let same = time_is x in
      let soon = a.soon in
      let behind : (a.e ∷ a.older) ⊑ trace = behind_both a.behind (behind_both (part whole) x.behind) in
      let steady : c.IsSteady a.e.event (s_at a.e a.older) = keeps.steady a.e a.older behind (omega (arith, settled, same, soon)) in
      let y = sends_low a.e a.older behind steady a.sent.0 a.sent.1 in
      record {
        e = its a.e a.older;
        older = low_of a.older;
        behind = subst (λ (tr : List (At F)). tr ⊑ before) (just_one a.e a.older steady)
            (subst (λ (tr : List (At F)). low_of (a.e ∷ a.older) ⊑ tr) (sym x.rest) (below_behind o numbers a.behind));
        soon = omega (arith, same, soon);
        sent = (y.0, subst (λ (st : T). Contains (low.sends (t.one a.e.event (s_at a.e a.older)) st) y.0) (sym (state_below o numbers a.older a.e.place)) y.1, y.2 ∙ a.sent.2 ∙ w.2);
      }

  room : (older : List (At F)) (i : ℕ) → older ⊑ low_of trace → Contains terms.live i → terms.quiet < time_of older → is_full (member_at low numbers older i) ≡ false
  room [] i bl live quiet = absurd (omega (arith, quiet))
  room (f ∷ before) i bl live quiet =
      let x = found f before bl quiet in
      let same : f ∷ before ≡ low_of (x.e ∷ x.older) =
      ap (λ (y : At F). y ∷ before) x.is ∙ ap (λ (tr : List (At F)). its x.e x.older ∷ tr) x.rest ∙ sym (just_one x.e x.older x.steady) in
      ap (λ (tr : List (At F)). is_full (member_at low numbers tr i)) same
      ∙ ap is_full (member_below o numbers (x.e ∷ x.older) i)
      ∙ keeps.room (x.e ∷ x.older) i x.behind live (late x quiet)

  pub keeps_time_below : KeepsTime low b numbers terms (low_of trace)
  keeps_time_below = record {
    apart = keeps.apart;
    taken = taken_below o numbers trace keeps.taken;
    order = (order_below trace keeps.order).0;
    alone = λ f before bl quiet.
        let x = found f before bl quiet in
        subst (λ (y : At F). Contains terms.live y.place) (sym x.is) (keeps.alone x.e x.older x.behind (late x quiet));
    steady = λ f before bl quiet.
        let x = found f before bl quiet in
        carry (λ event st. b.IsSteady event st) f before x (t.steady x.e.event (s_at x.e x.older) x.steady);
    times = λ f before now bl quiet is.
        let x = found f before bl quiet in
        let s : S = s_at x.e x.older in
        subst (λ (y : At F). IsNowAt terms y.time y.place now) (sym x.is)
        (keeps.times x.e x.older now x.behind (late x quiet)
        (sym (t.moment x.e.event s x.steady) ∙ back (λ event st. low.moment event st ≡ Some now) f before x is));
    drawn = λ f before bl quiet.
        let x = found f before bl quiet in
        let s : S = s_at x.e x.older in
        carry (λ event st. low.drawn event st ≡ []) f before x
        (ap (λ (events : List F). drawn_by_all low events (via.state s)) (sym (t.is_one x.e.event s x.steady)) ∙ o.draws x.e.event s ∙ keeps.drawn x.e x.older x.behind (late x quiet));
    soon = λ f before i bl live quiet.
        let x = found f before bl quiet in
        let le = keeps.soon x.e x.older i x.behind live (late x quiet) in
        let due : b.due (state_at low numbers before i) ≡ c.due (state_at up numbers x.older i) = ap b.due (there x i) ∙ t.due (state_at up numbers x.older i) in
        let same = time_is x in
        omega (arith, le, due, same);
    room = room;
    delivered = delivered;
    fresh = fresh;
  }
