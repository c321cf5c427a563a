-- Hosts that keep to stated times are keepers that take turns in time.
use Rattle.std.proofs.Common.{◌≡◌, ℕ, ◌+◌, ◌-◌, ◌<◌, ◌≤◌, Bool, true, false, cond, List, [], ◌∷◌, ◌++◌, ◌∙◌, None, ap, append_assoc, arith, eqb-true, eq-eqb, inl, inr, max, refl, subst, sym, true≢false, ⊎_elim}
use Rattle.std.specs.Prelude.{◌⊎◌, ◌≢◌, Contains, is_some, nat_eq}
use Rattle.std.proofs.lemmas.List.Elements.{Contains-append_right}
use Rattle.std.proofs.Math.Bool.{or-true}
use Rattle.wb_names.specs.History.{IsHistory}
use Rattle.wb_names.specs.Values.{DrawopValue, NameValue}
use Rattle.wb_names.proofs.Listings.{Contains-cases, Contains-from_filter, Contains-here, Contains-none}
use Rattle.wb_codec.specs.declared.datagram.Datagram.{Datagram}
use Rattle.wb_codec.specs.declared.datagram.Datagram.TheVariants.{Draw, Request}
use Rattle.wb_recovery.specs.declared.timers.Timers.{Timers}
use Rattle.wb_recovery.specs.declared.tuning.Tuning.{Tuning}
use Rattle.wb_keeper.specs.Keeper.{KeeperCall, Arrive, GiveUp, GoOn, Hear, delay_to, holds, is_own, moment_at}
use Rattle.wb_keeper.specs.Ticks.{sent_by_tick, stopped_after}
use Rattle.wb_keeper.proofs.KeptCalls.{holds_from}
use Rattle.wb_progress.specs.Bounds.{AreAnswersNear, IsUnder}
use Rattle.wb_progress.specs.Keepers.{IsWithin, constants_at}
use Rattle.wb_progress.specs.Repairs.{timers_at}
use Rattle.wb_progress.specs.Turns.{Accepts, AreTurns, Desk, IsHeardAt, IsNowAt, IsOtherOrLacked, IsQuietBut, IsTurn, KeepTimeBut, Places, Terms, Turn, longest, settled_by}
use Rattle.wb_progress.specs.Turns as turning
use Rattle.wb_progress.proofs.Giving.{held_as}
use Rattle.wb_laws_sessions.proofs.Holding.{HeldNone, line_keeps, none_after}
use Rattle.wb_member.specs.Judged.{is_full}
use Rattle.wb_member.specs.Opened.{Opened, accepted, asks_for, heard, opened_with, present}
use Rattle.wb_member.specs.Random.{word_of}
use Rattle.wb_member.specs.declared.calls.Call.TheVariants as calls
use Rattle.wb_keeping.specs.Kept.{Line, Arrives, Says, Calls}
use Rattle.wb_keeping.specs.Performing.{after_line, sent_by_line}
use Rattle.wb_kept_progress.specs.Timed.{AllHoldBehind, AreInOrder, At, ComesTo, IsAnswerable, IsHeldBy, IsTimely, Start, WasSent, host_after, time_of, timers_after, until}
use Rattle.wb_kept_progress.proofs.Begun.{ticks_keep}
use Rattle.wb_kept_progress.proofs.Lines.{IsOf, line_grows, line_of, same_member}
use Rattle.wb_kept_progress.proofs.Lining.{by_line, by_part, desk_is, desk_of, order_is, over_join, places, time_is, turn_of, turns_join, turns_of, turns_over, until_is}
use Rattle.wb_kept_progress.proofs.PerLine.{IsMade, asks, draws, goes_by, is_made, line_did, line_moment}
use Rattle.wb_kept_progress.proofs.Repairs.{taken_in}
use Rattle.wb_progress.proofs.Parts.{before_end, in_past, order_of}

module _ (hosts : ℕ → Start) where
  abbrev start : ℕ → Opened
  start i = opened_with (hosts i).constants (hosts i).number (hosts i).cells (hosts i).seed

  -- what each line keeps, and what the opening has, each host has
  at_each : (P : ℕ → Opened → Type 0) → ((i : ℕ) → P i (start i)) → ((i : ℕ) (line : Line) (host : Opened) → P i host → P i (after_line line host)) → (trace : List (At Line)) (i : ℕ) → P i (host_after hosts trace i)
  at_each P first one [] i = ticks_keep (P i) (λ now host is. one i (Calls (calls.Tick now)) host is) (hosts i).moments (start i) (first i)
  at_each P first one (e ∷ older) i = from (nat_eq e.place i) (at_each P first one older i) where
    from : (b : Bool) → P i (host_after hosts older i) → P i (cond b (after_line e.event (host_after hosts older i)) (host_after hosts older i))
    from true rest = one i e.event (host_after hosts older i) rest
    from false rest = rest

  pub of_start : (trace : List (At Line)) (i : ℕ) → IsOf (start i) (host_after hosts trace i)
  of_start = at_each (λ i host. IsOf (start i) host) (λ i. same_member (start i)) (λ i line host rest.
      let o = line_of line host in record { number = o.number ∙ rest.number; cells = o.cells ∙ rest.cells; constants = o.constants ∙ rest.constants })

  history : (trace : List (At Line)) (i : ℕ) → IsHistory (host_after hosts trace i).is.held
  history = at_each (λ i host. IsHistory host.is.held) (λ i. λ j k d jk lt. absurd (omega arith)) (λ i line host rest. (line_grows line host).once rest)

  pub none_held : (trace : List (At Line)) (i : ℕ) → HeldNone (host_after hosts trace i).is
  none_held = at_each (λ i host. HeldNone host.is) (λ i. λ n h. refl) (λ i line host rest. line_keeps HeldNone none_after line host rest)

  pub timers_here : (trace : List (At Line)) (i : ℕ) (n : NameValue) → turning.timers_there (places hosts) (turns_of hosts trace) i n ≡ timers_after hosts trace i n
  timers_here trace i n =
      let h = host_after hosts trace i in
      ap (λ (d : Desk). timers_at (hosts i).number (hosts i).constants d.calls n) (desk_is hosts trace i)
      ∙ ap (λ (k : ℕ). timers_at k (hosts i).constants h.is.calls n) (sym (of_start trace i).number)
      ∙ ap (λ (t : Tuning). timers_at h.is.number t h.is.calls n) (sym (of_start trace i).constants)

  pub has_here : (trace : List (At Line)) (i : ℕ) (n : NameValue) → turning.has (places hosts) (turns_of hosts trace) i n ≡ holds (host_after hosts trace i).is.held n
  has_here trace i n = ap (λ (d : Desk). holds d.held n) (desk_is hosts trace i)

  -- what is held stays
  held_on : (line : Line) (host : Opened) (n : NameValue) → holds host.is.held n ≡ true → holds (after_line line host).is.held n ≡ true
  held_on line host n h = let d = held_as host.is.held n h in holds_from (after_line line host).is.held n d.0 ((line_grows line host).kept d.0 d.1) d.2

  pub held_later : (middle part : List (At Line)) (i : ℕ) (n : NameValue) → holds (host_after hosts part i).is.held n ≡ true → holds (host_after hosts (middle ++ part) i).is.held n ≡ true
  held_later [] part i n h = h
  held_later (e ∷ middle) part i n h = from (nat_eq e.place i) (held_later middle part i n h) where
    from : (b : Bool) → holds (host_after hosts (middle ++ part) i).is.held n ≡ true → holds (cond b (after_line e.event (host_after hosts (middle ++ part) i)) (host_after hosts (middle ++ part) i)).is.held n ≡ true
    from true rest = held_on e.event (host_after hosts (middle ++ part) i) n rest
    from false rest = rest

  pub here_after : (older : List (At Line)) (e : At Line) → host_after hosts (e ∷ older) e.place ≡ after_line e.event (host_after hosts older e.place)
  here_after older e = ap (λ (b : Bool). cond b (after_line e.event (host_after hosts older e.place)) (host_after hosts older e.place)) (eq-eqb e.place e.place refl)

  -- the call of a turn is that of its line
  pub made : (older : List (At Line)) (e : At Line) (call : KeeperCall) → Accepts (places hosts) (turns_of hosts older) (turn_of hosts older e) call → IsMade (host_after hosts older e.place) e.event call
  made older e call accepts = is_made e.event (host_after hosts older e.place) call (accepts ∙ ap (λ (d : Desk). call ∷ d.calls) (desk_is hosts older e.place))

-- ---- the moment of a host

pub split_back : (trace front part : List (At Line)) (e : At Line) → trace ≡ front ++ e ∷ part → trace ≡ (front ++ e ∷ []) ++ part
split_back trace front part e split = split ∙ sym (append_assoc front (e ∷ []) part)

-- what a clock may tell
pub record KeepClocks (hosts : ℕ → Start) (terms : Terms) (trace : List (At Line)) : Type 0 where
  pub order : AreInOrder trace
  pub begun : (i : ℕ) → Contains terms.live i → present (host_after hosts [] i) + terms.lag i ≤ terms.quiet
  pub times : (newer older : List (At Line)) (e : At Line) (now : ℕ) → trace ≡ newer ++ e ∷ older → Contains terms.live e.place → e.event ≡ Calls (calls.Tick now) → IsNowAt terms e.time e.place now

pub clock_by : (hosts : ℕ → Start) (terms : Terms) (trace : List (At Line)) → KeepClocks hosts terms trace → (front part : List (At Line)) (i : ℕ) → trace ≡ front ++ part → Contains terms.live i
    → present (host_after hosts part i) + terms.lag i ≤ max (time_of part) terms.quiet
clock_by hosts terms trace keep front [] i split live = let begun = keep.begun i live in omega (arith, begun)
clock_by hosts terms trace keep front (e ∷ older) i split live = from (nat_eq e.place i) refl (clock_by hosts terms trace keep (front ++ e ∷ []) older i (split_back trace front older e split) live) where
  order : AreInOrder (e ∷ older)
  order = order_of front (e ∷ older) (subst AreInOrder split keep.order)

  Early : Opened → Type 0
  Early h = present h + terms.lag i ≤ max e.time terms.quiet

  from : (b : Bool) → nat_eq e.place i ≡ b → present (host_after hosts older i) + terms.lag i ≤ max (time_of older) terms.quiet → Early (cond b (after_line e.event (host_after hosts older i)) (host_after hosts older i))
  from false other rest = let o = order.0 in omega (arith, rest, o)
  from true same rest = ⊎_elim
      (λ (s : present (after_line e.event (host_after hosts older i)) ≡ present (host_after hosts older i)). let o = order.0 in omega (arith, s, rest, o))
      (λ (t : (now : ℕ) × (e.event ≡ Calls (calls.Tick now)) × (present (after_line e.event (host_after hosts older i)) ≡ now)).
      let at : IsNowAt terms e.time i t.0 = subst (λ (k : ℕ). IsNowAt terms e.time k t.0) (eqb-true e.place i same) (keep.times front older e t.0 split (subst (Contains terms.live) (sym (eqb-true e.place i same)) live) t.1) in
      let ahead = at.not_ahead in
      let is = t.2 in
      omega (arith, is, ahead))
      (line_moment e.event (host_after hosts older i))

-- ---- a timely trace

module _ (hosts : ℕ → Start) (terms : Terms) (trace : List (At Line)) (timely : IsTimely hosts terms trace) where
  abbrev at : Places
  at = places hosts

  abbrev all : List (At Turn)
  all = turns_of hosts trace

  pub split_part : (front part : List (At Line)) (e : At Line) → trace ≡ front ++ e ∷ part → trace ≡ (front ++ e ∷ []) ++ part
  split_part front part e split = split_back trace front part e split

  -- ---- its moment

  pub clock : (front part : List (At Line)) (i : ℕ) → trace ≡ front ++ part → Contains terms.live i → present (host_after hosts part i) + terms.lag i ≤ max (time_of part) terms.quiet
  clock front part i split live = clock_by hosts terms trace (record { order = timely.order; begun = timely.begun; times = timely.times }) front part i split live

  -- a call from `quiet` on goes by short delays
  within : (front older : List (At Line)) (e : At Line) (call : KeeperCall) → trace ≡ front ++ e ∷ older → Contains terms.live e.place → terms.quiet < e.time → IsMade (host_after hosts older e.place) e.event call
      → IsWithin terms.far (longest terms) (hosts e.place).number (hosts e.place).constants call (host_after hosts older e.place).is.calls
  within front older e call split live late made = record {
    delays = λ uses source. subst (λ (k : ℕ). delay_to k h.is.calls source ≤ terms.far) member.number (timely.delays.goes front older e source split live late (goes_by h e.event call made uses));
    constants =
        subst (λ (k : ℕ). IsUnder (longest terms) (constants_at k (hosts e.place).constants h.is.calls)) member.number
        (subst (λ (t : Tuning). IsUnder (longest terms) (constants_at h.is.number t h.is.calls)) member.constants
        (timely.tuned (front ++ e ∷ []) older e.place (split_part front older e split) live));
  } where
    h : Opened
    h = host_after hosts older e.place

    member : IsOf (start hosts e.place) h
    member = of_start hosts older e.place

  -- ---- one turn

  module _ (front back : List (At Line)) (e : At Line) (split : trace ≡ front ++ e ∷ back) where
    abbrev q : ℕ
    q = e.place

    abbrev h : Opened
    h = host_after hosts back q

    abbrev x : At Turn
    x = turn_of hosts back e

    was : turning.desk_at at (turns_of hosts back) q ≡ desk_of h
    was = desk_is hosts back q

    called : (x.event.desk.calls ≡ (turning.desk_at at (turns_of hosts back) q).calls) ⊎ ((call : KeeperCall) × Accepts (places hosts) (turns_of hosts back) x call)
    called = ⊎_elim
        (λ (s : (after_line e.event h).is.calls ≡ h.is.calls). inl (s ∙ sym (ap (λ (d : Desk). d.calls) was)))
        (λ (c : (call : KeeperCall) × ((after_line e.event h).is.calls ≡ call ∷ h.is.calls) × IsMade h e.event call). inr (c.0, c.1 ∙ ap (λ (d : Desk). c.0 ∷ d.calls) (sym was)))
        (line_did e.event h)

    stops : (now : ℕ) (words : List ℕ) (stopped : List NameValue) → Accepts (places hosts) (turns_of hosts back) x (GoOn now words stopped) → stopped ≡ stopped_after (hosts q).number (hosts q).constants (turning.desk_at at (turns_of hosts back) q).calls (turning.desk_at at (turns_of hosts back) q).held
    stops now words stopped accepts =
        let m = made hosts back e (GoOn now words stopped) accepts in
        m.1
        ∙ ap (λ (k : ℕ). stopped_after k h.is.constants h.is.calls h.is.held) (of_start hosts back q).number
        ∙ ap (λ (t : Tuning). stopped_after (hosts q).number t h.is.calls h.is.held) (of_start hosts back q).constants
        ∙ ap (λ (d : Desk). stopped_after (hosts q).number (hosts q).constants d.calls d.held) (sym was)

    sends_due : (now : ℕ) (words : List ℕ) (stopped : List NameValue) → Accepts (places hosts) (turns_of hosts back) x (GoOn now words stopped)
        → (v : Datagram) → Contains (sent_by_tick (hosts q).number (hosts q).constants (turning.desk_at at (turns_of hosts back) q).calls (turning.desk_at at (turns_of hosts back) q).held now) v → Contains x.event.sent v
    sends_due now words stopped accepts v c =
        let m = made hosts back e (GoOn now words stopped) accepts in
        let same : sent_by_tick (hosts q).number (hosts q).constants (turning.desk_at at (turns_of hosts back) q).calls (turning.desk_at at (turns_of hosts back) q).held now ≡ sent_by_tick h.is.number h.is.constants h.is.calls h.is.held now =
        ap (λ (d : Desk). sent_by_tick (hosts q).number (hosts q).constants d.calls d.held now) was
        ∙ ap (λ (k : ℕ). sent_by_tick k (hosts q).constants h.is.calls h.is.held now) (sym (of_start hosts back q).number)
        ∙ ap (λ (t : Tuning). sent_by_tick h.is.number t h.is.calls h.is.held now) (sym (of_start hosts back q).constants) in
        subst (λ (line : Line). Contains (sent_by_line line h) v) (sym m.0) (subst (λ (ds : List Datagram). Contains ds v) same c)

    is_turn : Contains terms.live q → IsTurn at terms (turns_of hosts back) x
    is_turn live = record {
      called = called;
      kept = λ m held. held_on hosts e.event h m (sym (has_here hosts back q m) ∙ held);
      heard = λ now asker word m held accepts.
          let made_it = made hosts back e (Hear now (Request asker m) word held) accepts in
          (subst (IsNowAt terms e.time e.place) (sym made_it.1) (timely.behind front back e (Request asker m) split live made_it.0), made_it.2 ∙ sym (has_here hosts back q m));
      stops = stops;
      sends = sends_due;
    }

    module _ (late : terms.quiet < e.time) where
      held : (d : DrawopValue) → Contains x.event.sent (Draw d) → turning.has at (turns_of hosts back) q d.name ≡ true
      held d c = has_here hosts back q d.name ∙ ⊎_elim
          (λ (k : Contains h.is.held d). holds_from h.is.held d.name d k refl)
          (λ (s : (y : DrawopValue) × (e.event ≡ Says (Draw y))). absurd ((timely.quiet front back e split late).drawn s.0 s.1))
          (draws e.event h d c)

      asked : (asker : ℕ) (m : NameValue) → Contains x.event.sent (Request asker m) → (asker ≡ (hosts q).number) × (turning.has at (turns_of hosts back) q m ≡ false)
      asked asker m c = ⊎_elim
          (λ (g : (asker ≡ h.is.number) × (holds h.is.held m ≡ false)). (g.0 ∙ (of_start hosts back q).number, has_here hosts back q m ∙ g.1))
          (λ (s : (a : ℕ) × (k : NameValue) × (e.event ≡ Says (Request a k))). absurd ((timely.quiet front back e split late).said s.0 s.1 s.2))
          (asks h (none_held hosts back q) asker m e.event c)

      -- what is given up while a request timer stands for it is not held
      lacked : (m : NameValue) → true ≡ asks_for m h → holds h.is.held m ≡ false
      lacked m asked = from (holds h.is.held m) refl where
        from : (b : Bool) → holds h.is.held m ≡ b → b ≡ false
        from false e = refl
        from true e = absurd (true≢false (asked ∙ ap is_some (none_held hosts back q m e)))

      is_quiet : (n : NameValue) → IsQuietBut (IsOtherOrLacked at n) at (turns_of hosts back) x
      is_quiet n = record {
        goes_on = λ now m accepts same. has_here hosts back q n ∙ subst (λ (k : NameValue). holds h.is.held k ≡ false) same (lacked m (made hosts back e (GiveUp now m true) accepts).2);
        held = held;
        asked = asked;
      }

      -- ---- what it sends comes

      comes : (newest later : List (At Line)) (i : ℕ) (d : DrawopValue) → trace ≡ newest ++ later → Contains terms.live i → Contains x.event.sent (Draw d) → e.time + terms.delivery < time_of later → holds (host_after hosts later i).is.held d.name ≡ true
      comes newest later i d is_part live sent lt = from (nat_eq q i) refl where
        whole : AreInOrder (newest ++ later)
        whole = subst AreInOrder is_part timely.order

        end_is : time_of later ≤ time_of trace
        end_is = subst (λ (t : List (At Line)). time_of later ≤ time_of t) (sym is_part) (before_end newest later whole)

        own : q ≡ i → holds (host_after hosts later i).is.held d.name ≡ true
        own same =
            let p = in_past newest later front (e ∷ back) (sym is_part ∙ split) whole (omega (arith, lt)) in
            let there : holds (host_after hosts back q).is.held d.name ≡ true = sym (has_here hosts back q d.name) ∙ held d sent in
            let here : holds (host_after hosts (e ∷ back) q).is.held d.name ≡ true = held_later hosts (e ∷ []) back q d.name there in
            subst (λ (t : List (At Line)). holds (host_after hosts t i).is.held d.name ≡ true) (sym p.1) (held_later hosts p.0 (e ∷ back) i d.name (subst (λ (k : ℕ). holds (host_after hosts (e ∷ back) k).is.held d.name ≡ true) same here))

        came : ComesTo front i (e.time + terms.delivery) (Arrives d) → holds (host_after hosts later i).is.held d.name ≡ true
        came c =
            let base : List (At Line) = c.between ++ e ∷ back in
            let there : trace ≡ c.later ++ c.arrival ∷ base = split ∙ ap (λ (t : List (At Line)). t ++ e ∷ back) c.split ∙ append_assoc c.later (c.arrival ∷ c.between) (e ∷ back) in
            let order = order_of c.later (c.arrival ∷ base) (subst AreInOrder there timely.order) in
            let b = before_end c.between (e ∷ back) order.1 in
            let o = order.0 in
            let soon = c.soon in
            let g = host_after hosts base c.arrival.place in
            let room = timely.room c.later base c.arrival d there (omega (arith, late, b, o)) c.is in
            let has : holds (after_line (Arrives d) g).is.held d.name ≡ true = arrives g d room in
            let here : holds (host_after hosts (c.arrival ∷ base) c.arrival.place).is.held d.name ≡ true =
            ap (λ (k : Opened). holds k.is.held d.name) (here_after hosts base c.arrival) ∙ ap (λ (line : Line). holds (after_line line g).is.held d.name) c.is ∙ has in
            let p = in_past newest later c.later (c.arrival ∷ base) (sym is_part ∙ there) whole (omega (arith, soon, lt)) in
            subst (λ (t : List (At Line)). holds (host_after hosts t i).is.held d.name ≡ true) (sym p.1) (held_later hosts p.0 (c.arrival ∷ base) i d.name (subst (λ (k : ℕ). holds (host_after hosts (c.arrival ∷ base) k).is.held d.name ≡ true) c.place here)) where
              arrives : (g : Opened) (d : DrawopValue) → (holds g.is.held d.name ≡ true) ⊎ (is_full g ≡ false) → holds (after_line (Arrives d) g).is.held d.name ≡ true
              arrives g d room = by (holds g.is.held d.name) refl room where
                by : (b : Bool) → holds g.is.held d.name ≡ b → (holds g.is.held d.name ≡ true) ⊎ (is_full g ≡ false) → holds (after_line (Arrives d) g).is.held d.name ≡ true
                by true k r = held_on hosts (Arrives d) g d.name k
                by false k (inl r) = absurd (true≢false (sym r ∙ k))
                by false k (inr r) = holds_from (after_line (Arrives d) g).is.held d.name d (subst (λ (held : List DrawopValue). Contains held d) (sym (taken_in g d k r)) (last g.is.held)) refl where
                  last : (held : List DrawopValue) → Contains (held ++ d ∷ []) d
                  last held = Contains-append_right held (d ∷ []) d (Contains-here d [])

        held_by : IsHeldBy hosts front (e ∷ back) i (e.time + terms.delivery) d.name → holds (host_after hosts later i).is.held d.name ≡ true
        held_by c =
            let base : List (At Line) = c.between ++ e ∷ back in
            let there : trace ≡ c.later ++ base = split ∙ ap (λ (t : List (At Line)). t ++ e ∷ back) c.split ∙ append_assoc c.later c.between (e ∷ back) in
            let soon = c.soon in
            let p = in_past newest later c.later base (sym is_part ∙ there) whole (omega (arith, soon, lt)) in
            subst (λ (t : List (At Line)). holds (host_after hosts t i).is.held d.name ≡ true) (sym p.1) (held_later hosts p.0 base i d.name c.held)

        from : (b : Bool) → nat_eq q i ≡ b → holds (host_after hosts later i).is.held d.name ≡ true
        from true same = own (eqb-true q i same)
        from false other = ⊎_elim came held_by (timely.drawops front back e i d split live (λ same. true≢false (sym (eq-eqb q i same) ∙ other)) late sent (let k = end_is in omega (arith, lt, k)))

      is_heard : (asker : ℕ) (m : NameValue) (j : ℕ) → ComesTo front j (e.time + terms.delivery) (Calls (calls.Hear (Request asker m))) → IsHeardAt at (turns_over hosts front (e ∷ back)) x (turns_of hosts back) j terms.delivery asker m
      is_heard asker m j c =
          let base : List (At Line) = c.between ++ e ∷ back in
          let g = host_after hosts base c.arrival.place in
          let call = Hear (present g) (Request asker m) (word_of g.random) (holds g.is.held m) in
          let takes : (after_line c.arrival.event g).is.calls ≡ call ∷ g.is.calls = ap (λ (line : Line). (after_line line g).is.calls) c.is ∙ hears_it g asker m in
          let accepts : Accepts (places hosts) (turns_of hosts base) (turn_of hosts base c.arrival) call = takes ∙ ap (λ (d : Desk). call ∷ d.calls) (sym (desk_is hosts base c.arrival.place)) in
          record {
            later = turns_over hosts c.later (c.arrival ∷ base);
            arrival = turn_of hosts base c.arrival;
            between = turns_over hosts c.between (e ∷ back);
            split = ap (λ (t : List (At Line)). turns_over hosts t (e ∷ back)) c.split ∙ over_join hosts c.later (c.arrival ∷ c.between) (e ∷ back);
            place = c.place;
            soon = c.soon;
            now = present g;
            word = word_of g.random;
            held = holds g.is.held m;
            heard = subst (λ (t : List (At Turn)). Accepts at t (turn_of hosts base c.arrival) call) (turns_join hosts c.between (e ∷ back)) accepts;
          } where
            hears_it : (g : Opened) (asker : ℕ) (m : NameValue) → (after_line (Calls (calls.Hear (Request asker m))) g).is.calls ≡ Hear (present g) (Request asker m) (word_of g.random) (holds g.is.held m) ∷ g.is.calls
            hears_it g asker m = ap (λ (b : Bool). (cond b (heard (Request asker m) g) g).is.calls) (or-true (is_own g.is.number (Request asker m)))

    -- ---- what comes was sent

    module _ (late : settled_by terms < e.time) where
      was_sent : (v : Datagram) → WasSent hosts back e.time terms.delivery v → turning.WasSent (x ∷ turns_of hosts back) e.time terms.delivery v
      was_sent v p = record {
        newer = x ∷ turns_over hosts p.newer (p.e ∷ p.before);
        e = turn_of hosts p.before p.e;
        older = turns_of hosts p.before;
        split = ap (λ (t : List (At Turn)). x ∷ t) (ap (turns_of hosts) p.split ∙ turns_join hosts p.newer (p.e ∷ p.before));
        soon = p.soon;
        sent = p.sent;
      }

      request_sent : (now asker word : ℕ) (held : Bool) (m : NameValue) → Accepts (places hosts) (turns_of hosts back) x (Hear now (Request asker m) word held) → turning.WasSent (x ∷ turns_of hosts back) e.time terms.delivery (Request asker m)
      request_sent now asker word held m accepts = was_sent (Request asker m) (timely.fresh_requests front back e asker m split late (made hosts back e (Hear now (Request asker m) word held) accepts).0)

      drawop_sent : (now : ℕ) (names : List NameValue) (m : NameValue) → Accepts (places hosts) (turns_of hosts back) x (Arrive now names) → Contains names m → (d : DrawopValue) × (d.name ≡ m) × turning.WasSent (x ∷ turns_of hosts back) e.time terms.delivery (Draw d)
      drawop_sent now names m accepts c =
          let made_it = made hosts back e (Arrive now names) accepts in
          let d : DrawopValue = made_it.0 in
          let all_names = Contains-from_filter (holds (accepted d h).is.held) (d.name ∷ []) m (subst (λ (l : List NameValue). Contains l m) made_it.3 c) in
          let named : d.name ≡ m = ⊎_elim (λ (same : d.name ≡ m). same) (λ (none : Contains [] m). absurd (Contains-none m none)) (Contains-cases d.name m [] all_names.0) in (
            d,
            named,
            ⊎_elim
                (λ (is : e.event ≡ Arrives d). was_sent (Draw d) (timely.fresh_drawops front back e d split late is))
                (λ (is : e.event ≡ Says (Draw d)). absurd ((timely.quiet front back e split (omega (arith, late))).drawn d is))
                made_it.1,
          )

  -- ---- all turns

  time_of_lines : (part : List (At Line)) (t : ℕ) → t < turning.time_of (turns_of hosts part) → t < time_of part
  time_of_lines part t lt = subst (λ (k : ℕ). t < k) (time_is hosts part) lt

  are : AreTurns at terms all
  are = record {
    apart = λ i j live_i live_j same. timely.distinct i j same;
    turn = λ newer older x same. by_line hosts trace (λ newer x older. Contains terms.live x.place → IsTurn at terms older x) (λ front back e split live. is_turn front back e split live) newer older x same;
    within = λ newer older x call same live late accepts.
        by_line hosts trace (λ newer x older. Contains terms.live x.place → terms.quiet < x.time → Accepts at older x call → IsWithin terms.far (longest terms) (at.me x.place) (at.constants x.place) call (turning.desk_at at older x.place).calls)
        (λ front back e split live late accepts. subst (λ (d : Desk). IsWithin terms.far (longest terms) (hosts e.place).number (hosts e.place).constants call d.calls) (sym (desk_is hosts back e.place))
        (within front back e call split live late (made hosts back e call accepts))) newer older x same live late accepts;
    near = λ i n live. subst (AreAnswersNear (longest terms) terms.far (terms.quiet - terms.lag i))
        (sym (ap (λ (t : List (At Turn)). turning.timers_there at t i n) (until_is hosts terms.quiet trace) ∙ timers_here hosts (until terms.quiet trace) i n)) (timely.delays.answers i n live);
    clock = λ newer older i same live. by_part hosts trace (λ newer older. moment_at (turning.desk_at at older i).calls + terms.lag i ≤ max (turning.time_of older) terms.quiet)
        (λ front back split. subst (λ (k : ℕ). moment_at (turning.desk_at at (turns_of hosts back) i).calls + terms.lag i ≤ max k terms.quiet) (sym (time_is hosts back)) (subst (λ (d : Desk). moment_at d.calls + terms.lag i ≤ max (time_of back) terms.quiet) (sym (desk_is hosts back i)) (clock front back i split live))) newer older same;
    history = λ newer older i same live. by_part hosts trace (λ newer older. IsHistory (turning.desk_at at older i).held) (λ front back split. subst (λ (d : Desk). IsHistory d.held) (sym (desk_is hosts back i)) (history hosts back i)) newer older same;
    lacking = λ newer older i m same live. by_part hosts trace (λ newer older. turning.has at older i m ≡ true → (turning.timers_there at older i m).ask ≡ None)
        (λ front back split held. ap (λ (s : Timers). s.ask) (timers_here hosts back i m) ∙ none_held hosts back i m (sym (has_here hosts back i m) ∙ held)) newer older same;
  }

  pub keep_time : (n : NameValue) → KeepTimeBut (IsOtherOrLacked at n) at terms all
  keep_time n = record {
    order = order_is hosts trace timely.order;
    are = are;
    alone = λ newer older x same. by_line hosts trace (λ newer x older. terms.quiet < x.time → Contains terms.live x.place) timely.alone newer older x same;
    quiet = λ newer older x same. by_line hosts trace (λ newer x older. terms.quiet < x.time → IsQuietBut (IsOtherOrLacked at n) at older x) (λ front back e split late. is_quiet front back e split late n) newer older x same;
    delivered = record {
      drawops = λ newer older x d same. by_line hosts trace (λ newer x older. terms.quiet < x.time → Contains x.event.sent (Draw d) → turning.AllHoldBehind at terms all (x.time + terms.delivery) d.name)
          (λ front back e split late sent. λ newest later i part lt live.
          by_part hosts trace (λ newest later. e.time + terms.delivery < turning.time_of later → turning.has at later i d.name ≡ true)
          (λ newest later is lt. has_here hosts later i d.name ∙ comes front back e split late newest later i d is live sent (time_of_lines later (e.time + terms.delivery) lt)) newest later part lt) newer older x same;
      requests = λ newer older x asker m j same. by_line hosts trace
          (λ newer x older. terms.quiet < x.time → Contains x.event.sent (Request asker m) → Contains terms.live j → x.place ≢ j → turning.has at older j m ≡ true → x.time + terms.delivery < turning.time_of all → IsHeardAt at newer x older j terms.delivery asker m)
          (λ front back e split late sent live other held soon. is_heard front back e split late asker m j (timely.requests front back e j asker m split live other late sent (sym (has_here hosts back j m) ∙ held) (time_of_lines trace (e.time + terms.delivery) soon))) newer older x same;
    };
    fresh = record {
      drawops = λ newer older x now names m same late accepts c.
          by_line hosts trace (λ newer x older. settled_by terms < x.time → Accepts at older x (Arrive now names) → (d : DrawopValue) × (d.name ≡ m) × turning.WasSent (x ∷ older) x.time terms.delivery (Draw d))
          (λ front back e split late accepts. drawop_sent front back e split late now names m accepts c) newer older x same late accepts;
      requests = λ newer older x now asker word held m same late accepts.
          by_line hosts trace (λ newer x older. settled_by terms < x.time → Accepts at older x (Hear now (Request asker m) word held) → turning.WasSent (x ∷ older) x.time terms.delivery (Request asker m))
          (λ front back e split late accepts. request_sent front back e split late now asker word held m accepts) newer older x same late accepts;
    };
    soon = λ newer older x i m same live. by_line hosts trace (λ newer x older. terms.quiet < x.time → turning.AreNotOverdue (turning.timers_there at older i m) x.time (terms.lag i + terms.late))
        (λ front back e split late. subst (λ (s : Timers). turning.AreNotOverdue s e.time (terms.lag i + terms.late)) (sym (timers_here hosts back i m)) (timely.soon front back e i m split live late)) newer older x same;
  }

  -- ---- what follows

  pub answerable : (n : NameValue) → IsAnswerable hosts terms trace n → turning.IsAnswerable at terms all n
  answerable n a = (a.0, a.1, ap (λ (t : List (At Turn)). turning.has at t a.0 n) (until_is hosts (settled_by terms) trace) ∙ has_here hosts (until (settled_by terms) trace) a.0 n ∙ a.2)

  pub holding : (n : NameValue) (time : ℕ) → turning.AllHoldBehind at terms all time n → AllHoldBehind hosts terms trace time n
  holding n time h newer later i split lt live =
      sym (has_here hosts later i n) ∙ h (turns_over hosts newer later) (turns_of hosts later) i (ap (turns_of hosts) split ∙ turns_join hosts newer later) (subst (λ (k : ℕ). time < k) (sym (time_is hosts later)) lt) live

  pub joined : (newer older : List (At Line)) → trace ≡ newer ++ older → all ≡ turns_over hosts newer older ++ turns_of hosts older
  joined newer older split = ap (turns_of hosts) split ∙ turns_join hosts newer older
