-- While nothing new comes, a host does not ask for long for what another holds: what it asks for comes, or is given up, and then it asks for
-- something greater that another holds.
use Rattle.std.proofs.Common.{◌≡◌, ℕ, zero, suc, ◌+◌, ◌-◌, ◌*◌, ◌<◌, ◌≤◌, Bool, true, false, List, [], ◌∷◌, ◌++◌, ◌∙◌, Option, Some, ap, append_assoc, arith, inl, inr, length, max, mul-le-mul, refl, subst, sym, true≢false, ⊎_elim}
use Rattle.std.specs.Prelude.{◌⊎◌, ◌≢◌, Contains, IfSome, nat_le}
use Rattle.std.specs.declared.cmp.Ordering.TheVariants.{Less}
use Rattle.std.proofs.lemmas.Bool.{leb-false, leb-true}
use Rattle.wb_names.specs.Orders.{name_cmp}
use Rattle.wb_names.specs.Values.{DrawopValue, NameValue}
use Rattle.wb_names.proofs.Listings.{Contains-cases, Contains-here, Contains-none}
use Rattle.wb_names.proofs.Orders.{name_total}
use Rattle.wb_recovery.specs.declared.timers.AskTimer.{AskTimer}
use Rattle.wb_recovery.specs.declared.tuning.Tuning.{Tuning}
use Rattle.wb_progress.specs.InTime.{AreApart, known_from, repairing}
use Rattle.wb_progress.specs.Turns.{Terms, settled_by}
use Rattle.wb_progress.proofs.NamesApart.{most_are}
use Rattle.wb_member.specs.Judged.{holds, level}
use Rattle.wb_member.specs.Opened.{Opened}
use Rattle.wb_member.specs.declared.calls.Call.TheVariants.{Tune, Ask, Stop}
use Rattle.wb_keeper.specs.Keeper.{holds as history_holds}
use Rattle.wb_keeping.specs.Kept.{Calls}
use Rattle.wb_keeping.specs.Laws.{KeptLine, doing_of}
use Rattle.wb_keeping.specs.Performing.{sees, view_of}
use Rattle.wb_policy.specs.Wanting.{oldest}
use Rattle.wb_policy.specs.declared.wanting.AskedName.{AskedName}
use Rattle.wb_kept_progress.specs.Promises.{GivesUpForAnother, Holds, IsForAnother, IsLate, IsStill, host_then, timer_then}
use Rattle.wb_kept_progress.specs.Sessions.{Opening}
use Rattle.wb_kept_progress.specs.Timed.{AllHoldBehind, AreInOrder, At, IsGivenUp, IsTimely, Start, TellTimes, TimerLeadsOrIsGivenUp, performed, start_of, time_of, until}
use Rattle.wb_kept_progress.specs.Whole.{IsHeldBySome, IsLackedAt, Lack, NewAreKept, Sizes, request_span, there}
use Rattle.wb_kept_progress.proofs.AskedComes.{asked_comes}
use Rattle.wb_kept_progress.proofs.AskedSince.{WasAsked, was_asked}
use Rattle.wb_kept_progress.proofs.CallParts.{host_is, lacked_until, lines_order}
use Rattle.wb_kept_progress.proofs.Crowds.{none_below}
use Rattle.wb_kept_progress.proofs.KeptInTime.{front_of, time_is}
use Rattle.wb_kept_progress.proofs.Moments.{IsTuned, moment_of}
use Rattle.wb_kept_progress.proofs.Timely.{held_later, none_held}
use Rattle.wb_kept_progress.proofs.TurnsHad.{AreOrdinary, Had, had}
use Rattle.wb_kept_progress.proofs.WholeParts.{AsksHaveCause, HasTurn, IsOfCall, LinesHaveCalls, PerformedIsTimely, StillnessEnds, StopsHaveCause, TimersAreYoung, does}
use Rattle.wb_kept_progress.proofs.WindowParts.{IsInWindow, in_window, line_by, told_in}
use Rattle.wb_kept_progress.proofs.YoungestAsked.{Others, new_level, new_timer, others}
use Rattle.wb_kept_progress.proofs.CallLines.{among_call}
use Rattle.std.proofs.lemmas.Option.{none-some, same_Some}
use Rattle.std.proofs.Math.Nat.{le_refl}
use Rattle.wb_laws_sessions.proofs.Sending.{one_of}
use Rattle.wb_member.specs.Lines.{Line}
use Rattle.wb_progress.proofs.Parts.{before_end, two_parts, order_of, in_past}

-- what a call asks for that only changes constants
tunes_only : (constants : Tuning) (n : NameValue) → Contains (Calls (Tune constants) ∷ []) (Calls (Ask n)) → ⊥
tunes_only constants n c = let e = one_of (Calls (Tune constants)) (Calls (Ask n)) c in cc

few_turns : (from now span drift turns : ℕ) → from + span ≡ now → span + drift ≤ 60000000 → from + turns * 1000000 ≤ now + drift + 1000000 → turns ≤ 61
few_turns from now span drift turns is short few = omega (arith, is, short, few)

-- ---- a window in which nothing new comes

module _ (hosts : ℕ → Opening) (terms : Terms) (trace newest window base : List (At KeptLine)) (sizes : Sizes) (wait most i : ℕ) (timely_so : PerformedIsTimely) (are : Holds hosts terms trace sizes wait most) (still : IsStill hosts terms trace newest window base)
    (late_base : IsLate terms sizes wait base) (live : Contains terms.live i) where
  known : known_from terms + wait + repairing terms ≤ time_of base
  known = late_base.known

  abbrev starts : ℕ → Start
  starts j = start_of (hosts j)

  abbrev all : List (At Line)
  all = performed hosts trace

  abbrev whole : List (At KeptLine)
  whole = window ++ base

  abbrev lines : List (At Line)
  lines = performed hosts whole

  timely : IsTimely starts terms all
  timely = timely_so hosts terms trace are.session

  newest_lines : (front : List (At Line)) × (all ≡ front ++ lines)
  newest_lines = let f = front_of hosts newest whole in (f.0, ap (performed hosts) still.split ∙ f.1)

  part_of_all : (front back : List (At Line)) → lines ≡ front ++ back → all ≡ (newest_lines.0 ++ front) ++ back
  part_of_all front back split = newest_lines.1 ∙ ap (λ (l : List (At Line)). newest_lines.0 ++ l) split ∙ sym (append_assoc newest_lines.0 front back)

  order_whole : AreInOrder whole
  order_whole = order_of newest whole (subst AreInOrder still.split are.session.order)

  order_lines : AreInOrder lines
  order_lines = lines_order hosts whole order_whole

  order_back : (front back : List (At Line)) → lines ≡ front ++ back → AreInOrder back
  order_back front back split = order_of front back (subst AreInOrder split order_lines)

  settled : settled_by terms < time_of base
  settled = omega (arith, known)

  -- ---- what is asked for is lacked

  module _ (front back : List (At Line)) (split : lines ≡ front ++ back) (late : time_of base < time_of back) (n : NameValue) (ask : AskTimer) (stands : timer_then hosts back i n ≡ Some ask) where
    within : (middle : List (At Line)) × (back ≡ middle ++ performed hosts base)
    within =
        let g = front_of hosts window base in
        in_past front back g.0 (performed hosts base) (sym split ∙ g.1) (subst AreInOrder split order_lines) (subst (λ (t : ℕ). t < time_of back) (sym (time_is hosts base)) late)

    lacked_base : holds (there hosts base i).host n ≡ false
    lacked_base = ap (λ (h : Opened). holds h n) (sym (host_is hosts base i)) ∙ by (holds (host_then hosts (performed hosts base) i) n) refl where
      by : (b : Bool) → holds (host_then hosts (performed hosts base) i) n ≡ b → b ≡ false
      by false e = refl
      by true e =
          let later = held_later starts within.0 (performed hosts base) i n e in
          let held : holds (host_then hosts back i) n ≡ true = ap (λ (l : List (At Line)). holds (host_then hosts l i) n) within.1 ∙ later in
          absurd (none-some ask (sym (none_held starts back i n held) ∙ stands))

    lacked_whole : holds (host_then hosts lines i) n ≡ false
    lacked_whole =
        ap (λ (h : Opened). holds h n) (host_is hosts whole i)
        ∙ ap (λ (held : List DrawopValue). history_holds held n) (still.same [] window i refl live) ∙ lacked_base

    -- so it does not come by a time while the window goes on
    not_by : (time : ℕ) → AllHoldBehind starts terms all time n → time_of whole ≤ time
    not_by time comes = by (nat_le (time_of whole) time) refl where
      by : (b : Bool) → nat_le (time_of whole) time ≡ b → time_of whole ≤ time
      by true e = leb-true _ _ e
      by false e =
          let lt = leb-false _ _ e in
          absurd (true≢false (sym (comes newest_lines.0 lines i newest_lines.1 (subst (λ (t : ℕ). time < t) (sym (time_is hosts whole)) lt) live) ∙ lacked_whole))

    is_lacked : IsHeldBySome hosts terms trace n → IsLackedAt hosts terms trace (until (settled_by terms) all) (record { place = i; name = n })
    is_lacked held = (
      live,
      held,
      subst (λ (t : List (At KeptLine)). holds (host_then hosts (until (settled_by terms) (performed hosts t)) i) n ≡ false) (sym split_base)
          (lacked_until hosts (newest ++ window) base (settled_by terms) i n (subst AreInOrder split_base are.session.order) settled lacked_base),
    ) where
      split_base : trace ≡ (newest ++ window) ++ base
      split_base = still.split ∙ sym (append_assoc newest window base)

  -- ---- the calls of the window

  ordinary : (front part : List (At KeptLine)) → window ≡ front ++ part → AreOrdinary terms part
  ordinary front [] split = tt
  ordinary front (e ∷ part) split = ((told_in terms (newest ++ front) (part ++ base) e (subst (TellTimes terms) at are.session.times) (are.session.alone (newest ++ front) (part ++ base) e at late), (λ now page time op. are.session.drawn (newest ++ front) (part ++ base) e now page time op at late)), ordinary (front ++ e ∷ []) part (split ∙ sym (append_assoc front (e ∷ []) part))) where
    here : whole ≡ front ++ e ∷ (part ++ base)
    here = ap (λ (w : List (At KeptLine)). w ++ base) split ∙ append_assoc front (e ∷ part) base

    at : trace ≡ (newest ++ front) ++ e ∷ (part ++ base)
    at = still.split ∙ ap (λ (w : List (At KeptLine)). newest ++ w) here ∙ sym (append_assoc newest front (e ∷ (part ++ base)))

    late : terms.quiet < e.time
    late =
        let order = order_of front (e ∷ (part ++ base)) (subst AreInOrder here order_whole) in
        let first = order.0 in
        let end = before_end part base order.1 in
        let s = settled in
        omega (arith, first, end, s)

  -- ---- why something is given up

  -- a line of the window, so late that what is asked for behind it and was not backed off was asked for in the window
  module _ (calls_of : LinesHaveCalls) (causes : AsksHaveCause) (front back : List (At Line)) (e : At Line) (split : lines ≡ front ++ e ∷ back) (late : time_of base + request_span terms < time_of back) where
    abbrev from : ℕ
    from = e.time - request_span terms

    behind_back : time_of back ≤ e.time
    behind_back = (order_back front (e ∷ back) split).0

    after_quiet : terms.quiet < e.time
    after_quiet = let s = settled in let le = behind_back in omega (arith, s, late, le)

    span_is : from + request_span terms ≡ e.time
    span_is = let le = behind_back in spans e.time (request_span terms) (time_of base) (time_of back) late le where
      spans : (now span base back : ℕ) → base + span < back → back ≤ now → now - span + span ≡ now
      spans now span base back lt le = omega (arith, lt, le)

    before_it : lines ≡ (front ++ e ∷ []) ++ back
    before_it = split ∙ sym (append_assoc front (e ∷ []) back)

    turns : Had hosts terms i base from e.time window (there hosts whole i)
    turns = had hosts terms i base from e.time (omega arith) window (ordinary [] window refl)

    few : length turns.names ≤ 61
    few =
        let is = span_is in
        few_turns from e.time (request_span terms) terms.drift (length turns.names) is are.short turns.few

    -- the call that asked for a name
    module _ (m : NameValue) (ask : AskTimer) (stands : timer_then hosts back i m ≡ Some ask) (w : WasAsked hosts terms trace timely back i m ask) (c : IsOfCall hosts whole w.x w.older) where
      asked_late : e.time ≤ c.e.time + request_span terms
      asked_late =
          let soon : e.time ≤ ask.due + (terms.lag i + terms.late) = subst (λ (o : Option AskTimer). IfSome o (λ (a : AskTimer). e.time ≤ a.due + (terms.lag i + terms.late))) stands (timely.soon (newest_lines.0 ++ front) back e i m (part_of_all front (e ∷ back) split) live after_quiet).ask in
          let due = w.due in
          let same = c.time in
          let after = settled in
          let le = behind_back in
          omega (arith, soon, due, same, after, late, le)

      in_time : time_of base < c.e.time
      in_time = let asked = asked_late in let le = behind_back in past (time_of base) (request_span terms) (time_of back) e.time c.e.time late le asked where
        past : (base span back now then : ℕ) → base + span < back → back ≤ now → now ≤ then + span → base < then
        past base span back now then lt le soon = omega (arith, lt, le, soon)

      v : IsInWindow window base c.newer c.older c.e
      v = in_window window base c.newer c.older c.e c.split order_whole in_time

      here : c.e.place ≡ i
      here = sym c.place ∙ w.place

      asks : Contains (does hosts c.e c.older) (Calls (Ask m))
      asks = subst (Contains (does hosts c.e c.older)) w.line (among_call hosts whole w.x w.older c)

      untuned : IsTuned c.e.event → ⊥
      untuned t = tunes_only t.0 m (subst (λ (line : KeptLine). Contains (let k = there hosts c.older c.e.place in (doing_of line (sees k.host) k.policy).lines) (Calls (Ask m))) t.1 asks)

      by_then : c.e.time ≤ e.time
      by_then =
          let le = line_by back w.newer w.older w.x (order_back (front ++ e ∷ []) back before_it) w.split in
          let same = c.time in
          let end = behind_back in
          omega (arith, le, same, end)

      since : from ≤ c.e.time
      since = let asked = asked_late in omega (arith, asked)

      turn_here : HasTurn (there hosts c.older c.e.place) (moment_of c.e.event) m → Contains turns.names m
      turn_here turn = turns.all c.newer v.part c.e m v.window_is here since by_then untuned
          (subst (λ (l : List (At KeptLine)). HasTurn (there hosts l i) (moment_of c.e.event) m) v.older_is (subst (λ (p : ℕ). HasTurn (there hosts c.older p) (moment_of c.e.event) m) here turn))

      nothing_new : (there hosts (c.e ∷ c.older) c.e.place).host.is.held ≡ (there hosts c.older c.e.place).host.is.held
      nothing_new =
          let one = still.same c.newer (c.e ∷ v.part) i v.window_is live in
          let two = still.same (c.newer ++ c.e ∷ []) v.part i (v.window_is ∙ sym (append_assoc c.newer (c.e ∷ []) v.part)) live in
          subst (λ (p : ℕ). (there hosts (c.e ∷ c.older) p).host.is.held ≡ (there hosts c.older p).host.is.held) (sym here)
          (subst (λ (l : List (At KeptLine)). (there hosts (c.e ∷ l) i).host.is.held ≡ (there hosts l i).host.is.held) (sym v.older_is) (one ∙ sym two))

      in_trace : trace ≡ (newest ++ c.newer) ++ c.e ∷ c.older
      in_trace = still.split ∙ ap (λ (l : List (At KeptLine)). newest ++ l) c.split ∙ sym (append_assoc newest c.newer (c.e ∷ c.older))

      had_cause : Contains turns.names m ⊎ IsHeldBySome hosts terms trace m
      had_cause = ⊎_elim
          (λ (held : IsHeldBySome hosts terms trace m). inr held)
          (λ (rest : HasTurn (there hosts c.older c.e.place) (moment_of c.e.event) m ⊎ ((there hosts (c.e ∷ c.older) c.e.place).host.is.held ≢ (there hosts c.older c.e.place).host.is.held)). ⊎_elim
          (λ (turn : HasTurn (there hosts c.older c.e.place) (moment_of c.e.event) m). inl (turn_here turn))
          (λ (changed : (there hosts (c.e ∷ c.older) c.e.place).host.is.held ≢ (there hosts c.older c.e.place).host.is.held). absurd (changed nothing_new))
          rest)
          (causes hosts terms trace (newest ++ c.newer) c.older c.e m are.session in_trace (let s = settled in let t = in_time in omega (arith, s, t)) asks)

    -- a name that is asked for and was not backed off had its turn, or another holds it
    cause : (m : NameValue) → level (host_then hosts back i) m ≡ Some 0 → Contains turns.names m ⊎ IsHeldBySome hosts terms trace m
    cause m new =
        let t = new_timer (timer_then hosts back i m) new in
        let w = was_asked hosts terms trace timely (newest_lines.0 ++ (front ++ e ∷ [])) back i m t.0 (part_of_all (front ++ e ∷ []) back before_it) (let s = settled in omega (arith, s, late)) live t.1 t.2 in
        had_cause m t.0 t.1 w (calls_of hosts whole ((front ++ e ∷ []) ++ w.newer) w.x w.older (before_it ∙ ap (λ (l : List (At Line)). (front ++ e ∷ []) ++ l) w.split ∙ sym (append_assoc (front ++ e ∷ []) w.newer (w.x ∷ w.older))))

    -- of 64 that are asked for, and of which none was backed off, another than the least is held by some
    another : (n : NameValue) (a : AskedName) → level (host_then hosts back i) n ≡ Some 0 → 64 ≤ length (view_of (host_then hosts back i)).asked → oldest (view_of (host_then hosts back i)).asked ≡ Some a → a.name ≡ n → IsForAnother hosts terms trace i back n
    another n a new many is named =
        let o = others (host_then hosts back i) n new a is named in
        let m = most_are (IsHeldBySome hosts terms trace) o.names turns.names o.apart (λ x c. cause x (o.new x c)) in
        first o m.those m.among m.most where
          first : (o : Others (host_then hosts back i) n) (those : List NameValue) → ((x : NameValue) → Contains those x → Contains o.names x × IsHeldBySome hosts terms trace x) → length o.names ≤ length those + length turns.names → IsForAnother hosts terms trace i back n
          first o [] among le = let count = o.count in let f = few in absurd (omega (arith, le, count, f, many))
          first o (x ∷ those) among le =
              let r = among x (Contains-here x those) in
              let t = new_timer (timer_then hosts back i x) (o.new x r.0) in
              record { name = x; greater = o.greater x r.0; held = r.1; ask = t.0; stands = t.1 }

  -- ---- what is given up before its timer was backed off

  module _ (calls_of : LinesHaveCalls) (causes : AsksHaveCause) (stops : StopsHaveCause) (front back : List (At Line)) (e : At Line) (n : NameValue) (ask : AskTimer) (split : lines ≡ front ++ e ∷ back) (late : time_of base + request_span terms < time_of back)
      (place : e.place ≡ i) (line : e.event ≡ Calls (Stop n)) (stands : timer_then hosts back i n ≡ Some ask) (new : ask.level ≡ 0) where
    abbrev Stopped : ℕ → Type 0
    Stopped p = ((a : AskTimer) × (timer_then hosts back p n ≡ Some a) × (4 ≤ a.level))
        ⊎ ((64 ≤ length (view_of (host_then hosts back p)).asked) × (a : AskedName) × (oldest (view_of (host_then hosts back p)).asked ≡ Some a) × (a.name ≡ n))

    for_another : IsForAnother hosts terms trace i back n
    for_another = ⊎_elim
        (λ (h : (a : AskTimer) × (timer_then hosts back i n ≡ Some a) × (4 ≤ a.level)).
        let same = same_Some ask h.0 (sym stands ∙ h.1) in
        let zero_level : h.0.level ≡ 0 = sym (ap (λ (a : AskTimer). a.level) same) ∙ new in
        let four = h.2 in
        absurd (omega (arith, zero_level, four)))
        (λ (h : (64 ≤ length (view_of (host_then hosts back i)).asked) × (a : AskedName) × (oldest (view_of (host_then hosts back i)).asked ≡ Some a) × (a.name ≡ n)).
        another calls_of causes front back e split late n h.1 (new_level (timer_then hosts back i n) ask stands new) h.0 h.2 h.3)
        (subst Stopped place (stops hosts terms trace (newest_lines.0 ++ front) e back n are.session (subst (Contains terms.live) (sym place) live) (after_quiet calls_of causes front back e split late) (part_of_all front (e ∷ back) split) line))

  -- ---- where something is given up

  -- behind some lines it asks for something greater that another holds
  record Next (back : List (At Line)) (n : NameValue) : Type 0 where
    front : List (At Line)
    later : List (At Line)
    split : lines ≡ front ++ later
    since : time_of back ≤ time_of later
    soon : time_of later ≤ time_of back + request_span terms
    name : NameValue
    greater : name_cmp n name ≡ Less
    ask : AskTimer
    stands : timer_then hosts later i name ≡ Some ask
    held : IsHeldBySome hosts terms trace name

  module _ (keeps : GivesUpForAnother) (front back : List (At Line)) (split : lines ≡ front ++ back) (late : time_of base + request_span terms < time_of back) (n : NameValue) (ask : AskTimer) (due : ℕ) (g : IsGivenUp starts all back i n ask due) (new : ask.level ≡ 0)
      (soon : due ≤ time_of back + request_span terms) where
    abbrev then_back : List (At Line)
    then_back = g.between ++ back

    abbrev Goal : Type 0
    Goal = (time_of whole ≤ time_of back + request_span terms) ⊎ Next back n

    order_then : AreInOrder (g.e ∷ then_back)
    order_then = order_of g.front (g.e ∷ then_back) (subst AreInOrder g.split timely.order)

    outside : (m : List (At Line)) → g.e ∷ then_back ≡ m ++ lines → Goal
    outside m is =
        let end : time_of lines ≤ time_of (m ++ lines) = before_end m lines (subst AreInOrder is order_then) in
        let same = ap time_of is in
        let time = time_is hosts whole in
        let by = g.soon in
        inl (omega (arith, end, same, time, by, soon))

    behind_part : time_of back ≤ time_of then_back
    behind_part = before_end g.between back order_then.1

    next_of : (w : List (At Line)) (is : lines ≡ w ++ g.e ∷ then_back) → IsForAnother hosts terms trace i then_back n → Next back n
    next_of w is other = record {
      front = w ++ g.e ∷ [];
      later = then_back;
      split = is ∙ sym (append_assoc w (g.e ∷ []) then_back);
      since = behind_part;
      soon = let o = order_then.0 in let by = g.soon in omega (arith, o, by, soon);
      name = other.name;
      greater = other.greater;
      ask = other.ask;
      stands = other.stands;
      held = other.held;
    }

    inside : (w : List (At Line)) → lines ≡ w ++ g.e ∷ then_back → Goal
    inside w is =
        let le = behind_part in
        inr (next_of w is (keeps hosts terms trace newest window base sizes wait most i w then_back g.e n ask are still late_base live is (omega (arith, le, late)) g.place g.line g.stands new))

    given_up : Goal
    given_up = ⊎_elim
        (λ (m : (m : List (At Line)) × (g.e ∷ then_back ≡ m ++ lines)). outside m.0 m.1)
        (λ (w : (w : List (At Line)) × (lines ≡ w ++ g.e ∷ then_back)). inside w.0 w.1)
        (two_parts newest_lines.0 lines g.front (g.e ∷ then_back) (sym newest_lines.1 ∙ g.split))

  -- ---- one name after the other

  -- names that it lacked before it asks for this one, and that are less
  record IsFollowed (front back : List (At Line)) (n : NameValue) (ask : AskTimer) (lacks : List Lack) : Type 0 where
    split : lines ≡ front ++ back
    late : time_of base + request_span terms < time_of back
    stands : timer_then hosts back i n ≡ Some ask
    held : IsHeldBySome hosts terms trace n
    apart : AreApart lacks
    each : (x : Lack) → Contains lacks x → IsLackedAt hosts terms trace (until (settled_by terms) all) x × (name_cmp x.name n ≡ Less)

  module _ (keeps : GivesUpForAnother) (young : TimersAreYoung) (leads : TimerLeadsOrIsGivenUp) where
    module _ (front back : List (At Line)) (n : NameValue) (ask : AskTimer) (lacks : List Lack) (is : IsFollowed front back n ask lacks) where
      abbrev one : Lack
      one = record { place = i; name = n }

      soon : time_of base < time_of back
      soon = let l = is.late in omega (arith, l)

      one_more : AreApart (one ∷ lacks) × ((x : Lack) → Contains (one ∷ lacks) x → IsLackedAt hosts terms trace (until (settled_by terms) all) x)
      one_more = (
        ((λ c. none_below n (is.each one c).1), is.apart),
        λ x c. ⊎_elim
            (λ (same : one ≡ x). subst (IsLackedAt hosts terms trace (until (settled_by terms) all)) same (is_lacked front back is.split soon n ask is.stands is.held))
            (λ (d : Contains lacks x). (is.each x d).0)
            (Contains-cases one x lacks c),
      )

      enough : suc (length lacks) ≤ most
      enough = are.lacks (one ∷ lacks) one_more.0 one_more.1

      abbrev Ends : Type 0
      Ends = (time_of whole ≤ time_of back + request_span terms + repairing terms) ⊎ Next back n

      in_all : all ≡ (newest_lines.0 ++ front) ++ back
      in_all = part_of_all front back is.split

      -- where its timer was not backed off
      new_ends : ask.level ≡ 0 → Ends
      new_ends new =
          let w = was_asked hosts terms trace timely (newest_lines.0 ++ front) back i n ask in_all (let b = soon in let t = settled in omega (arith, b, t)) live is.stands new in
          let by = line_by back w.newer w.older w.x (order_back front back is.split) w.split in
          let due = w.due in
          let k = known in
          let s = soon in
          ⊎_elim
          (λ (comes : AllHoldBehind starts terms all (max (time_of back) (time_of back + terms.asking * terms.far) + repairing terms) n).
          let le = not_by front back is.split soon n ask is.stands (max (time_of back) (time_of back + terms.asking * terms.far) + repairing terms) comes in
          inl (omega (arith, le)))
          (λ (g : IsGivenUp starts all back i n ask (max (time_of back) (time_of back + terms.asking * terms.far) + terms.late)). ⊎_elim
          (λ (le : time_of whole ≤ time_of back + request_span terms). inl (omega (arith, le)))
          (λ (next : Next back n). inr next)
          (given_up keeps front back is.split is.late n ask (max (time_of back) (time_of back + terms.asking * terms.far) + terms.late) g new (omega arith)))
          (leads starts terms all (newest_lines.0 ++ front) back i n ask (time_of back + terms.asking * terms.far) timely in_all live (omega (arith, k, s)) is.stands (let after = settled in omega (arith, due, by, after, s)) is.held)

      ends : Ends
      ends =
          let k = known in
          let s = soon in
          ⊎_elim
          (λ (new : ask.level ≡ 0). new_ends new)
          (λ (comes : AllHoldBehind starts terms all (time_of back + repairing terms) n).
          let le = not_by front back is.split soon n ask is.stands (time_of back + repairing terms) comes in
          inl (omega (arith, le)))
          (young hosts terms trace (newest_lines.0 ++ front) back i wait n ask timely are.waits in_all live (omega (arith, k, s)) is.held is.stands)

      -- where no new timer is given up
      module _ (kept : NewAreKept hosts terms trace sizes.since) where
        kept_end : time_of whole ≤ time_of back + request_span terms + repairing terms
        kept_end =
            let k = known in
            let s = soon in
            let first = late_base.since in
            not_by front back is.split soon n ask is.stands (time_of back + request_span terms + repairing terms)
            (asked_comes hosts terms trace sizes.since wait timely are.waits kept (newest_lines.0 ++ front) back i n ask in_all (omega (arith, k, s)) (omega (arith, first, s)) live is.held is.stands)

      followed : (next : Next back n) → IsFollowed next.front next.later next.name next.ask (one ∷ lacks)
      followed next = record {
        split = next.split;
        late = let l = is.late in let s = next.since in omega (arith, l, s);
        stands = next.stands;
        held = next.held;
        apart = one_more.0;
        each = λ x c. (
          one_more.1 x c,
          ⊎_elim
              (λ (same : one ≡ x). subst (λ (y : Lack). name_cmp y.name next.name ≡ Less) same next.greater)
              (λ (d : Contains lacks x). name_total.trans x.name n next.name (is.each x d).1 next.greater)
              (Contains-cases one x lacks c),
        );
      }

    follow : (fuel : ℕ) (front back : List (At Line)) (n : NameValue) (ask : AskTimer) (lacks : List Lack) → IsFollowed front back n ask lacks → most ≤ length lacks + fuel → time_of whole ≤ time_of back + fuel * request_span terms + repairing terms
    follow zero front back n ask lacks is left = let le = enough front back n ask lacks is in absurd (omega (arith, le, left))
    follow (suc fuel) front back n ask lacks is left = ⊎_elim
        (λ (le : time_of whole ≤ time_of back + request_span terms + repairing terms). last (time_of whole) (time_of back) (request_span terms) (repairing terms) fuel le)
        (λ (next : Next back n).
        let rest = follow fuel next.front next.later next.name next.ask (record { place = i; name = n } ∷ lacks) (followed front back n ask lacks is next) (omega (arith, left)) in
        more (time_of whole) (time_of back) (time_of next.later) (request_span terms) (repairing terms) fuel next.soon rest)
        (ends front back n ask lacks is) where
          last : (end back span repair fuel : ℕ) → end ≤ back + span + repair → end ≤ back + suc fuel * span + repair
          last end back span repair fuel le = let product : suc fuel * span ≡ fuel * span + span = omega arith in omega (arith, le, product)

          more : (end back later span repair fuel : ℕ) → later ≤ back + span → end ≤ later + fuel * span + repair → end ≤ back + suc fuel * span + repair
          more end back later span repair fuel near le = let product : suc fuel * span ≡ fuel * span + span = omega arith in omega (arith, near, le, product)

pub gives_up_for_another : PerformedIsTimely → LinesHaveCalls → AsksHaveCause → StopsHaveCause → GivesUpForAnother
gives_up_for_another timely_so calls_of causes stops hosts terms trace newest window base sizes wait most i front back e n ask are still late_base live split late place line stands new =
    for_another hosts terms trace newest window base sizes wait most i timely_so are still late_base live calls_of causes stops front back e n ask split late place line stands new

pub stillness_ends : TimersAreYoung → TimerLeadsOrIsGivenUp → PerformedIsTimely → GivesUpForAnother → StillnessEnds
stillness_ends young leads timely_so keeps hosts terms trace newest window base sizes wait most i back are still late_base live asking late =
    let is : IsFollowed hosts terms trace newest window base sizes wait most i timely_so are still late_base live asking.front back asking.name asking.ask [] =
    record { split = asking.split; late = late; stands = asking.stands; held = asking.held; apart = tt; each = λ x c. absurd (Contains-none x c) } in
    ⊎_elim
    (λ (enough : most ≤ sizes.gives).
    let le = follow hosts terms trace newest window base sizes wait most i timely_so are still late_base live keeps young leads most asking.front back asking.name asking.ask [] is (none_yet most) in
    at_most (time_of (window ++ base)) (time_of back) (request_span terms) (repairing terms) most sizes.gives le enough)
    (λ (kept : (1 ≤ sizes.gives) × NewAreKept hosts terms trace sizes.since).
    let le = kept_end hosts terms trace newest window base sizes wait most i timely_so are still late_base live keeps young leads asking.front back asking.name asking.ask [] is kept.1 in
    at_most (time_of (window ++ base)) (time_of back) (request_span terms) (repairing terms) 1 sizes.gives (omega (arith, le)) kept.0)
    are.soon.gives where
      at_most : (end back span repair few many : ℕ) → end ≤ back + few * span + repair → few ≤ many → end ≤ back + many * span + repair
      at_most end back span repair few many le more = let product = mul-le-mul more (le_refl span) in omega (arith, le, product)

      none_yet : (n : ℕ) → n ≤ 0 + n
      none_yet n = omega arith
