-- A request timer that stands late enough leads to where all hold its name, or is given up.
use Rattle.std.proofs.Common.{◌≡◌, ℕ, ◌+◌, ◌<◌, ◌≤◌, Bool, true, false, List, [], ◌∷◌, ◌++◌, Option, Some, None, refl, sym, ap, ◌∙◌, subst, arith, ◌⊎◌, inl, inr, ⊎_elim, append_assoc, max}
use Rattle.std.specs.Prelude.{◌≢◌, Contains, IfSome}
use Rattle.std.proofs.lemmas.List.{append_cancel_right}
use Rattle.wb_names.specs.Values.{NameValue}
use Rattle.wb_codec.specs.declared.datagram.Datagram.TheVariants.{Request}
use Rattle.wb_recovery.specs.Timing.{is_ask_due}
use Rattle.wb_recovery.specs.declared.timers.AskTimer.{AskTimer}
use Rattle.wb_keeper.specs.Keeper.{KeeperCall, GiveUp}
use Rattle.wb_keeper.specs.Ticks.{sent_by_tick}
use Rattle.wb_progress.specs.Calls.{Brings, Fires, Requests}
use Rattle.wb_progress.specs.InTime.{answering_by, repairing, known_from, IsGivenUp, TimerLeadsBut, TimerLeadsOrIsGivenUp}
use Rattle.wb_progress.specs.Repairs.{timers_at}
use Rattle.wb_progress.specs.Turns.{At, Terms, settled_by, Turn, Places, Accepts, desk_at, has, timers_there, time_of, AreInOrder, IsAnswerable, AllHoldBehind, IsOtherOrLacked, WasSent, KeepTimeBut}
use Rattle.wb_progress.proofs.Answering.{sooner, request_is_answered_but}
use Rattle.wb_progress.proofs.Calls.{requests_go_on}
use Rattle.wb_progress.proofs.Giving.{Spares, spares_held, Called, Copy, IsGiven, changes, came_or_given, copy_comes}
use Rattle.wb_progress.proofs.OneCall.{ticks_ask}
use Rattle.wb_progress.proofs.Parts.{before_end, order_of, joined, AreFrom, from_at, from_tail}
use Rattle.std.proofs.lemmas.Bool.{le-leb}
use Rattle.std.proofs.Math.Nat.{le_refl}

module _ {MayStop : List (At Turn) → At Turn → NameValue → Type 0} (places : Places) (terms : Terms) (turns : List (At Turn)) (is : KeepTimeBut MayStop places terms turns) (i : ℕ) (live : Contains terms.live i) (n : NameValue) (a : IsAnswerable places terms turns n) (spares : Spares places MayStop n) where
  abbrev asks : List (At Turn) → Option AskTimer
  asks part = (timers_there places part i n).ask

  abbrev HoldBy : ℕ → Type 0
  HoldBy time = AllHoldBehind places terms turns (time + answering_by terms) n

  -- ---- one turn that is late enough

  module _ (newer older : List (At Turn)) (e : At Turn) (split : turns ≡ newer ++ e ∷ older) (late : known_from terms ≤ e.time) where
    -- the turn gives the name up
    pub record Gives : Type 0 where
      pub place : e.place ≡ i
      pub now : ℕ
      pub given : Accepts places older e (GiveUp now n true)
      pub ends : asks (e ∷ older) ≡ None

    -- what the turn makes of a request timer: it stands as it was set, or is given up, or no longer stands; or all come to hold the name
    abbrev pub Leads : AskTimer → Type 0
    Leads ask = (asks (e ∷ older) ≡ Some ask) ⊎ (Gives ⊎ HoldBy e.time)

    settled : settled_by terms < e.time
    settled = omega (arith, late)

    -- a request that was sent shortly before, or by this turn
    asked_for : (front back : List (At Turn)) (x : At Turn) (asker : ℕ) → turns ≡ front ++ x ∷ back → e.time ≤ x.time + terms.delivery → x.time ≤ e.time → Contains x.event.sent (Request asker n) → HoldBy e.time
    asked_for front back x asker at within le sent =
        sooner places terms turns is (x.time + answering_by terms) (e.time + answering_by terms) n (omega (arith, le))
        (request_is_answered_but MayStop places terms turns front back x asker n is spares at (omega (arith, late, within)) (omega (arith, late, within)) sent a)

    some_none : (o : Option AskTimer) (ask : AskTimer) → o ≡ Some ask → o ≡ None → ⊥
    some_none o ask e f = cc

    module _ (ask : AskTimer) (stands : asks older ≡ Some ask) where
      part : turns ≡ (newer ++ e ∷ []) ++ older
      part = split ∙ sym (append_assoc newer (e ∷ []) older)

      -- what is asked for is not held
      lost : has places older i n ≡ false
      lost = from (has places older i n) refl where
        from : (b : Bool) → has places older i n ≡ b → b ≡ false
        from false same = refl
        from true same = absurd (some_none (asks older) ask stands (is.are.lacking (newer ++ e ∷ []) older i n part live same))

      fired : (c : Called places terms turns is older e i) → Fires ask.due c.call → HoldBy e.time
      fired c f =
          let due : is_ask_due f.now (asks older) ≡ true = ap (is_ask_due f.now) stands ∙ le-leb ask.due f.now f.due_by in
          let sends = ticks_ask (places.me i) (places.constants i) (desk_at places older i).calls (desk_at places older i).held f.now n due lost in
          let there = (is.are.turn newer older e split (subst (Contains terms.live) (sym c.place) live)).sends f.now f.words f.stopped (c.accepts ∙ ap (λ (k : KeeperCall). k ∷ (desk_at places older e.place).calls) f.is) (Request (places.me i) n)
          (subst (λ (k : ℕ). Contains (sent_by_tick (places.me k) (places.constants k) (desk_at places older k).calls (desk_at places older k).held f.now) (Request (places.me i) n)) (sym c.place) sends) in
          asked_for newer older e (places.me i) split (omega arith) (le_refl e.time) there

      heard : (c : Called places terms turns is older e i) → Requests (places.me i) n c.call → HoldBy e.time
      heard c r =
          let w : WasSent (e ∷ older) e.time terms.delivery (Request r.asker n) = is.fresh.requests newer older e r.now r.asker r.word r.held n split settled (c.accepts ∙ ap (λ (k : KeeperCall). k ∷ (desk_at places older e.place).calls) r.is) in
          let order = subst AreInOrder w.split (order_of newer (e ∷ older) (subst AreInOrder split is.order)) in
          let end : w.e.time ≤ time_of (w.newer ++ w.e ∷ w.older) = before_end w.newer (w.e ∷ w.older) order in
          let top : e.time ≡ time_of (w.newer ++ w.e ∷ w.older) = ap time_of w.split in
          asked_for (newer ++ w.newer) w.older w.e r.asker (joined newer w.newer w.older w.e turns (e ∷ older) split w.split) w.soon (omega (arith, end, top)) w.sent

      came : (c : Called places terms turns is older e i) → Brings n c.call → asks (e ∷ older) ≡ None → Gives ⊎ HoldBy e.time
      came c b none = ⊎_elim
          (λ (k : Copy places terms turns is n e.time). inr (sooner places terms turns is (e.time + terms.delivery) (e.time + answering_by terms) n (omega arith) (copy_comes places terms turns is n e.time settled k)))
          (λ (g : IsGiven places terms turns is n c.call). inl (record { place = c.place; now = g.0; given = c.accepts ∙ ap (λ (k : KeeperCall). k ∷ (desk_at places older e.place).calls) g.1; ends = none }))
          (came_or_given places terms turns is newer older e i n split live settled c b)

      pub leads_on : Leads ask
      leads_on = ⊎_elim
          (λ (same : (desk_at places (e ∷ older) i).calls ≡ (desk_at places older i).calls). inl (ap at_calls same ∙ stands))
          (λ (c : Called places terms turns is older e i). ⊎_elim
          (λ (s : at_calls (c.call ∷ (desk_at places older i).calls) ≡ Some ask). inl (ap at_calls c.calls ∙ s))
          (λ (g : (Brings n c.call × (at_calls (c.call ∷ (desk_at places older i).calls) ≡ None)) ⊎ (Fires ask.due c.call ⊎ Requests (places.me i) n c.call)). inr (⊎_elim
          (λ (b : Brings n c.call × (at_calls (c.call ∷ (desk_at places older i).calls) ≡ None)). came c b.0 (ap at_calls c.calls ∙ b.1))
          (λ (k : Fires ask.due c.call ⊎ Requests (places.me i) n c.call). inr (⊎_elim (λ (f : Fires ask.due c.call). fired c f) (λ (r : Requests (places.me i) n c.call). heard c r) k))
          g))
          (requests_go_on (places.me i) (places.constants i) c.call (desk_at places older i).calls n ask stands))
          (changes places terms turns is newer older e i split live) where
            at_calls : List KeeperCall → Option AskTimer
            at_calls calls = (timers_at (places.me i) (places.constants i) calls n).ask

  -- no timer is overdue before a turn that comes so late
  pub not_over : (newer older : List (At Turn)) (e : At Turn) (ask : AskTimer) → turns ≡ newer ++ e ∷ older → known_from terms ≤ e.time → asks older ≡ Some ask → e.time ≤ ask.due + (terms.lag i + terms.late)
  not_over newer older e ask split late stands = subst (λ o. IfSome o (λ (k : AskTimer). e.time ≤ k.due + (terms.lag i + terms.late))) stands (is.soon newer older e i n split live (omega (arith, late))).ask

  -- ---- the turns behind a part

  module _ (base : List (At Turn)) (ask : AskTimer) (limit : ℕ) (soon : ask.due + terms.late + terms.lag i ≤ limit) where
    -- it stands as it was set, at a part that ends by the limit; or all come to hold the name, or it was given up
    abbrev Ends : List (At Turn) → Type 0
    Ends part = ((asks part ≡ Some ask) × (time_of part ≤ limit)) ⊎ (HoldBy limit ⊎ IsGivenUp places turns base i n ask limit)

    ends : (front middle : List (At Turn)) → turns ≡ front ++ (middle ++ base) → AreFrom (known_from terms) middle → asks base ≡ Some ask → time_of base ≤ limit → Ends (middle ++ base)
    ends front [] split late stands le = inl (stands, le)
    ends front (e ∷ middle) split late stands le =
        let part : turns ≡ (front ++ e ∷ []) ++ (middle ++ base) = split ∙ sym (append_assoc front (e ∷ []) (middle ++ base)) in
        ⊎_elim
        (λ (s : (asks (middle ++ base) ≡ Some ask) × (time_of (middle ++ base) ≤ limit)). goes_on s.0)
        (λ (c : HoldBy limit ⊎ IsGivenUp places turns base i n ask limit). inr c)
        (ends (front ++ e ∷ []) middle part late.1 stands le) where
          goes_on : asks (middle ++ base) ≡ Some ask → Ends (e ∷ (middle ++ base))
          goes_on stands =
              let over = not_over front (middle ++ base) e ask split late.0 stands in
              let by : e.time ≤ limit = omega (arith, over, soon) in
              ⊎_elim
              (λ (s : asks (e ∷ (middle ++ base)) ≡ Some ask). inl (s, by))
              (λ (r : Gives front (middle ++ base) e split late.0 ⊎ HoldBy e.time). inr (⊎_elim
              (λ (g : Gives front (middle ++ base) e split late.0). inr (record { front = front; e = e; between = middle; split = split; place = g.place; now = g.now; given = g.given; stands = stands; soon = by }))
              (λ (h : HoldBy e.time). inl (sooner places terms turns is (e.time + answering_by terms) (limit + answering_by terms) n (omega (arith, by)) h))
              r))
              (leads_on front (middle ++ base) e split late.0 ask stands)

    -- where all turns behind the part are late enough
    pub leads_or_given : (newer : List (At Turn)) → turns ≡ newer ++ base → AreFrom (known_from terms) newer → asks base ≡ Some ask → time_of base ≤ limit → HoldBy limit ⊎ IsGivenUp places turns base i n ask limit
    leads_or_given newer split late stands le = ⊎_elim
        (λ (s : (asks (newer ++ base) ≡ Some ask) × (time_of (newer ++ base) ≤ limit)). inl (λ newest later k is_part lt live_k. absurd (too_late newest later (s.1) is_part lt)))
        (λ (c : HoldBy limit ⊎ IsGivenUp places turns base i n ask limit). c)
        (ends [] newer split late stands le) where
          too_late : (newest later : List (At Turn)) → time_of (newer ++ base) ≤ limit → turns ≡ newest ++ later → limit + answering_by terms < time_of later → ⊥
          too_late newest later le is_part lt =
              let end : time_of later ≤ time_of (newest ++ later) = before_end newest later (subst AreInOrder is_part is.order) in
              let top : time_of (newest ++ later) ≡ time_of (newer ++ base) = ap time_of (sym is_part ∙ split) in
              omega (arith, end, top, le, lt)

    -- where it is given up nowhere
    pub leads_from : ((older : List (At Turn)) (e : At Turn) → MayStop older e n → ⊥) → (newer : List (At Turn)) → turns ≡ newer ++ base → AreFrom (known_from terms) newer → asks base ≡ Some ask → time_of base ≤ limit → HoldBy limit
    leads_from never newer split late stands le = ⊎_elim
        (λ (h : HoldBy limit). h)
        (λ (g : IsGivenUp places turns base i n ask limit). absurd (given g))
        (leads_or_given newer split late stands le) where
          given : IsGivenUp places turns base i n ask limit → ⊥
          given g =
              let there : newer ≡ g.front ++ g.e ∷ g.between = append_cancel_right newer (g.front ++ g.e ∷ g.between) base (sym split ∙ g.split ∙ sym (append_assoc g.front (g.e ∷ g.between) base)) in
              let late_then : known_from terms ≤ g.e.time = (from_tail (known_from terms) g.front (g.e ∷ g.between) (subst (AreFrom (known_from terms)) there late)).0 in
              never (g.between ++ base) g.e ((is.quiet g.front (g.between ++ base) g.e g.split (omega (arith, late_then))).goes_on g.now n g.given)

pub timer_leads_or_given : (MayStop : List (At Turn) → At Turn → NameValue → Type 0) (places : Places) (terms : Terms) (turns newer older : List (At Turn)) (i : ℕ) (n : NameValue) (ask : AskTimer) (due : ℕ) → KeepTimeBut MayStop places terms turns → Spares places MayStop n → turns ≡ newer ++ older → Contains terms.live i → known_from terms ≤ time_of older
    → (timers_there places older i n).ask ≡ Some ask → ask.due + terms.lag i ≤ due → IsAnswerable places terms turns n
    → AllHoldBehind places terms turns (max (time_of older) due + repairing terms) n ⊎ IsGivenUp places turns older i n ask (max (time_of older) due + terms.late)
timer_leads_or_given MayStop places terms turns newer older i n ask due is spares split live late stands by a =
    let order = subst AreInOrder split is.order in
    let limit : ℕ = max (time_of older) due + terms.late in
    let first : time_of older ≤ max (time_of older) due = omega arith in
    let second : due ≤ max (time_of older) due = omega arith in
    ⊎_elim
    (λ (h : AllHoldBehind places terms turns (limit + answering_by terms) n). inl (sooner places terms turns is (limit + answering_by terms) (max (time_of older) due + repairing terms) n (omega arith) h))
    (λ (g : IsGivenUp places turns older i n ask limit). inr g)
    (leads_or_given places terms turns is i live n a spares older ask limit (omega (arith, by, second)) newer split (from_at (known_from terms) newer older order late) stands (omega (arith, first)))

pub timer_leads_or_is_given_up : TimerLeadsOrIsGivenUp
timer_leads_or_is_given_up places terms turns newer older i n ask due is split live late stands by a = timer_leads_or_given (IsOtherOrLacked places n) places terms turns newer older i n ask due is (spares_held places n) split live late stands by a

-- of a name that is given up nowhere
timer_leads_but : (MayStop : List (At Turn) → At Turn → NameValue → Type 0) (places : Places) (terms : Terms) (turns newer older : List (At Turn)) (i : ℕ) (n : NameValue) (ask : AskTimer) (due : ℕ) → KeepTimeBut MayStop places terms turns → ((older : List (At Turn)) (e : At Turn) → MayStop older e n → ⊥) → turns ≡ newer ++ older → Contains terms.live i → known_from terms ≤ time_of older
    → (timers_there places older i n).ask ≡ Some ask → ask.due + terms.lag i ≤ due → IsAnswerable places terms turns n → AllHoldBehind places terms turns (max (time_of older) due + repairing terms) n
timer_leads_but MayStop places terms turns newer older i n ask due is never split live late stands by a =
    let order = subst AreInOrder split is.order in
    let limit : ℕ = max (time_of older) due + terms.late in
    let first : time_of older ≤ max (time_of older) due = omega arith in
    let second : due ≤ max (time_of older) due = omega arith in
    sooner places terms turns is (limit + answering_by terms) (max (time_of older) due + repairing terms) n (omega arith)
    (leads_from places terms turns is i live n a (λ older e held may. never older e may) older ask limit (omega (arith, by, second)) never newer split (from_at (known_from terms) newer older order late) stands (omega (arith, first)))

pub timer_leads_other : TimerLeadsBut
timer_leads_other places terms turns newer older i n ask due is split live late stands by a = timer_leads_but (λ older e m. m ≢ n) places terms turns newer older i n ask due is (λ older e other. other refl) split live late stands by a
