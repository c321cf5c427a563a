-- While nothing new comes to one live host, it goes on asking for what another holds once it does, since what it gives up it gives up for another such name. Each of
-- these names is given up early, so 64 names are asked for again and again.
use Rattle.std.proofs.Common.{◌≡◌, ℕ, ◌+◌, ◌*◌, ◌<◌, ◌≤◌, Bool, true, false, cond, List, [], ◌∷◌, ◌++◌, ◌∙◌, Some, None, ap, append_assoc, arith, eqb-true, length, max, refl, subst, sym, true≢false, ⊎_elim}
use Rattle.std.specs.Prelude.{◌⊎◌, Contains, filter, nat_eq}
use Rattle.std.proofs.lemmas.List.Elements.{Contains-append_cases}
use Rattle.wb_names.specs.Values.{DrawopValue, NameValue}
use Rattle.wb_names.proofs.Listings.{Contains-here, Contains-none, Contains-from_filter}
use Rattle.wb_recovery.specs.declared.timers.AskTimer.{AskTimer}
use Rattle.wb_gaps.specs.Gaps.{IsMissing}
use Rattle.wb_progress.specs.InTime.{known_from, repairing}
use Rattle.wb_progress.specs.Turns.{Terms, settled_by}
use Rattle.wb_keeper.specs.Keeper.{holds}
use Rattle.wb_member.specs.Judged.{is_full}
use Rattle.wb_member.specs.declared.calls.Call.TheVariants.{Ask}
use Rattle.wb_keeping.specs.Bounds.{ask_count, is_ask}
use Rattle.wb_keeping.specs.Kept.{Calls, Line}
use Rattle.wb_keeping.specs.Laws.{after_kept, doing_of, expand, fault_of, KeptLine}
use Rattle.wb_keeping.specs.Performing.{Keeping, after_doing, sees}
use Rattle.wb_keeping.proofs.PolicyCalls.{calls_are_of_policies}
use Rattle.wb_kept_progress.specs.Promises.{timer_then}
use Rattle.wb_kept_progress.specs.Rounds.{coming}
use Rattle.wb_kept_progress.specs.Sessions.{AreTaken, Opening}
use Rattle.wb_kept_progress.specs.Timed.{AllHoldBehind, AreInOrder, At, IsGivenUp, IsTimely, Start, performed, start_of, time_of}
use Rattle.wb_kept_progress.specs.Whole.{HolesAreHeld, IsHeldBySome, IsTimelySession, WaitAtMost, request_span, there}
use Rattle.wb_kept_progress.proofs.AskedComes.{comes_or_is_given_up, the_ask, timer_of}
use Rattle.wb_kept_progress.proofs.AskedInCalls.{HasAsk, IsMore, asks_as, more_differs}
use Rattle.wb_kept_progress.proofs.AskedStays.{AsksOne, MayStay, StaysAsked, asks_one, stays_asked}
use Rattle.wb_kept_progress.proofs.Becoming.{Appends, appends, nothing_more}
use Rattle.wb_kept_progress.proofs.CallsInTime.{performed_is_timely}
use Rattle.wb_kept_progress.proofs.Causes.{goes}
use Rattle.wb_kept_progress.proofs.Courses.{IsCourse}
use Rattle.wb_kept_progress.proofs.Crowds.{IsCrowd, crowd}
use Rattle.wb_kept_progress.proofs.Handed.{after_handed, expand_both, handed, performs_in}
use Rattle.wb_kept_progress.proofs.KeptInTime.{front_of, time_is}
use Rattle.wb_kept_progress.proofs.Moments.{moment_of}
use Rattle.wb_kept_progress.proofs.NextDue.{there_other}
use Rattle.wb_kept_progress.proofs.NothingNew.{held_was_held}
use Rattle.wb_kept_progress.proofs.OwedAndDue.{taken_of}
use Rattle.wb_kept_progress.proofs.Repairs.{moved}
use Rattle.wb_kept_progress.proofs.RoundCounts.{held_before, since_next}
use Rattle.wb_kept_progress.proofs.Turning.{answers_at}
use Rattle.wb_kept_progress.proofs.TurnNames.{turn_missing}
use Rattle.wb_kept_progress.proofs.WholeParts.{HasTurn, does}
use Rattle.wb_progress.proofs.Parts.{order_of}

-- some line asks for a name
pub an_ask : (calls : List KeptLine) (k : Keeping) → 1 ≤ ask_count (expand calls k) → HasAsk (expand calls k)
an_ask calls k some = by (filter is_ask lines) refl where
  lines : List Line
  lines = expand calls k

  by : (asks : List Line) → filter is_ask lines ≡ asks → HasAsk lines
  by [] e = let none = ap (λ (ls : List Line). length ls) e in absurd (omega (arith, some, none))
  by (line ∷ asks) e =
      let c = Contains-from_filter is_ask lines line (subst (λ (ls : List Line). Contains ls line) (sym e) (Contains-here line asks)) in
      asks_one lines line (calls_are_of_policies calls k) c.0 c.1

-- ---- one call that brings nothing new

module _ (hosts : ℕ → Opening) (terms : Terms) (trace : List (At KeptLine)) (session : IsTimelySession hosts terms trace) (holes_held : HolesAreHeld hosts terms trace) (newer older : List (At KeptLine)) (e : At KeptLine)
    (split : trace ≡ newer ++ e ∷ older) (live : Contains terms.live e.place) (settled : settled_by terms < e.time)
    (same : (there hosts (e ∷ older) e.place).host.is.held ≡ (there hosts older e.place).host.is.held) where
  abbrev IsSome : NameValue → Type 0
  IsSome n = IsHeldBySome hosts terms trace n

  abbrev place : ℕ
  place = e.place

  abbrev now : ℕ
  now = moment_of e.event

  abbrev k : Keeping
  k = there hosts older place

  abbrev next : Keeping
  next = there hosts (e ∷ older) place

  abbrev done : Keeping
  done = after_doing (doing_of e.event) k

  abbrev lines : List Line
  lines = does hosts e older

  next_is : next ≡ done
  next_is = moved hosts older place e.event

  none : fault_of e.event k ≡ None
  none = (taken_of hosts newer (e ∷ older) (subst (λ (t : List (At KeptLine)). AreTaken hosts t) split session.taken)).0

  c : IsCourse IsSome k now lines next
  c = ⊎_elim (λ (more : IsMore k next). absurd (more_differs k next more same)) (λ (course : IsCourse IsSome k now lines next). course) (goes held_was_held hosts terms trace session newer older e split settled)

  in_turn : (x : NameValue) → IsSome x ⊎ HasTurn k now x → IsSome x
  in_turn x is = ⊎_elim
      (λ (some : IsSome x). some)
      (λ (turn : HasTurn k now x). holes_held newer (e ∷ older) place x split live settled
      (subst (λ (held : List DrawopValue). IsMissing held x.page [] x.source x.seq) (sym same) (turn_missing k.host.is.held k.policy.turns x turn.named)))
      is

  may : MayStay IsSome k lines done
  may = record {
    answers_held = answers_at hosts older place;
    room = subst (λ (x : Keeping). is_full x.host ≡ false) next_is (session.room newer (e ∷ older) place split live (omega (arith, settled)));
    asks = asks_as (λ x. IsSome x ⊎ HasTurn k now x) IsSome in_turn lines c.asks;
  }

  stays : StaysAsked IsSome k lines done
  stays = stays_asked IsSome e.event k none

  still_asks : AsksOne IsSome done ⊎ IsMore k done → AsksOne IsSome next
  still_asks is = ⊎_elim
      (λ (one : AsksOne IsSome done). subst (AsksOne IsSome) (sym next_is) one)
      (λ (more : IsMore k done). absurd (more_differs k next (subst (IsMore k) (sym next_is) more) same))
      is

  pub call_on : AsksOne IsSome k → AsksOne IsSome next
  call_on one = still_asks (stays.on may one)

  pub call_begins : HasAsk lines → AsksOne IsSome next
  call_begins h = still_asks (stays.begins may h)

-- ---- a window in which nothing new comes to one of them

module _ (hosts : ℕ → Opening) (terms : Terms) (trace : List (At KeptLine)) (i : ℕ) (session : IsTimelySession hosts terms trace) (holes_held : HolesAreHeld hosts terms trace) (live : Contains terms.live i) (newer window base : List (At KeptLine))
    (split : trace ≡ newer ++ (window ++ base)) (settled : (front part : List (At KeptLine)) (y : At KeptLine) → window ≡ front ++ y ∷ part → settled_by terms < y.time)
    (same : (there hosts (window ++ base) i).host.is.held ≡ (there hosts base i).host.is.held) where
  abbrev pub IsAwake : List (At KeptLine) → Type 0
  IsAwake calls = AsksOne (λ n. IsHeldBySome hosts terms trace n) (there hosts calls i)

  abbrev held_in : List (At KeptLine) → List DrawopValue
  held_in calls = (there hosts calls i).host.is.held

  -- what is held stays all the while
  pub same_then : (front part : List (At KeptLine)) → window ≡ front ++ part → held_in (part ++ base) ≡ held_in base
  same_then front part is = nothing_more (held_in base) (held_in (part ++ base)) (held_in (window ++ base)) (appends hosts part base i)
      (subst (λ (t : List (At KeptLine)). Appends (held_in (part ++ base)) (held_in t)) (sym (ap (λ (t : List (At KeptLine)). t ++ base) is ∙ append_assoc front part base)) (appends hosts front (part ++ base) i)) same

  module _ (front part : List (At KeptLine)) (e : At KeptLine) (is : window ≡ front ++ e ∷ part) where
    here_split : trace ≡ (newer ++ front) ++ e ∷ (part ++ base)
    here_split = split ∙ ap (λ (t : List (At KeptLine)). newer ++ (t ++ base)) is ∙ ap (λ (t : List (At KeptLine)). newer ++ t) (append_assoc front (e ∷ part) base) ∙ sym (append_assoc newer front (e ∷ (part ++ base)))

    call_same : held_in (e ∷ (part ++ base)) ≡ held_in (part ++ base)
    call_same = same_then front (e ∷ part) is ∙ sym (same_then (front ++ e ∷ []) part (is ∙ sym (append_assoc front (e ∷ []) part)))

    module _ (here : nat_eq e.place i ≡ true) where
      at_i : e.place ≡ i
      at_i = eqb-true e.place i here

      abbrev Asking : ℕ → List (At KeptLine) → Type 0
      Asking p calls = AsksOne (λ n. IsHeldBySome hosts terms trace n) (there hosts calls p)

      same_at : (there hosts (e ∷ (part ++ base)) e.place).host.is.held ≡ (there hosts (part ++ base) e.place).host.is.held
      same_at = subst (λ (p : ℕ). (there hosts (e ∷ (part ++ base)) p).host.is.held ≡ (there hosts (part ++ base) p).host.is.held) (sym at_i) call_same

      live_at : Contains terms.live e.place
      live_at = subst (Contains terms.live) (sym at_i) live

      on_here : IsAwake (part ++ base) → IsAwake (e ∷ (part ++ base))
      on_here awake = subst (λ (p : ℕ). Asking p (e ∷ (part ++ base))) at_i
          (call_on hosts terms trace session holes_held (newer ++ front) (part ++ base) e here_split live_at (settled front part e is) same_at (subst (λ (p : ℕ). Asking p (part ++ base)) (sym at_i) awake))

      pub begins_here : HasAsk (does hosts e (part ++ base)) → IsAwake (e ∷ (part ++ base))
      begins_here h = subst (λ (p : ℕ). Asking p (e ∷ (part ++ base))) at_i
          (call_begins hosts terms trace session holes_held (newer ++ front) (part ++ base) e here_split live_at (settled front part e is) same_at h)

    pub one_on : IsAwake (part ++ base) → IsAwake (e ∷ (part ++ base))
    one_on awake = by (nat_eq e.place i) refl where
      by : (b : Bool) → nat_eq e.place i ≡ b → IsAwake (e ∷ (part ++ base))
      by false other = subst (AsksOne (λ n. IsHeldBySome hosts terms trace n)) (sym (there_other hosts e (part ++ base) i other)) awake
      by true here = on_here here awake

  -- it goes on
  pub awake_on : (front middle part : List (At KeptLine)) → window ≡ front ++ (middle ++ part) → IsAwake (part ++ base) → IsAwake ((middle ++ part) ++ base)
  awake_on front [] part is awake = awake
  awake_on front (e ∷ middle) part is awake =
      one_on front (middle ++ part) e is (awake_on (front ++ e ∷ []) middle part (is ∙ sym (append_assoc front (e ∷ []) (middle ++ part))) awake)

  -- and it began if a name was asked for
  pub awake_by : (front part : List (At KeptLine)) (m : NameValue) → window ≡ front ++ part → Contains (performs_in hosts i part base) (Calls (Ask m)) → IsAwake (part ++ base)
  awake_by front [] m is c = absurd (Contains-none (Calls (Ask m)) c)
  awake_by front (e ∷ part) m is c = by (awake_by (front ++ e ∷ []) part m later) (nat_eq e.place i) refl c where
    first : Keeping
    first = there hosts base i

    later : window ≡ (front ++ e ∷ []) ++ part
    later = is ∙ sym (append_assoc front (e ∷ []) part)

    of_call : nat_eq e.place i ≡ true → Contains (expand (e.event ∷ []) (after_kept (handed i part) first)) (Calls (Ask m)) → HasAsk (does hosts e (part ++ base))
    of_call here d =
        let k = there hosts (part ++ base) i in
        let there_k = subst (λ (x : Keeping). Contains ((doing_of e.event (sees x.host) x.policy).lines ++ []) (Calls (Ask m))) (after_handed hosts i part base) d in (
          m,
          subst (λ (p : ℕ). Contains (let x = there hosts (part ++ base) p in (doing_of e.event (sees x.host) x.policy).lines) (Calls (Ask m))) (sym (eqb-true e.place i here))
              (⊎_elim
              (λ (c : Contains (doing_of e.event (sees k.host) k.policy).lines (Calls (Ask m))). c)
              (λ (none : Contains [] (Calls (Ask m))). absurd (Contains-none (Calls (Ask m)) none))
              (Contains-append_cases (doing_of e.event (sees k.host) k.policy).lines [] (Calls (Ask m)) there_k)),
        )

    by : (Contains (expand (handed i part) first) (Calls (Ask m)) → IsAwake (part ++ base)) → (b : Bool) → nat_eq e.place i ≡ b → Contains (expand (cond b (handed i part ++ e.event ∷ []) (handed i part)) first) (Calls (Ask m)) → IsAwake (e ∷ (part ++ base))
    by rest false other c = one_on front part e is (rest c)
    by rest true here c = ⊎_elim
        (λ (old : Contains (expand (handed i part) first) (Calls (Ask m))). one_on front part e is (rest old))
        (λ (new : Contains (expand (e.event ∷ []) (after_kept (handed i part) first)) (Calls (Ask m))). begins_here front part e is here (of_call here new))
        (Contains-append_cases (expand (handed i part) first) (expand (e.event ∷ []) (after_kept (handed i part) first)) (Calls (Ask m))
        (subst (λ (ls : List Line). Contains ls (Calls (Ask m))) (expand_both (handed i part) (e.event ∷ []) first) c))

-- ---- what it asks for is given up

module _ (hosts : ℕ → Opening) (terms : Terms) (trace : List (At KeptLine)) (wait i : ℕ) (session : IsTimelySession hosts terms trace) (waits : WaitAtMost hosts terms trace wait) (holes_held : HolesAreHeld hosts terms trace) (live : Contains terms.live i)
    (newer window base : List (At KeptLine)) (e : At KeptLine) (split : trace ≡ newer ++ e ∷ (window ++ base)) (settled : (front part : List (At KeptLine)) (y : At KeptLine) → window ≡ front ++ y ∷ part → settled_by terms < y.time)
    (same : (there hosts (window ++ base) i).host.is.held ≡ (there hosts base i).host.is.held) where
  abbrev starts : ℕ → Start
  starts j = start_of (hosts j)

  upto : trace ≡ (newer ++ e ∷ []) ++ (window ++ base)
  upto = split ∙ sym (append_assoc newer (e ∷ []) (window ++ base))

  timely : IsTimely starts terms (performed hosts trace)
  timely = performed_is_timely hosts terms trace session

  -- after a call, of which the next is `y`
  module _ (front part rest : List (At KeptLine)) (y : At KeptLine) (is : window ≡ front ++ part) (next_is : e ∷ (window ++ base) ≡ rest ++ y ∷ (part ++ base)) (known : known_from terms + wait + repairing terms < time_of (part ++ base))
      (goes_on : time_of (part ++ base) + coming terms < e.time) (one : AsksOne (λ n. IsHeldBySome hosts terms trace n) (there hosts (part ++ base) i)) where
    abbrev calls : List (At KeptLine)
    calls = part ++ base

    split_y : trace ≡ (newer ++ rest) ++ y ∷ calls
    split_y = split ∙ ap (λ (t : List (At KeptLine)). newer ++ t) next_is ∙ sym (append_assoc newer rest (y ∷ calls))

    upto_y : trace ≡ ((newer ++ rest) ++ y ∷ []) ++ calls
    upto_y = split_y ∙ sym (append_assoc (newer ++ rest) (y ∷ []) calls)

    -- it is still lacked at the end
    lacked : holds (there hosts (window ++ base) i).host.is.held one.name ≡ false
    lacked = ap (λ (held : List DrawopValue). holds held one.name) (same ∙ sym (same_then hosts terms trace i session holes_held live (newer ++ e ∷ []) window base upto settled same front part is)) ∙ one.lacks

    pub gives_up : (time : ℕ) × (y.time ≤ time) × (time ≤ time_of calls + request_span terms) × IsCrowd hosts terms trace i time
    gives_up =
        let f = front_of hosts ((newer ++ rest) ++ y ∷ []) calls in
        let at = time_is hosts calls in
        let t = the_ask (timer_then hosts (performed hosts calls) i one.name) (timer_of hosts calls i one.name one.asked) in
        ⊎_elim
        (λ (comes : AllHoldBehind starts terms (performed hosts trace) (time_of (performed hosts calls) + request_span terms + repairing terms) one.name).
        absurd (true≢false (sym (held_before hosts terms trace newer (window ++ base) e i (time_of (performed hosts calls) + request_span terms + repairing terms) one.name split comes (omega (arith, goes_on, at)) live) ∙ lacked)))
        (λ (g : (t.0.level ≡ 0) × IsGivenUp starts (performed hosts trace) (performed hosts calls) i one.name t.0 (max (time_of (performed hosts calls)) (time_of (performed hosts calls) + terms.asking * terms.far) + terms.late)).
        given_up t.0 t.1 g.0 g.1)
        (comes_or_is_given_up hosts terms trace wait timely waits f.0 (performed hosts calls) i one.name t.0 (ap (performed hosts) upto_y ∙ f.1) (omega (arith, known, at)) live one.is t.1) where
          given_up : (ask : AskTimer) → timer_then hosts (performed hosts calls) i one.name ≡ Some ask → ask.level ≡ 0
              → IsGivenUp starts (performed hosts trace) (performed hosts calls) i one.name ask (max (time_of (performed hosts calls)) (time_of (performed hosts calls) + terms.asking * terms.far) + terms.late)
              → (time : ℕ) × (y.time ≤ time) × (time ≤ time_of calls + request_span terms) × IsCrowd hosts terms trace i time
          given_up ask stands new g = (
            g.e.time,
            behind,
            by_end,
            crowd hosts terms trace i session timely live g.front (g.between ++ performed hosts calls) g.e g.split late one.name ask g.place g.line g.stands new,
          ) where
            behind : y.time ≤ g.e.time
            behind = since_next hosts (newer ++ rest) calls y g.front g.between g.e (subst AreInOrder split_y session.order)
                (subst (λ (l : List (At KeptLine)). AreInOrder (performed hosts l)) split_y timely.order) (sym (ap (performed hosts) split_y) ∙ g.split)

            by_end : g.e.time ≤ time_of calls + request_span terms
            by_end = let soon = g.soon in let at = time_is hosts calls in omega (arith, soon, at)

            late : terms.quiet < g.e.time
            late = let f = behind in let o = (order_of (newer ++ rest) (y ∷ calls) (subst AreInOrder split_y session.order)).0 in omega (arith, f, o, known)
