-- Such a live host asks for a missing number within two turns of the clock: while it asks for none it spends nothing, and the second turn comes a second after
-- the first at least, so it finds credit. It goes on asking while it lacks what another holds.
use Rattle.std.proofs.Common.{◌≡◌, ℕ, ◌+◌, ◌-◌, ◌*◌, ◌<◌, ◌≤◌, Bool, true, false, List, [], ◌∷◌, ◌++◌, ◌∙◌, None, ap, append_assoc, arith, eqb-true, inl, inr, max, refl, subst, sym, true≢false, ⊎_elim}
use Rattle.std.specs.Prelude.{◌⊎◌, Contains, nat_eq}
use Rattle.std.proofs.lemmas.Bool.{le-leb}
use Rattle.wb_names.specs.Values.{NameValue}
use Rattle.wb_names.proofs.Listings.{Contains-none}
use Rattle.wb_progress.specs.InTime.{known_from, repairing}
use Rattle.wb_progress.specs.Turns.{Terms, settled_by}
use Rattle.wb_member.specs.Judged.{holds}
use Rattle.wb_member.specs.Opened.{asks_for, present}
use Rattle.wb_laws_sessions.proofs.Sending.{one_of}
use Rattle.wb_policy.specs.Credit.{has_credit}
use Rattle.wb_policy.specs.declared.limits.TheConstants.{COST}
use Rattle.wb_keeping.specs.Laws.{KeptLine, fault_of}
use Rattle.wb_keeping.specs.Performing.{Keeping}
use Rattle.wb_kept_progress.specs.Filling.{HolesAreFilled, OnlyHolesAreLacked}
use Rattle.wb_kept_progress.specs.Rounds.{AreAsked}
use Rattle.wb_kept_progress.specs.Sessions.{AreTaken, Opening}
use Rattle.wb_kept_progress.specs.Timed.{AreInOrder, At, time_of}
use Rattle.wb_kept_progress.specs.Whole.{HolesAreHeld, IsHeldBySome, IsTimelySession, there, turn_span}
use Rattle.wb_kept_progress.proofs.AskedStays.{AsksOne}
use Rattle.wb_kept_progress.proofs.Awake.{GoesOn, IsAwake, TakesTurn, call_goes_on}
use Rattle.wb_kept_progress.proofs.Becoming.{lacked_before}
use Rattle.wb_kept_progress.proofs.CallParts.{due_by_turn}
use Rattle.wb_kept_progress.proofs.InCrowds.{none_lacks}
use Rattle.wb_kept_progress.proofs.Moments.{moment_of}
use Rattle.wb_kept_progress.proofs.NextDue.{there_here, there_other}
use Rattle.wb_kept_progress.proofs.Onward.{call_later}
use Rattle.wb_kept_progress.proofs.OwedAndDue.{beat_there, near_there, next_by_turn, now_there, taken_of}
use Rattle.wb_kept_progress.proofs.RoundCounts.{FilledFor, IsThen, then_at}
use Rattle.wb_progress.proofs.Parts.{before_end, order_of}

-- a turn that comes a second after what is owed at most then finds credit
credit_by : (owed owes from now : ℕ) → owed ≤ owes → owes ≤ from + 16000000 → from + 1000000 ≤ now → has_credit owed now ≡ true
credit_by owed owes from now le near later = le-leb (max owed now - now) (63 * COST) (omega (arith, le, near, later))

module _ (hosts : ℕ → Opening) (terms : Terms) (trace : List (At KeptLine)) (since i : ℕ) (n : NameValue) (session : IsTimelySession hosts terms trace) (holes_held : HolesAreHeld hosts terms trace) (only : OnlyHolesAreLacked hosts terms trace since)
    (live : Contains terms.live i) (held : IsHeldBySome hosts terms trace n) where
  abbrev Awake : Keeping → Type 0
  Awake k = IsAwake hosts terms trace since session holes_held only k

  abbrev Turns : Keeping → Keeping → ℕ → Type 0
  Turns k next now = TakesTurn hosts terms trace since session holes_held only k next now

  abbrev Goes : Keeping → Keeping → ℕ → Type 0
  Goes k next now = GoesOn hosts terms trace since session holes_held only k next now

  -- a call of the host
  call : (newer older : List (At KeptLine)) (e : At KeptLine) → trace ≡ newer ++ e ∷ older → nat_eq e.place i ≡ true → settled_by terms < time_of older → since ≤ time_of older → holds (there hosts (e ∷ older) i).host n ≡ false
      → Goes (there hosts older i) (there hosts (e ∷ older) i) (moment_of e.event)
  call newer older e split here settled from lacks =
      let same = eqb-true e.place i here in
      subst (λ (p : ℕ). Goes (there hosts older p) (there hosts (e ∷ older) p) (moment_of e.event)) same
      (call_goes_on hosts terms trace since session holes_held only newer older e n split (subst (Contains terms.live) (sym same) live) settled from held
      (subst (λ (p : ℕ). holds (there hosts (e ∷ older) p).host n ≡ false) (sym same) lacks))

  module _ (newest base : List (At KeptLine)) (split_base : trace ≡ newest ++ base) (settled : settled_by terms < time_of base) (from : since ≤ time_of base) where
    after_base : (newer window : List (At KeptLine)) → trace ≡ newer ++ (window ++ base) → time_of base ≤ time_of (window ++ base)
    after_base newer window split = before_end window base (order_of newer (window ++ base) (subst AreInOrder split session.order))

    -- ---- it goes on

    awake_on : (newer window : List (At KeptLine)) → trace ≡ newer ++ (window ++ base) → holds (there hosts (window ++ base) i).host n ≡ false → Awake (there hosts base i) → Awake (there hosts (window ++ base) i)
    awake_on newer [] split lacks awake = awake
    awake_on newer (e ∷ window) split lacks awake = by (awake_on (newer ++ e ∷ []) window before (lacked_before hosts (e ∷ []) (window ++ base) i n lacks) awake) (nat_eq e.place i) refl where
      before : trace ≡ (newer ++ e ∷ []) ++ (window ++ base)
      before = split ∙ sym (append_assoc newer (e ∷ []) (window ++ base))

      by : Awake (there hosts (window ++ base) i) → (b : Bool) → nat_eq e.place i ≡ b → Awake (there hosts (e ∷ (window ++ base)) i)
      by rest false other = subst Awake (sym (there_other hosts e (window ++ base) i other)) rest
      by rest true here =
          let le = after_base (newer ++ e ∷ []) window before in
          (call newer (window ++ base) e split here (omega (arith, settled, le)) (omega (arith, from, le)) lacks).on rest

    -- ---- it begins

    abbrev first : Keeping
    first = there hosts base i

    -- while it asks for nothing it spends nothing, and it has had one turn at most
    record Sleeps (k : Keeping) : Type 0 where
      owed : k.policy.owed ≤ first.policy.owed
      now : present first.host ≤ present k.host
      beat : (k.policy.pace.due + terms.lag i ≤ time_of base + 16000000)
          ⊎ ((present first.host + 1000000 ≤ k.policy.pace.due) × (k.policy.pace.due + terms.lag i ≤ time_of base + 32000000 + terms.late))

    module _ (newer window : List (At KeptLine)) (e : At KeptLine) (split : trace ≡ newer ++ e ∷ (window ++ base)) (lacks : holds (there hosts (e ∷ (window ++ base)) i).host n ≡ false) where
      abbrev older : List (At KeptLine)
      older = window ++ base

      abbrev k : Keeping
      k = there hosts older i

      abbrev next : Keeping
      next = there hosts (e ∷ older) i

      before : trace ≡ (newer ++ e ∷ []) ++ older
      before = split ∙ sym (append_assoc newer (e ∷ []) older)

      past : time_of base ≤ time_of older
      past = after_base (newer ++ e ∷ []) window before

      order : time_of older ≤ e.time
      order = (order_of newer (e ∷ older) (subst AreInOrder split session.order)).0

      -- it comes soon
      soon : e.time ≤ k.policy.pace.due + (terms.lag i + terms.late)
      soon =
          let le = past in
          let o = order in
          let s = session.soon newer older e i split live (omega (arith, settled, le, o)) in
          let turn = due_by_turn k in
          omega (arith, s, turn)

      later : nat_eq e.place i ≡ true → present k.host ≤ present next.host
      later here =
          let taken = taken_of hosts newer (e ∷ older) (subst (λ (t : List (At KeptLine)). AreTaken hosts t) split session.taken) in
          subst (λ (x : Keeping). present k.host ≤ present x.host) (sym (there_here hosts e older i here))
          (call_later e.event k (subst (λ (p : ℕ). fault_of e.event (there hosts older p) ≡ None) (eqb-true e.place i here) taken.0))

      module _ (here : nat_eq e.place i ≡ true) (s : Sleeps k) where
        g : Goes k next (moment_of e.event)
        g = let le = past in call newer older e split here (omega (arith, settled, le)) (omega (arith, from, le)) lacks

        spent_less : next.policy.owed ≤ k.policy.owed → next.policy.owed ≤ first.policy.owed
        spent_less le = let o = s.owed in omega (arith, le, o)

        goes_later : present first.host ≤ present next.host
        goes_later = let l = later here in let now = s.now in omega (arith, l, now)

        -- the first turn, or another
        turned : Turns k next (moment_of e.event) → next.policy.owed ≤ k.policy.owed → Awake next ⊎ Sleeps next
        turned t le = ⊎_elim
            (λ (one : k.policy.pace.due + terms.lag i ≤ time_of base + 16000000).
            let is = t.now_is in
            let least = t.least in
            let most = t.most in
            let ahead = now_there hosts terms trace newer (e ∷ older) i session split live in
            let comes = soon in
            let began = goes_later in
            let p = past in
            let o = order in
            inr (record {
              owed = spent_less le;
              now = goes_later;
              beat = inr (omega (arith, least, began, is), second next.policy.pace.due (moment_of e.event) (present next.host) e.time k.policy.pace.due (terms.lag i) terms.late terms.quiet (time_of base) is most ahead comes one (omega (arith, settled, p, o)));
            }))
            (λ (two : (present first.host + 1000000 ≤ k.policy.pace.due) × (k.policy.pace.due + terms.lag i ≤ time_of base + 32000000 + terms.late)). ⊎_elim
            (λ (awake : Awake next). inl awake)
            (λ (none : has_credit k.policy.owed (moment_of e.event) ≡ false).
            let near = (near_there hosts terms trace newest base i session split_base live).owed in
            let late = t.late in
            let first_due = two.0 in
            absurd (true≢false (sym (credit_by k.policy.owed first.policy.owed (present first.host) (moment_of e.event) s.owed near (omega (arith, first_due, late))) ∙ none)))
            t.awake)
            s.beat where
              second : (due moment then time before lag late quiet start : ℕ) → then ≡ moment → due ≤ moment + 16000000 → then + lag ≤ max time quiet → time ≤ before + (lag + late) → before + lag ≤ start + 16000000 → quiet ≤ time → due + lag ≤ start + 32000000 + late
              second due moment then time before lag late quiet start is most ahead comes one after = omega (arith, is, most, ahead, comes, one, after)

        one_more : Awake next ⊎ Sleeps next
        one_more = ⊎_elim
            (λ (awake : Awake next). inl awake)
            (λ (le : next.policy.owed ≤ k.policy.owed). ⊎_elim
            (λ (same : next.policy.pace.due ≡ k.policy.pace.due). inr (record {
              owed = spent_less le;
              now = goes_later;
              beat = ⊎_elim
                  (λ (one : k.policy.pace.due + terms.lag i ≤ time_of base + 16000000). inl (omega (arith, one, same)))
                  (λ (two : (present first.host + 1000000 ≤ k.policy.pace.due) × (k.policy.pace.due + terms.lag i ≤ time_of base + 32000000 + terms.late)). let a = two.0 in let b = two.1 in inr (omega (arith, a, same), omega (arith, b, same)))
                  s.beat;
            }))
            (λ (t : Turns k next (moment_of e.event)). turned t le)
            g.paced)
            g.spent

      next_call : Awake k ⊎ Sleeps k → Awake next ⊎ Sleeps next
      next_call rest = by (nat_eq e.place i) refl where
        by : (b : Bool) → nat_eq e.place i ≡ b → Awake next ⊎ Sleeps next
        by false other = subst (λ (x : Keeping). Awake x ⊎ Sleeps x) (sym (there_other hosts e older i other)) rest
        by true here = ⊎_elim
            (λ (awake : Awake k). let le = past in inl ((call newer older e split here (omega (arith, settled, le)) (omega (arith, from, le)) lacks).on awake))
            (λ (s : Sleeps k). one_more here s)
            rest

    watched : (newer window : List (At KeptLine)) → trace ≡ newer ++ (window ++ base) → holds (there hosts (window ++ base) i).host n ≡ false → Awake (there hosts (window ++ base) i) ⊎ Sleeps (there hosts (window ++ base) i)
    watched newer [] split lacks =
        let beat = beat_there hosts terms trace newest base i session split_base live in
        inr (record { owed = omega arith; now = omega arith; beat = inl (omega (arith, beat, settled)) })
    watched newer (e ∷ window) split lacks =
        next_call newer window e split lacks
        (watched (newer ++ e ∷ []) window (split ∙ sym (append_assoc newer (e ∷ []) (window ++ base))) (lacked_before hosts (e ∷ []) (window ++ base) i n lacks))

    -- two turns later it asks
    pub awake_by : (newer window : List (At KeptLine)) (e : At KeptLine) → trace ≡ newer ++ e ∷ (window ++ base) → holds (there hosts (e ∷ (window ++ base)) i).host n ≡ false → time_of base + 2 * turn_span terms < e.time → Awake (there hosts (window ++ base) i)
    awake_by newer window e split lacks late = ⊎_elim
        (λ (awake : Awake (there hosts (window ++ base) i)). awake)
        (λ (s : Sleeps (there hosts (window ++ base) i)). absurd (⊎_elim
        (λ (one : (there hosts (window ++ base) i).policy.pace.due + terms.lag i ≤ time_of base + 16000000).
        let comes = soon newer window e split lacks in omega (arith, one, comes, late))
        (λ (two : (present first.host + 1000000 ≤ (there hosts (window ++ base) i).policy.pace.due) × ((there hosts (window ++ base) i).policy.pace.due + terms.lag i ≤ time_of base + 32000000 + terms.late)).
        let comes = soon newer window e split lacks in let by = two.1 in omega (arith, by, comes, late))
        s.beat))
        (watched (newer ++ e ∷ []) window (split ∙ sym (append_assoc newer (e ∷ []) (window ++ base))) (lacked_before hosts (e ∷ []) (window ++ base) i n lacks))

-- ---- so a place of each host is filled

module _ (hosts : ℕ → Opening) (terms : Terms) (trace : List (At KeptLine)) (since wait i : ℕ) (n : NameValue) (session : IsTimelySession hosts terms trace) (holes_held : HolesAreHeld hosts terms trace) (only : OnlyHolesAreLacked hosts terms trace since)
    (live : Contains terms.live i) (held : IsHeldBySome hosts terms trace n) where
  abbrev start : ℕ
  start = max (known_from terms + wait + repairing terms) since

  module _ (newer older : List (At KeptLine)) (split : trace ≡ newer ++ older) (late : start + 3 * turn_span terms < time_of older) (lacks : holds (there hosts older i).host n ≡ false) where
    v : IsThen older start
    v = then_at older start (omega (arith, late))

    abbrev base : List (At KeptLine)
    base = v.next ∷ v.part

    split_base : trace ≡ (newer ++ v.front) ++ base
    split_base = split ∙ ap (λ (l : List (At KeptLine)). newer ++ l) v.split ∙ sym (append_assoc newer v.front base)

    -- the first call after the start comes soon
    begins : v.next.time ≤ start + turn_span terms
    begins =
        let after = v.after in
        let by = v.by in
        let soon = next_by_turn hosts terms trace (newer ++ v.front) v.part v.next i session split_base live (omega (arith, after)) in
        omega (arith, soon, by)

    settled : settled_by terms < v.next.time
    settled = let after = v.after in omega (arith, after)

    from : since ≤ v.next.time
    from = let after = v.after in omega (arith, after)

    asks_one : AsksOne (λ x. IsHeldBySome hosts terms trace x) (there hosts older i)
    asks_one = by v.front v.split where
      by : (front : List (At KeptLine)) → older ≡ front ++ base → AsksOne (λ x. IsHeldBySome hosts terms trace x) (there hosts older i)
      by [] is = let same : time_of older ≡ v.next.time = ap time_of is in let b = begins in absurd (omega (arith, late, same, b))
      by (e ∷ window) is =
          let whole : trace ≡ newer ++ e ∷ (window ++ base) = split ∙ ap (λ (l : List (At KeptLine)). newer ++ l) is in
          let lacks_then = subst (λ (l : List (At KeptLine)). holds (there hosts l i).host n ≡ false) is lacks in
          let b = begins in
          let time : time_of older ≡ e.time = ap time_of is in
          let awake = awake_by hosts terms trace since i n session holes_held only live held (newer ++ v.front) base split_base settled from newer window e whole lacks_then (omega (arith, late, b, time)) in
          let before : trace ≡ (newer ++ e ∷ []) ++ (window ++ base) = whole ∙ sym (append_assoc newer (e ∷ []) (window ++ base)) in
          let past = before_end window base (order_of (newer ++ e ∷ []) (window ++ base) (subst AreInOrder before session.order)) in
          subst (λ (l : List (At KeptLine)). AsksOne (λ x. IsHeldBySome hosts terms trace x) (there hosts l i)) (sym is)
          (awake_on hosts terms trace since i n session holes_held only live held (newer ++ e ∷ []) (window ++ base) before (omega (arith, settled, past)) (omega (arith, from, past)) newer (e ∷ []) whole lacks_then awake)

    pub one_asked : AreAsked hosts terms trace older i 1
    one_asked =
        let a = asks_one in
        record {
          names = a.name ∷ [];
          apart = (λ c. absurd (Contains-none a.name c), tt);
          count = refl;
          held = λ x c. subst (λ (y : NameValue). IsHeldBySome hosts terms trace y) (one_of a.name x c) a.is;
          asked = λ x c. subst (λ (y : NameValue). asks_for y (there hosts older i).host ≡ true) (one_of a.name x c) a.asked;
        }

  pub one_place : FilledFor hosts terms trace (start + 3 * turn_span terms) 1 i n
  one_place newer older split late lacks = inr (one_asked newer older split late lacks)

pub holes_are_filled : HolesAreFilled
holes_are_filled hosts terms trace since wait most crowded n session waits lacks_most holes_held only enough held newer later i split late live = by (holds (there hosts later i).host n) refl where
  brings : (many : ℕ) → many ≤ many * 1
  brings many = omega arith

  by : (b : Bool) → holds (there hosts later i).host n ≡ b → b ≡ true
  by true e = refl
  by false e =
      absurd (none_lacks hosts terms trace (max (known_from terms + wait + repairing terms) since + 3 * turn_span terms) wait most 1 most crowded i n session waits lacks_most
      (one_place hosts terms trace since wait i n session holes_held only live held) (brings most) enough held live newer later split late e)
