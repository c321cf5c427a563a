-- If no line goes by a delay above a bound, what stands at a time ends as soon as the bound says.
use Rattle.std.proofs.Common.{◌≡◌, ℕ, ◌+◌, ◌*◌, ◌-◌, ◌≤◌, Bool, true, false, cond, List, [], ◌∷◌, ◌++◌, ◌∙◌, Some, ap, arith, eqb-true, max, refl, subst, sym, ⊎_elim}
use Rattle.std.specs.Prelude.{Contains, nat_eq}
use Rattle.std.proofs.Math.Nat.{mul-le-mul_right}
use Rattle.std.proofs.lemmas.Option.{none-some}
use Rattle.wb_names.specs.Values.{NameValue}
use Rattle.wb_recovery.specs.Events.{constants_after, timers_of}
use Rattle.wb_recovery.specs.declared.timers.AskTimer.{AskTimer}
use Rattle.wb_recovery.specs.declared.timers.Timers.{Timers}
use Rattle.wb_progress.specs.Bounds.{AreAnswersNear, IsUnder}
use Rattle.wb_progress.specs.Turns.{Terms, longest}
use Rattle.wb_member.specs.Judged.{delay}
use Rattle.wb_member.specs.Opened.{Opened, events, present}
use Rattle.wb_member.specs.declared.calls.Call.TheVariants.{Ask, Look}
use Rattle.wb_keeping.specs.Kept.{Calls}
use Rattle.wb_keeping.specs.Performing.{after_line}
use Rattle.wb_kept_progress.specs.Sessions.{Opening}
use Rattle.wb_kept_progress.specs.Timed.{AreInOrder, At, DelaysAreShort, GoByShort, Start, goes_by_delays, host_after, performed, start_of, time_of, timers_after, until}
use Rattle.wb_kept_progress.proofs.AskedSince.{line_answers, line_asked, none_at_first}
use Rattle.wb_kept_progress.proofs.CallLines.{made_by_policy}
use Rattle.wb_kept_progress.proofs.Timely.{KeepClocks, clock_by, split_back}
use Rattle.wb_keeping.specs.Laws.{KeptLine}
use Rattle.wb_member.specs.Lines.{Line}
use Rattle.wb_progress.proofs.Parts.{order_of, split_at}

module _ (hosts : ℕ → Opening) (terms : Terms) (trace : List (At KeptLine)) where
  abbrev starts : ℕ → Start
  starts j = start_of (hosts j)

  abbrev all : List (At Line)
  all = performed hosts trace

  -- constants at each part
  abbrev pub AreUnder : Type 0
  AreUnder = (newer older : List (At Line)) (i : ℕ) → all ≡ newer ++ older → Contains terms.live i → let host = host_after starts older i in IsUnder (longest terms) (constants_after host.is.constants (events host))

  module _ (clocks : KeepClocks starts terms all) (tuned : AreUnder) (short : GoByShort starts terms all) where
    -- a line by `quiet`, and the host before it
    module _ (front older : List (At Line)) (e : At Line) (i : ℕ) (split : all ≡ front ++ e ∷ older) (live : Contains terms.live i) (here : e.place ≡ i) (early : e.time ≤ terms.quiet) where
      abbrev h : Opened
      h = host_after starts older i

      part : all ≡ (front ++ e ∷ []) ++ older
      part = split_back all front older e split

      order : time_of older ≤ e.time
      order = (order_of front (e ∷ older) (subst AreInOrder split clocks.order)).0

      goes_short : goes_by_delays e.event ≡ true → (source : ℕ) → delay h source ≤ terms.far
      goes_short goes source = subst (λ (k : ℕ). delay (host_after starts older k) source ≤ terms.far) here (short front older e source split (subst (Contains terms.live) (sym here) live) goes)

      under : IsUnder (longest terms) (constants_after h.is.constants (events h))
      under = tuned (front ++ e ∷ []) older i part live

      moment_before : present h + terms.lag i ≤ terms.quiet
      moment_before = let c = clock_by starts terms all clocks (front ++ e ∷ []) older i part live in let o = order in omega (arith, c, o, early)

    early_older : (front older : List (At Line)) (e : At Line) → all ≡ front ++ e ∷ older → e.time ≤ terms.quiet → time_of older ≤ terms.quiet
    early_older front older e split early = let o = (order_of front (e ∷ older) (subst AreInOrder split clocks.order)).0 in omega (arith, o, early)

    -- ---- request timers

    abbrev DueSoon : ℕ → AskTimer → Type 0
    DueSoon i ask = ask.due + terms.lag i ≤ terms.quiet + terms.asking * terms.far

    asks : (front part : List (At Line)) (i : ℕ) (n : NameValue) (ask : AskTimer) → all ≡ front ++ part → Contains terms.live i → time_of part ≤ terms.quiet → (timers_after starts part i n).ask ≡ Some ask → ask.level ≡ 0 → DueSoon i ask
    asks front [] i n ask split live early stands level = absurd (none-some ask (sym (ap (λ (s : Timers). s.ask) (none_at_first starts i n)) ∙ stands))
    asks front (e ∷ older) i n ask split live early stands level = from (nat_eq e.place i) refl stands (asks (front ++ e ∷ []) older i n ask (split_back all front older e split) live (early_older front older e split early)) where
      host : Opened
      host = host_after starts older i

      from : (b : Bool) → nat_eq e.place i ≡ b → (let g = cond b (after_line e.event host) host in (timers_of g.is.constants (events g) n).ask ≡ Some ask)
          → ((timers_after starts older i n).ask ≡ Some ask → ask.level ≡ 0 → DueSoon i ask) → DueSoon i ask
      from false other is rest = rest is level
      from true same is rest =
          let here = eqb-true e.place i same in
          ⊎_elim
          (λ (stood : (timers_of host.is.constants (events host) n).ask ≡ Some ask). rest stood level)
          (λ (set : (e.event ≡ Calls (Ask n)) × ((goes_by_delays e.event ≡ true → (source : ℕ) → delay host source ≤ terms.far) → ask.due ≤ present host + ((longest terms).c1 + (longest terms).c2) * terms.far)).
          let due = set.1 (goes_short front older e i split live here early) in
          let m = moment_before front older e i split live here early in
          let most : ((longest terms).c1 + (longest terms).c2) * terms.far ≤ terms.asking * terms.far = mul-le-mul_right terms.far (omega arith) in
          omega (arith, due, m, most))
          (line_asked e.event host terms.far (longest terms) n (under front older e i split live here early) (λ page. made_by_policy hosts trace front older e (Look page) split) ask is level)

    -- ---- answers

    abbrev Near : ℕ → NameValue → Opened → Type 0
    Near i n host = AreAnswersNear (longest terms) terms.far (terms.quiet - terms.lag i) (timers_of host.is.constants (events host) n)

    answers : (front part : List (At Line)) (i : ℕ) (n : NameValue) → all ≡ front ++ part → Contains terms.live i → time_of part ≤ terms.quiet → Near i n (host_after starts part i)
    answers front [] i n split live early = subst (AreAnswersNear (longest terms) terms.far (terms.quiet - terms.lag i)) (sym (none_at_first starts i n)) (record { answer = tt; quiet = omega arith })
    answers front (e ∷ older) i n split live early =
        from (nat_eq e.place i) refl (clock_by starts terms all clocks front (e ∷ older) i split live) (answers (front ++ e ∷ []) older i n (split_back all front older e split) live (early_older front older e split early)) where
          host : Opened
          host = host_after starts older i

          from : (b : Bool) → nat_eq e.place i ≡ b → present (cond b (after_line e.event host) host) + terms.lag i ≤ max e.time terms.quiet → Near i n host → Near i n (cond b (after_line e.event host) host)
          from false other by rest = rest
          from true same by rest =
              let here = eqb-true e.place i same in
              line_answers e.event host terms.far (longest terms) n (under front older e i split live here early) (terms.quiet - terms.lag i) (goes_short front older e i split live here early) (omega (arith, by, early)) rest

    pub short_then : DelaysAreShort starts terms all
    short_then =
        let p = split_at terms.quiet all in
        record {
          goes = λ newer older e source split live late goes. short newer older e source split live goes;
          asks = λ i n ask live stands level. asks p.newer (until terms.quiet all) i n ask p.split live p.by stands level;
          answers = λ i n live. answers p.newer (until terms.quiet all) i n p.split live p.by;
        }
