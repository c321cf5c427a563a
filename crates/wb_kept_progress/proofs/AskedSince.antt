-- What one line makes of timers. And a request timer that was not backed off was set by a line that asks for its name, and is due soon behind that.
use Rattle.std.proofs.Common.{◌≡◌, ℕ, ◌+◌, ◌*◌, ◌<◌, ◌≤◌, Bool, true, false, cond, List, [], ◌∷◌, ◌++◌, ◌∙◌, Some, ap, arith, eqb-true, inl, inr, max, refl, subst, sym, ⊎_elim}
use Rattle.std.specs.Prelude.{◌⊎◌, Contains, nat_eq, nat_le}
use Rattle.std.proofs.lemmas.Bool.Decides.{leb_tells}
use Rattle.std.proofs.Math.Nat.{mul-le-mul_right}
use Rattle.wb_names.specs.Values.{NameValue}
use Rattle.wb_names.specs.declared.name.PageId.{PageId}
use Rattle.wb_recovery.specs.Events.{constants_after, timers_of}
use Rattle.wb_recovery.specs.declared.timers.AskTimer.{AskTimer}
use Rattle.wb_recovery.specs.declared.timers.Timers.{Timers}
use Rattle.wb_recovery.specs.declared.tuning.Tuning.{Tuning}
use Rattle.wb_keeper.specs.Keeper.{KeeperCall, Miss, moment_at}
use Rattle.wb_progress.specs.Bounds.{AreAnswersNear, IsUnder}
use Rattle.wb_progress.specs.Calls.{Misses}
use Rattle.wb_progress.specs.Keepers.{IsWithin}
use Rattle.wb_progress.specs.Repairs.{timers_at}
use Rattle.wb_progress.specs.Turns.{Terms, longest}
use Rattle.wb_progress.proofs.Calls.{fresh_ask}
use Rattle.wb_progress.proofs.KeeperBounds.{answers_stay_near}
use Rattle.wb_member.specs.Judged.{delay}
use Rattle.wb_member.specs.Opened.{Opened, events, opened_with, present}
use Rattle.wb_member.specs.declared.calls.Call.TheVariants.{Look, Ask}
use Rattle.wb_keeping.specs.Kept.{Line, Calls}
use Rattle.wb_keeping.specs.Performing.{after_line}
use Rattle.wb_kept_progress.specs.Sessions.{Opening}
use Rattle.wb_kept_progress.specs.Timed.{AreInOrder, At, IsTimely, Start, goes_by_delays, host_after, performed, start_of, time_of, timers_after, until}
use Rattle.wb_kept_progress.proofs.Begun.{HasNoTimers, tick_no_timers, ticks_keep}
use Rattle.wb_kept_progress.proofs.CallLines.{made_by_policy}
use Rattle.wb_kept_progress.proofs.Lines.{line_of}
use Rattle.wb_kept_progress.proofs.PerLine.{AsksOrLooks, IsMade, goes_by, line_did}
use Rattle.wb_kept_progress.proofs.Timely.{clock, split_part}
use Rattle.std.proofs.lemmas.Option.{none-some}
use Rattle.wb_keeping.specs.Laws.{KeptLine}
use Rattle.wb_progress.proofs.Parts.{until_last, order_of}

pub none_at_first : (hosts : ℕ → Start) (i : ℕ) (n : NameValue) → HasNoTimers n (host_after hosts [] i)
none_at_first hosts i n = ticks_keep (HasNoTimers n) (tick_no_timers n) (hosts i).moments (opened_with (hosts i).constants (hosts i).number (hosts i).cells (hosts i).seed) refl

-- ---- one line

module _ (line : Line) (host : Opened) (far : ℕ) (bound : Tuning) (n : NameValue) (under : IsUnder bound (constants_after host.is.constants (events host))) where
  abbrev next : Opened
  next = after_line line host

  abbrev wait : ℕ
  wait = (bound.c1 + bound.c2) * far

  -- it goes by no greater delay
  abbrev Short : Type 0
  Short = goes_by_delays line ≡ true → (source : ℕ) → delay host source ≤ far

  abbrev timers_by : ℕ → Tuning → List KeeperCall → Timers
  timers_by me t calls = timers_at me t calls n

  -- the member stays whose it is
  same_timers : timers_by next.is.number next.is.constants next.is.calls ≡ timers_by host.is.number host.is.constants next.is.calls
  same_timers =
      let o = line_of line host in
      ap (λ (me : ℕ). timers_by me next.is.constants next.is.calls) o.number
      ∙ ap (λ (t : Tuning). timers_by host.is.number t next.is.calls) o.constants

  fits : (call : KeeperCall) → IsMade host line call → Short → IsWithin far bound host.is.number host.is.constants call host.is.calls
  fits call made short = record { delays = λ uses. short (goes_by host line call made uses); constants = under }

  missed : (single : (page : PageId) → line ≡ Calls (Look page) → ⊥) (call : KeeperCall) (ask : AskTimer) → IsMade host line call → (m : Misses n call) → (Short → ask.due ≤ moment_at (call ∷ []) + wait)
      → (line ≡ Calls (Ask n)) × (Short → ask.due ≤ present host + wait)
  missed single call ask made m due =
      let is : IsMade host line (Miss m.now m.names m.words) = subst (IsMade host line) m.is made in
      (asks (is.0 n m.named), λ short. subst (λ (now : ℕ). ask.due ≤ now + wait) (ap (λ (c : KeeperCall). moment_at (c ∷ [])) m.is ∙ is.2) (due short)) where
        asks : AsksOrLooks line n → line ≡ Calls (Ask n)
        asks (inl is) = is
        asks (inr looks) = absurd (single looks.0 looks.1)

  -- a request timer stood before the line, or the line asks for the name
  pub line_asked : (single : (page : PageId) → line ≡ Calls (Look page) → ⊥) (ask : AskTimer) → (timers_of next.is.constants (events next) n).ask ≡ Some ask → ask.level ≡ 0
      → ((timers_of host.is.constants (events host) n).ask ≡ Some ask) ⊎ ((line ≡ Calls (Ask n)) × (Short → ask.due ≤ present host + wait))
  line_asked single ask is level = ⊎_elim
      (λ (same : next.is.calls ≡ host.is.calls). inl (ap (λ (s : Timers). s.ask) (sym (same_timers ∙ ap (timers_by host.is.number host.is.constants) same)) ∙ is))
      (λ (c : (call : KeeperCall) × (next.is.calls ≡ call ∷ host.is.calls) × IsMade host line call). ⊎_elim
      (λ (stood : (timers_by host.is.number host.is.constants host.is.calls).ask ≡ Some ask). inl stood)
      (λ (m : Misses n c.0 × (IsWithin far bound host.is.number host.is.constants c.0 host.is.calls → ask.due ≤ moment_at (c.0 ∷ []) + wait)). inr (missed single c.0 ask c.2 m.0 (λ short. m.1 (fits c.0 c.2 short))))
      (fresh_ask far host.is.number bound host.is.constants c.0 host.is.calls n ask (ap (λ (s : Timers). s.ask) (sym (same_timers ∙ ap (timers_by host.is.number host.is.constants) c.1)) ∙ is) level))
      (line_did line host)

  -- answers that are near a moment that the line is not after stay so
  pub line_answers : (moment : ℕ) → Short → present next ≤ moment → AreAnswersNear bound far moment (timers_of host.is.constants (events host) n) → AreAnswersNear bound far moment (timers_of next.is.constants (events next) n)
  line_answers moment short by near = subst (AreAnswersNear bound far moment) (sym same_timers) (⊎_elim
      (λ (same : next.is.calls ≡ host.is.calls). subst Near (sym same) near)
      (λ (c : (call : KeeperCall) × (next.is.calls ≡ call ∷ host.is.calls) × IsMade host line call). subst Near (sym c.1)
      (answers_stay_near far host.is.number bound host.is.constants c.0 host.is.calls moment n (fits c.0 c.2 short) (subst (λ (calls : List KeeperCall). moment_at calls ≤ moment) c.1 by) near))
      (line_did line host)) where
        Near : List KeeperCall → Type 0
        Near calls = AreAnswersNear bound far moment (timers_by host.is.number host.is.constants calls)

-- ---- a session that keeps to times

module _ (hosts : ℕ → Opening) (terms : Terms) (trace : List (At KeptLine)) (timely : IsTimely (λ j. start_of (hosts j)) terms (performed hosts trace)) where
  abbrev starts : ℕ → Start
  starts j = start_of (hosts j)

  abbrev all : List (At Line)
  all = performed hosts trace

  order_at : (front part : List (At Line)) → all ≡ front ++ part → AreInOrder part
  order_at front part split = order_of front part (subst AreInOrder split timely.order)

  -- a line of these asks for the name at a place, and the timer that it sets is due within the waits of a request
  pub record WasAsked (back : List (At Line)) (i : ℕ) (n : NameValue) (ask : AskTimer) : Type 0 where
    pub newer : List (At Line)
    pub x : At Line
    pub older : List (At Line)
    pub split : back ≡ newer ++ x ∷ older
    pub place : x.place ≡ i
    pub line : x.event ≡ Calls (Ask n)
    pub due : ask.due + terms.lag i ≤ max x.time terms.quiet + terms.asking * terms.far

  -- by when a timer that stands at `quiet` is due, if it was not backed off
  abbrev DueBy : List (At Line) → AskTimer → ℕ → Type 0
  DueBy part ask i = time_of part ≤ terms.quiet → ask.due + terms.lag i ≤ terms.quiet + terms.asking * terms.far

  due_then : (front older : List (At Line)) (e : At Line) (i : ℕ) (n : NameValue) (ask : AskTimer) → all ≡ front ++ e ∷ older → terms.quiet < e.time → Contains terms.live i → (timers_after starts older i n).ask ≡ Some ask → ask.level ≡ 0 → DueBy older ask i
  due_then front older e i n ask split late live stands level le = timely.delays.asks i n ask live (subst (λ (t : List (At Line)). (timers_after starts t i n).ask ≡ Some ask) (sym last) stands) level where
    last : until terms.quiet all ≡ older
    last = ap (until terms.quiet) split ∙ until_last terms.quiet front older e (subst AreInOrder split timely.order) late le

  asked_at : (front back : List (At Line)) (i : ℕ) (n : NameValue) (ask : AskTimer) → all ≡ front ++ back → Contains terms.live i → (timers_after starts back i n).ask ≡ Some ask → ask.level ≡ 0 → DueBy back ask i → WasAsked back i n ask
  asked_at front [] i n ask split live stands level by = absurd (none-some ask (sym (ap (λ (s : Timers). s.ask) (none_at_first starts i n)) ∙ stands))
  asked_at front (e ∷ older) i n ask split live stands level by = from (nat_eq e.place i) refl stands (λ stood. asked_at (front ++ e ∷ []) older i n ask part live stood level (before stood)) where
    part : all ≡ (front ++ e ∷ []) ++ older
    part = split_part starts terms all timely front older e split

    order : AreInOrder (e ∷ older)
    order = order_at front (e ∷ older) split

    h : Opened
    h = host_after starts older i

    later : WasAsked older i n ask → WasAsked (e ∷ older) i n ask
    later w = record { newer = e ∷ w.newer; x = w.x; older = w.older; split = ap (λ (t : List (At Line)). e ∷ t) w.split; place = w.place; line = w.line; due = w.due }

    before : (timers_after starts older i n).ask ≡ Some ask → DueBy older ask i
    before stood le = ⊎_elim
        (λ (early : (nat_le e.time terms.quiet ≡ true) × (e.time ≤ terms.quiet)). by early.1)
        (λ (late : (nat_le e.time terms.quiet ≡ false) × (terms.quiet < e.time)). due_then front older e i n ask split late.1 live stood level le)
        (leb_tells e.time terms.quiet)

    wait : ℕ
    wait = ((longest terms).c1 + (longest terms).c2) * terms.far

    Short : Type 0
    Short = goes_by_delays e.event ≡ true → (source : ℕ) → delay h source ≤ terms.far

    short : e.place ≡ i → terms.quiet < e.time → Short
    short here late goes source = subst (λ (k : ℕ). delay (host_after starts older k) source ≤ terms.far) here (timely.delays.goes front older e source split (subst (Contains terms.live) (sym here) live) late goes)

    soon : e.place ≡ i → (Short → ask.due ≤ present h + wait) → ask.due + terms.lag i ≤ max e.time terms.quiet + terms.asking * terms.far
    soon here set = ⊎_elim
        (λ (early : (nat_le e.time terms.quiet ≡ true) × (e.time ≤ terms.quiet)). let due = by early.1 in omega (arith, due))
        (λ (late : (nat_le e.time terms.quiet ≡ false) × (terms.quiet < e.time)).
        let due = set (short here late.1) in
        let o = order.0 in
        let m = clock starts terms all timely (front ++ e ∷ []) older i part live in
        let most : wait ≤ terms.asking * terms.far = mul-le-mul_right terms.far (omega arith) in
        omega (arith, due, o, m, most))
        (leb_tells e.time terms.quiet)

    from : (b : Bool) → nat_eq e.place i ≡ b → (let g = cond b (after_line e.event h) h in (timers_of g.is.constants (events g) n).ask ≡ Some ask) → ((timers_after starts older i n).ask ≡ Some ask → WasAsked older i n ask) → WasAsked (e ∷ older) i n ask
    from false other is rest = later (rest is)
    from true same is rest = ⊎_elim
        (λ (stood : (timers_of h.is.constants (events h) n).ask ≡ Some ask). later (rest stood))
        (λ (asks : (e.event ≡ Calls (Ask n)) × (Short → ask.due ≤ present h + wait)). record { newer = []; x = e; older = older; split = refl; place = eqb-true e.place i same; line = asks.0; due = soon (eqb-true e.place i same) asks.1 })
        (line_asked e.event h terms.far (longest terms) n (timely.tuned (front ++ e ∷ []) older i part live) (λ page. made_by_policy hosts trace front older e (Look page) split) ask is level)

  pub was_asked : (front back : List (At Line)) (i : ℕ) (n : NameValue) (ask : AskTimer) → all ≡ front ++ back → terms.quiet < time_of back → Contains terms.live i → (timers_after starts back i n).ask ≡ Some ask → ask.level ≡ 0 → WasAsked back i n ask
  was_asked front back i n ask split late live stands level = asked_at front back i n ask split live stands level (λ le. absurd (omega (arith, le, late)))

  -- it stands where a line comes from `quiet` on
  pub was_asked_before : (front back : List (At Line)) (x : At Line) (i : ℕ) (n : NameValue) (ask : AskTimer) → all ≡ front ++ x ∷ back → terms.quiet < x.time → Contains terms.live i → (timers_after starts back i n).ask ≡ Some ask → ask.level ≡ 0 → WasAsked back i n ask
  was_asked_before front back x i n ask split late live stands level = asked_at (front ++ x ∷ []) back i n ask (split_part starts terms all timely front back x split) live stands level (due_then front back x i n ask split late live stands level)
