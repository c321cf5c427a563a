-- What stands at a time, and which delays lines go by from then on, as it computes.
use Rattle.std.proofs.Common.{◌≡◌, ◌⊎◌, ℕ, ◌+◌, ◌*◌, ◌-◌, ◌<◌, ◌≤◌, Bool, true, false, not, ◌&&◌, ◌||◌, cond, List, [], ◌∷◌, ◌++◌, ◌∙◌, Option, None, Some, ap, arith, eq-eqb, eqb-true, inl, inr, nat_eq, nat_le, refl, subst, sym, true≢false, ⊎_elim}
use Rattle.std.specs.Prelude.{Contains, IfSome, if◌then◌else◌, unwrap_or}
use Rattle.std.specs.Option.{option_or}
use Rattle.std.proofs.lemmas.Bool.{and_parts, le-leb, leb-true, lt-leb, not-true, or_cases}
use Rattle.std.proofs.lemmas.Bool.Decides.{leb_tells}
use Rattle.wb_names.specs.Values.{NameValue}
use Rattle.wb_names.proofs.Listings.{Contains-here, Contains-there}
use Rattle.wb_codec.specs.declared.datagram.Datagram.{Datagram}
use Rattle.wb_codec.specs.declared.datagram.Datagram.TheVariants.{AskPages, Draw, PageState, Request, Session}
use Rattle.wb_recovery.specs.Events.{names_of, timers_of}
use Rattle.wb_recovery.specs.Timing.{no_timers}
use Rattle.wb_recovery.specs.declared.timers.AnswerTimer.{AnswerTimer}
use Rattle.wb_recovery.specs.declared.timers.AskTimer.{AskTimer}
use Rattle.wb_recovery.specs.declared.timers.Timers.{Timers}
use Rattle.wb_recovery.proofs.NameLists.{known}
use Rattle.wb_keeper.specs.Keeper.{Arrive, GiveUp, GoOn, Hear, KeeperCall, Miss, Report, SetConstants, SetDelay, delay_given, is_own, newest}
use Rattle.wb_progress.specs.Bounds.{AreAnswersNear, IsAnswerNear}
use Rattle.wb_progress.specs.Turns.{Terms, longest}
use Rattle.wb_member.specs.Judged.{delay}
use Rattle.wb_member.specs.Opened.{Opened, events, opened_with}
use Rattle.wb_keeping.specs.Kept.{Line}
use Rattle.wb_keeping.specs.Laws.{KeptLine, doing_of}
use Rattle.wb_keeping.specs.Performing.{Keeping, after_doing, sees}
use Rattle.wb_keeping.proofs.KeptDelays.{AreSo, ticks_so}
use Rattle.wb_kept_progress.specs.Sessions.{Opening}
use Rattle.wb_kept_progress.specs.Timed.{AreInOrder, At, DelaysAreShort, Start, host_after, performed, performed_then, start_of, timers_after, until}
use Rattle.wb_kept_progress.specs.Whole.{there}
use Rattle.wb_kept_progress.proofs.CallLines.{host_before, lines_have_calls}
use Rattle.wb_kept_progress.proofs.CallParts.{host_is}
use Rattle.wb_kept_progress.proofs.KeptInTime.{time_is}
use Rattle.wb_kept_progress.proofs.ShortTested.{all_near, call_near, near_at, told_near}
use Rattle.wb_kept_progress.proofs.Testing.{each, each-at}
use Rattle.wb_kept_progress.proofs.WholeParts.{does}
use Rattle.wb_progress.proofs.Parts.{until_whole, before_end}

-- ---- whose delay a call may tell

abbrev sender_of : Datagram → Option ℕ
sender_of (Session sender sent page marks echoes) = Some sender
sender_of (Draw d) = None
sender_of (Request asker name) = None
sender_of (AskPages asker) = None
sender_of (PageState sender page marks) = None

abbrev told_of : KeeperCall → Option ℕ
told_of (SetDelay source micros) = Some source
told_of (Hear now v word held) = sender_of v
told_of call = None

abbrev IsToldBy : ℕ → ℕ → KeeperCall → Type 0
IsToldBy me source call = (delay_given me source call ≡ None) ⊎ (told_of call ≡ Some source)

told_if : {X : Type 0} (s source : ℕ) (x : Option X) → (cond (nat_eq s source) x None ≡ None) ⊎ (Some s ≡ Some source)
told_if s source x = by (nat_eq s source) refl where
  by : (b : Bool) → nat_eq s source ≡ b → (cond b x None ≡ None) ⊎ (Some s ≡ Some source)
  by true e = inr (ap Some (eqb-true s source e))
  by false e = inl refl

unless_own : {X : Type 0} (b : Bool) (x : Option X) (o : Option ℕ) (source : ℕ) → (x ≡ None) ⊎ (o ≡ Some source) → (cond b None x ≡ None) ⊎ (o ≡ Some source)
unless_own true x o source told = inl refl
unless_own false x o source told = told

told_one : (me source : ℕ) (call : KeeperCall) → IsToldBy me source call
told_one me source (SetDelay s micros) = told_if s source (Some micros)
told_one me source (Hear now (Session sender sent page marks echoes) word held) = unless_own (is_own me (Session sender sent page marks echoes)) _ (Some sender) source (told_if sender source _)
told_one me source (Hear now (Draw d) word held) = unless_own (is_own me (Draw d)) None None source (inl refl)
told_one me source (Hear now (Request asker name) word held) = unless_own (is_own me (Request asker name)) None None source (inl refl)
told_one me source (Hear now (AskPages asker) word held) = unless_own (is_own me (AskPages asker)) None None source (inl refl)
told_one me source (Hear now (PageState sender page marks) word held) = unless_own (is_own me (PageState sender page marks)) None None source (inl refl)
told_one me source (SetConstants constants) = inl refl
told_one me source (Arrive now held) = inl refl
told_one me source (Miss now names words) = inl refl
told_one me source (GoOn now words stopped) = inl refl
told_one me source (Report now) = inl refl
told_one me source (GiveUp now name asked) = inl refl

-- either no call tells it, or one may
told_or_none : (me source : ℕ) (calls : List KeeperCall) → (newest (delay_given me source) calls ≡ None) ⊎ ((call : KeeperCall) × Contains calls call × (told_of call ≡ Some source))
told_or_none me source [] = inl refl
told_or_none me source (call ∷ calls) = ⊎_elim
    (λ (none : delay_given me source call ≡ None). ⊎_elim
    (λ (rest : newest (delay_given me source) calls ≡ None). inl (ap (λ (o : Option ℕ). option_or o (newest (delay_given me source) calls)) none ∙ rest))
    (λ (c : (other : KeeperCall) × Contains calls other × (told_of other ≡ Some source)). inr (c.0, Contains-there call c.0 calls c.1, c.2))
    (told_or_none me source calls))
    (λ (told : told_of call ≡ Some source). inr (call, Contains-here call calls, told))
    (told_one me source call)

module _ (hosts : ℕ → Opening) (terms : Terms) where
  abbrev starts : ℕ → Start
  starts j = start_of (hosts j)

  -- ---- tests of a host

  abbrev source_near : Opened → Option ℕ → Bool
  source_near host None = true
  source_near host (Some source) = nat_le (delay host source) terms.far

  -- each delay that a call may tell
  abbrev pub delays_near : Opened → Bool
  delays_near host = each (λ (call : KeeperCall). source_near host (told_of call)) host.is.calls

  near_so : 100000 ≤ terms.far → (host : Opened) → delays_near host ≡ true → AreSo (λ micros. micros ≤ terms.far) host
  near_so unknown host near source = ⊎_elim
      (λ (none : newest (delay_given host.is.number source) host.is.calls ≡ None). subst (λ (o : Option ℕ). unwrap_or o 100000 ≤ terms.far) (sym none) unknown)
      (λ (c : (call : KeeperCall) × Contains host.is.calls call × (told_of call ≡ Some source)).
      leb-true _ _ (subst (λ (o : Option ℕ). source_near host o ≡ true) c.2 (each-at (λ (call : KeeperCall). source_near host (told_of call)) host.is.calls c.0 near c.1)))
      (told_or_none host.is.number source host.is.calls)

  abbrev ask_near : ℕ → Option AskTimer → Bool
  ask_near i None = true
  ask_near i (Some ask) = not (nat_eq ask.level 0) || nat_le (ask.due + terms.lag i) (terms.quiet + terms.asking * terms.far)

  abbrev answer_near : ℕ → Option AnswerTimer → Bool
  answer_near i None = true
  answer_near i (Some answer) = nat_le answer.due ((terms.quiet - terms.lag i) + (terms.answering + 0) * answer.delay) && nat_le answer.delay terms.far

  abbrev timers_near : ℕ → Timers → Bool
  timers_near i s = ask_near i s.ask && (answer_near i s.answer && nat_le s.quiet ((terms.quiet - terms.lag i) + 3 * terms.far))

  -- what stands of each name
  abbrev pub stand_near : ℕ → Opened → Bool
  stand_near i host = each (λ (n : NameValue). timers_near i (timers_of host.is.constants (events host) n)) (names_of (events host))

  none_stands : (i : ℕ) → timers_near i no_timers ≡ true
  none_stands i = le-leb 0 ((terms.quiet - terms.lag i) + 3 * terms.far) (omega arith)

  near_each : (i : ℕ) (host : Opened) → stand_near i host ≡ true → (n : NameValue) → timers_near i (timers_of host.is.constants (events host) n) ≡ true
  near_each i host near n = ⊎_elim
      (λ (none : timers_of host.is.constants (events host) n ≡ no_timers). ap (timers_near i) none ∙ none_stands i)
      (λ (c : Contains (names_of (events host)) n). each-at (λ (m : NameValue). timers_near i (timers_of host.is.constants (events host) m)) (names_of (events host)) n near c)
      (known host.is.constants (events host) n)

  asks_so : (i : ℕ) (o : Option AskTimer) (ask : AskTimer) → ask_near i o ≡ true → o ≡ Some ask → ask.level ≡ 0 → ask.due + terms.lag i ≤ terms.quiet + terms.asking * terms.far
  asks_so i o ask near is level = ⊎_elim
      (λ (backed : not (nat_eq ask.level 0) ≡ true). absurd (true≢false (sym (eq-eqb ask.level 0 level) ∙ not-true _ backed)))
      (λ (le : nat_le (ask.due + terms.lag i) (terms.quiet + terms.asking * terms.far) ≡ true). leb-true _ _ le)
      (or_cases (not (nat_eq ask.level 0)) _ (subst (λ (k : Option AskTimer). ask_near i k ≡ true) is near))

  answer_so : (i : ℕ) (o : Option AnswerTimer) → answer_near i o ≡ true → IfSome o (IsAnswerNear (longest terms) terms.far (terms.quiet - terms.lag i))
  answer_so i None near = tt
  answer_so i (Some answer) near = let p = and_parts _ _ near in record { due = leb-true _ _ p.0; delay = leb-true _ _ p.1 }

  answers_so : (i : ℕ) (s : Timers) → timers_near i s ≡ true → AreAnswersNear (longest terms) terms.far (terms.quiet - terms.lag i) s
  answers_so i s near =
      let p = and_parts (ask_near i s.ask) _ near in
      let q = and_parts (answer_near i s.answer) _ p.1 in
      record { answer = answer_so i s.answer q.0; quiet = leb-true _ _ q.1 }

  -- ---- tests of a session

  -- the calls up to `quiet`
  abbrev pub early : List (At KeptLine) → List (At KeptLine)
  early [] = []
  early (e ∷ older) = if nat_le e.time terms.quiet then e ∷ older else early older

  -- from `quiet` on each call tells near delays, and so do those before
  abbrev pub near_since : List (At KeptLine) → Bool
  near_since [] = true
  near_since (e ∷ older) = if nat_le e.time terms.quiet then each (λ (i : ℕ). delays_near (there hosts (e ∷ older) i).host) terms.live else (call_near hosts terms e (there hosts older e.place) && near_since older)

  abbrev pub stands_at : List (At KeptLine) → Bool
  stands_at part = each (λ (i : ℕ). stand_near i (there hosts part i).host) terms.live

  until_lines : (time place : ℕ) (lines : List Line) (older : List (At Line)) → terms.quiet < time → until terms.quiet (performed_then time place lines older) ≡ until terms.quiet older
  until_lines time place [] older late = refl
  until_lines time place (line ∷ lines) older late =
      until_lines time place lines (record { time = time; place = place; event = line } ∷ older) late
      ∙ ap (λ (b : Bool). cond b (record { time = time; place = place; event = line } ∷ older) (until terms.quiet older)) (lt-leb time terms.quiet late)

  until_early : (trace : List (At KeptLine)) → until terms.quiet (performed hosts trace) ≡ performed hosts (early trace)
  until_early [] = refl
  until_early (e ∷ older) = by (until_early older) (nat_le e.time terms.quiet) (leb_tells e.time terms.quiet) where
    by : until terms.quiet (performed hosts older) ≡ performed hosts (early older) → (b : Bool) → ((b ≡ true) × (e.time ≤ terms.quiet)) ⊎ ((b ≡ false) × (terms.quiet < e.time)) → until terms.quiet (performed hosts (e ∷ older)) ≡ performed hosts (cond b (e ∷ older) (early older))
    by rest true tells = until_whole terms.quiet (performed hosts (e ∷ older)) (subst (λ (t : ℕ). t ≤ terms.quiet) (sym (time_is hosts (e ∷ older))) (⊎_elim (λ yes. yes.1) (λ no. absurd (true≢false no.0)) tells))
    by rest false tells = ⊎_elim
        (λ yes. absurd (true≢false (sym yes.0)))
        (λ no. until_lines e.time e.place (does hosts e older) (performed hosts older) no.1 ∙ rest)
        tells

  -- after `quiet`
  near_late : (e : At KeptLine) (older : List (At KeptLine)) → terms.quiet < e.time → near_since (e ∷ older) ≡ true → (call_near hosts terms e (there hosts older e.place) && near_since older) ≡ true
  near_late e older late near =
      subst (λ (b : Bool). cond b (each (λ (i : ℕ). delays_near (there hosts (e ∷ older) i).host) terms.live) (call_near hosts terms e (there hosts older e.place) && near_since older) ≡ true) (lt-leb e.time terms.quiet late) near

  near_before : (newer older : List (At KeptLine)) (e : At KeptLine) → AreInOrder (newer ++ e ∷ older) → terms.quiet < e.time → near_since (newer ++ e ∷ older) ≡ true → near_since (e ∷ older) ≡ true
  near_before [] older e order late near = near
  near_before (x ∷ newer) older e order late near =
      let rest = newer ++ e ∷ older in
      let le = before_end newer (e ∷ older) order.1 in
      let o = order.0 in
      near_before newer older e order.1 late (and_parts (call_near hosts terms x (there hosts rest x.place)) _ (near_late x rest (omega (arith, le, o, late)) near)).1

  -- what stands of a name at `quiet`
  abbrev pub there_stands : List (At KeptLine) → ℕ → NameValue → Timers
  there_stands trace i n = let host = (there hosts (early trace) i).host in timers_of host.is.constants (events host) n

  pub stood : (trace : List (At KeptLine)) (i : ℕ) (n : NameValue) → timers_after starts (until terms.quiet (performed hosts trace)) i n ≡ there_stands trace i n
  stood trace i n =
      ap (λ (t : List (At Line)). timers_after starts t i n) (until_early trace)
      ∙ ap (λ (h : Opened). timers_of h.is.constants (events h) n) (host_is hosts (early trace) i)

  module _ (unknown : 100000 ≤ terms.far) where
    are_near : (calls : List (At KeptLine)) → near_since calls ≡ true → (i : ℕ) → Contains terms.live i → AreSo (λ micros. micros ≤ terms.far) (there hosts calls i).host
    are_near [] near i live = ticks_so (λ micros. micros ≤ terms.far) (hosts i).moments (opened_with (hosts i).constants (hosts i).number (hosts i).cells (hosts i).seed) (λ source. unknown)
    are_near (e ∷ older) near i live = by (λ rest. are_near older rest i live) (leb_tells e.time terms.quiet) where
      k : Keeping
      k = there hosts older i

      Rest : Type 0
      Rest = near_since older ≡ true → AreSo (λ micros. micros ≤ terms.far) (there hosts older i).host

      late_so : Rest → terms.quiet < e.time → AreSo (λ micros. micros ≤ terms.far) (there hosts (e ∷ older) i).host
      late_so rest late = here (nat_eq e.place i) refl (rest p.1) where
        p : (call_near hosts terms e (there hosts older e.place) ≡ true) × (near_since older ≡ true)
        p = and_parts _ _ (near_late e older late near)

        here : (b : Bool) → nat_eq e.place i ≡ b → AreSo (λ micros. micros ≤ terms.far) k.host → AreSo (λ micros. micros ≤ terms.far) (cond b (after_doing (doing_of e.event) k) k).host
        here true same so = all_near hosts terms (doing_of e.event (sees k.host) k.policy).lines k.host (subst (λ (j : ℕ). call_near hosts terms e (there hosts older j) ≡ true) (eqb-true e.place i same) p.0) so
        here false apart so = so

      by : Rest → ((nat_le e.time terms.quiet ≡ true) × (e.time ≤ terms.quiet)) ⊎ ((nat_le e.time terms.quiet ≡ false) × (terms.quiet < e.time)) → AreSo (λ micros. micros ≤ terms.far) (there hosts (e ∷ older) i).host
      by rest (inl soon) = near_so unknown (there hosts (e ∷ older) i).host (each-at (λ (j : ℕ). delays_near (there hosts (e ∷ older) j).host) terms.live i
          (subst (λ (b : Bool). cond b (each (λ (j : ℕ). delays_near (there hosts (e ∷ older) j).host) terms.live) (call_near hosts terms e (there hosts older e.place) && near_since older) ≡ true) soon.0 near) live)
      by rest (inr late) = late_so rest late.1

    goes_short : (trace : List (At KeptLine)) → AreInOrder trace → near_since trace ≡ true → (newer older : List (At Line)) (x : At Line) (source : ℕ) → performed hosts trace ≡ newer ++ x ∷ older → Contains terms.live x.place → terms.quiet < x.time
        → delay (host_after starts older x.place) source ≤ terms.far
    goes_short trace order near newer older x source split live late =
        let c = lines_have_calls hosts trace newer x older split in
        let k = there hosts c.older c.e.place in
        let late_call : terms.quiet < c.e.time = subst (λ (t : ℕ). terms.quiet < t) c.time late in
        let here = near_before c.newer c.older c.e (subst AreInOrder c.split order) late_call (subst (λ (calls : List (At KeptLine)). near_since calls ≡ true) c.split near) in
        let p = and_parts (call_near hosts terms c.e k) _ (near_late c.e c.older late_call here) in
        let told = subst (λ (lines : List Line). told_near hosts terms lines k.host ≡ true) c.lines p.0 in
        let so = near_at hosts terms c.before c.later x.event k.host told (are_near c.older p.1 c.e.place (subst (Contains terms.live) c.place live)) in
        subst (AreSo (λ micros. micros ≤ terms.far)) (sym (host_before hosts trace x older c)) so source

    pub short_of : (trace : List (At KeptLine)) → AreInOrder trace → near_since trace ≡ true → stands_at (early trace) ≡ true → DelaysAreShort starts terms (performed hosts trace)
    short_of trace order near stands = record {
      goes = λ newer older e source split live late goes. goes_short trace order near newer older e source split live late;
      asks = λ i n ask live is level. asks_so i (there_stands trace i n).ask ask (and_parts (ask_near i (there_stands trace i n).ask) _ (test i n live)).0 (ap (λ (s : Timers). s.ask) (sym (stood trace i n)) ∙ is) level;
      answers = λ i n live. subst (AreAnswersNear (longest terms) terms.far (terms.quiet - terms.lag i)) (sym (stood trace i n)) (answers_so i (there_stands trace i n) (test i n live));
    } where
      test : (i : ℕ) (n : NameValue) → Contains terms.live i → timers_near i (there_stands trace i n) ≡ true
      test i n live = near_each i (there hosts (early trace) i).host (each-at (λ (j : ℕ). stand_near j (there hosts (early trace) j).host) terms.live i stands live) n
