-- What one call of a keeper makes of the timers of a name.
use Rattle.std.proofs.Common.{◌≡◌, ℕ, ◌+◌, ◌*◌, ◌≤◌, Bool, true, false, cond, List, [], ◌∷◌, Option, Some, None, refl, ap, ◌∙◌, sym, subst, arith, ◌⊎◌, inl, inr, ⊎_elim, eqb-true, eq-eqb, true≢false}
use Rattle.std.specs.Prelude.{Contains, IfSome, min, nat_eq, nat_le, is_none, ◌&&◌}
use Rattle.std.proofs.Math.Nat.{mul-le-mul_left, mul-le-mul_right}
use Rattle.wb_names.specs.Values.{NameValue}
use Rattle.wb_names.specs.Orders.{same_name}
use Rattle.wb_names.proofs.Orders.{same_name-here, same_name-is}
use Rattle.wb_names.proofs.Listings.{Contains-here, Contains-there, Contains-cases, Contains-none}
use Rattle.wb_codec.specs.declared.datagram.Datagram.{Datagram}
use Rattle.wb_codec.specs.declared.datagram.Datagram.TheVariants.{Draw, Session, Request, AskPages, PageState}
use Rattle.wb_recovery.specs.Timing.{new_ask, new_answer, backed_off, fired_ask, fired_answer, heard_ask, quiet_after, noticed, asked, ticked}
use Rattle.wb_recovery.specs.Events.{Event, Notice, Asked, constants_after, timers_of, names_of, due_asks, word_for}
use Rattle.wb_recovery.specs.Noticing.{notices}
use Rattle.wb_recovery.specs.Stopping.{receipts, is_received, got_each}
use Rattle.wb_recovery.specs.declared.tuning.Tuning.{Tuning}
use Rattle.wb_recovery.specs.declared.timers.AskTimer.{AskTimer}
use Rattle.wb_recovery.specs.declared.timers.AnswerTimer.{AnswerTimer}
use Rattle.wb_recovery.specs.declared.timers.Timers.{Timers}
use Rattle.wb_recovery.proofs.StoppedNames.{not_received, received_stops, timers_receipts}
use Rattle.wb_keeper.specs.Keeper.{KeeperCall, SetDelay, SetConstants, Hear, Arrive, Miss, GoOn, Report, GiveUp, moment_at, delay_to, received_of, missed_of, events_of}
use Rattle.wb_progress.specs.Bounds.{IsUnder}
use Rattle.wb_progress.specs.Calls.{Brings, Fires, Requests, Misses, AnswersGoOn, RequestsGoOn, Answers, QuietBegins, RequestsBegin, RequestsAreHeard}
use Rattle.wb_progress.specs.Keepers.{IsWithin}
use Rattle.wb_progress.specs.Repairs.{timers_at}
use Rattle.wb_progress.proofs.KeeperBounds.{answers_stay_near}
use Rattle.wb_progress.proofs.OneCall.{received_from, not_standing}
use Rattle.wb_progress.proofs.Standing.{taken}
use Rattle.wb_progress.proofs.TimerBounds.{expiry_within}
use Rattle.std.proofs.lemmas.Bool.{leb-true, false_from_ne_true}
use Rattle.std.proofs.lemmas.Option.{same_Some, none-some}

-- ---- what a call does to the timers s of a name

-- it is asked for by another
record IsHeard (me : ℕ) (n : NameValue) (call : KeeperCall) (s next : Timers) : Type 0 where
  by : Requests me n call
  delay : ℕ
  constants : Tuning
  becomes : next ≡ asked constants by.held by.now delay by.word s

-- it is missed: its request timer stays, or is set, and is then due soon if the call fits
record IsMissed (Fits : Type 0) (far : ℕ) (bound : Tuning) (now : ℕ) (s next : Timers) : Type 0 where
  answer : next.answer ≡ s.answer
  quiet : next.quiet ≡ s.quiet
  stays : (ask : AskTimer) → s.ask ≡ Some ask → next.ask ≡ Some ask
  new : Fits → s.ask ≡ None → IfSome next.ask (λ (ask : AskTimer). ask.due ≤ now + (bound.c1 + bound.c2) * far)
  lowest : s.ask ≡ None → IfSome next.ask (λ (ask : AskTimer). ask.level ≡ 0)

-- a tick that did not stop this name
record IsTicked (call : KeeperCall) (s next : Timers) : Type 0 where
  now : ℕ
  words : List ℕ
  stopped : List NameValue
  is : call ≡ GoOn now words stopped
  word : ℕ
  constants : Tuning
  becomes : next ≡ ticked constants now word s

-- what a call does over older ones; it fits if it goes by no greater delay and constants
abbrev Does : ℕ → ℕ → Tuning → Tuning → NameValue → KeeperCall → List KeeperCall → Timers → Timers → Type 0
Does far me bound t n call calls s next =
    (next ≡ s) ⊎ ((Brings n call × (next.ask ≡ None)) ⊎ (IsHeard me n call s next
    ⊎ ((Misses n call × IsMissed (IsWithin far bound me t call calls) far bound (moment_at (call ∷ [])) s next) ⊎ IsTicked call s next)))

-- ---- missed names

new_within : (bound t : Tuning) (far now delay word : ℕ) → IsUnder bound t → delay ≤ far → (new_ask t now delay word).due ≤ now + (bound.c1 + bound.c2) * far
new_within bound t far now delay word under le =
    let e = expiry_within now 0 t.c1 t.c2 delay word in
    let m = mul-le-mul_left (t.c1 + t.c2) le in
    let k = mul-le-mul_right far under.0 in
    omega (arith, e, m, k)

module _ (Fits : Type 0) (far : ℕ) (bound : Tuning) (now : ℕ) where
  untouched : (s : Timers) → s.ask ≡ s.ask → IsMissed Fits far bound now s s
  untouched s e = record { answer = refl; quiet = refl; stays = λ ask h. h; new = λ fits none. subst (λ (o : Option AskTimer). IfSome o (λ (ask : AskTimer). ask.due ≤ now + (bound.c1 + bound.c2) * far)) (sym none) tt; lowest = λ none. subst (λ (o : Option AskTimer). IfSome o (λ (ask : AskTimer). ask.level ≡ 0)) (sym none) tt }

  one_missed : (t : Tuning) (delay word : ℕ) (s : Timers) → (Fits → IsUnder bound t × (delay ≤ far)) → IsMissed Fits far bound now s (noticed t now delay word s)
  one_missed t delay word s fit = from s.ask refl where
    from : (o : Option AskTimer) → s.ask ≡ o → IsMissed Fits far bound now s (cond (is_none s.ask) (record s { ask = Some (new_ask t now delay word) }) s)
    from (Some a) e = subst (λ (o : Option AskTimer). IsMissed Fits far bound now s (cond (is_none o) (record s { ask = Some (new_ask t now delay word) }) s)) (sym e) (untouched s refl)
    from None e = subst (λ (o : Option AskTimer). IsMissed Fits far bound now s (cond (is_none o) (record s { ask = Some (new_ask t now delay word) }) s)) (sym e) (record {
      answer = refl;
      quiet = refl;
      stays = λ ask h. absurd (none-some ask (sym e ∙ h));
      new = λ fits none. let f = fit fits in new_within bound t far now delay word f.0 f.1;
      lowest = λ none. refl;
    })

  then_missed : (s mid next : Timers) → IsMissed Fits far bound now s mid → IsMissed Fits far bound now mid next → IsMissed Fits far bound now s next
  then_missed s mid next a b = record {
    answer = b.answer ∙ a.answer;
    quiet = b.quiet ∙ a.quiet;
    stays = λ ask h. b.stays ask (a.stays ask h);
    new = λ fits none. from (λ (ask : AskTimer). ask.due ≤ now + (bound.c1 + bound.c2) * far) (b.new fits) mid.ask refl (a.new fits none);
    lowest = λ none. from (λ (ask : AskTimer). ask.level ≡ 0) b.lowest mid.ask refl (a.lowest none);
  } where
    from : (Q : AskTimer → Type 0) → (mid.ask ≡ None → IfSome next.ask Q) → (o : Option AskTimer) → mid.ask ≡ o → IfSome mid.ask Q → IfSome next.ask Q
    from Q new None e near = new e
    from Q new (Some ask) e near = subst (λ (o : Option AskTimer). IfSome o Q) (sym (b.stays ask e)) (subst (λ (o : Option AskTimer). IfSome o Q) e near)

  module _ (t : Tuning) (delays : ℕ → ℕ) (short : Fits → (source : ℕ) → delays source ≤ far) (n : NameValue) where
    all_missed : (names : List NameValue) (words : List ℕ) (events : List Event) → (Fits → IsUnder bound (constants_after t events)) → (timers_of t (notices now events (missed_of delays names words)) n ≡ timers_of t events n) ⊎ (Contains names n × IsMissed Fits far bound now (timers_of t events n) (timers_of t (notices now events (missed_of delays names words)) n))
    all_missed [] words events under = inl refl
    all_missed (m ∷ names) [] events under = inl refl
    all_missed (m ∷ names) (w ∷ words) events under = from (same_name m n) refl (all_missed names words (Notice m now (delays m.source) w ∷ events) under) where
      s : Timers
      s = timers_of t events n

      end : Timers
      end = timers_of t (notices now (Notice m now (delays m.source) w ∷ events) (missed_of delays names words)) n

      from : (b : Bool) → same_name m n ≡ b
          → (end ≡ timers_of t (Notice m now (delays m.source) w ∷ events) n) ⊎ (Contains names n × IsMissed Fits far bound now (timers_of t (Notice m now (delays m.source) w ∷ events) n) end)
          → (end ≡ s) ⊎ (Contains (m ∷ names) n × IsMissed Fits far bound now s end)
      from true h rest =
          let first : timers_of t (Notice m now (delays m.source) w ∷ events) n ≡ noticed (constants_after t events) now (delays m.source) w s = ap (λ (b : Bool). cond b (noticed (constants_after t events) now (delays m.source) w s) s) h in
          let one = subst (IsMissed Fits far bound now s) (sym first) (one_missed (constants_after t events) (delays m.source) w s (λ fits. (under fits, short fits m.source))) in
          let here : Contains (m ∷ names) n = subst (λ (k : NameValue). Contains (m ∷ names) k) (same_name-is m n h) (Contains-here m names) in
          ⊎_elim
          (λ (e : end ≡ timers_of t (Notice m now (delays m.source) w ∷ events) n). inr (here, subst (IsMissed Fits far bound now s) (sym e) one))
          (λ (r : Contains names n × IsMissed Fits far bound now (timers_of t (Notice m now (delays m.source) w ∷ events) n) end). inr (here, then_missed s _ end one r.1))
          rest
      from false h rest =
          let first : timers_of t (Notice m now (delays m.source) w ∷ events) n ≡ s = ap (λ (b : Bool). cond b (noticed (constants_after t events) now (delays m.source) w s) s) h in
          ⊎_elim
          (λ (e : end ≡ timers_of t (Notice m now (delays m.source) w ∷ events) n). inl (e ∙ first))
          (λ (r : Contains names n × IsMissed Fits far bound now (timers_of t (Notice m now (delays m.source) w ∷ events) n) end). inr (Contains-there m n names r.0, subst (λ (k : Timers). IsMissed Fits far bound now k end) first r.1))
          rest

-- ---- each call

module _ (far me : ℕ) (bound t : Tuning) (calls : List KeeperCall) (n : NameValue) where
  abbrev s : Timers
  s = timers_at me t calls n

  abbrev delays : ℕ → ℕ
  delays = delay_to me calls

  abbrev events : List Event
  events = events_of me calls

  came : (now : ℕ) (delays' : ℕ → ℕ) (names : List NameValue) → (timers_of t (receipts now events (received_of delays' names)) n ≡ s) ⊎ (Contains names n × ((timers_of t (receipts now events (received_of delays' names)) n).ask ≡ None))
  came now delays' names = from (is_received (received_of delays' names) n) refl where
    from : (b : Bool) → is_received (received_of delays' names) n ≡ b → (timers_of t (receipts now events (received_of delays' names)) n ≡ s) ⊎ (Contains names n × ((timers_of t (receipts now events (received_of delays' names)) n).ask ≡ None))
    from true e = inr (received_from delays' names n e, ap (λ (k : Timers). k.ask) (timers_receipts t now events (received_of delays' names) n) ∙ (not_standing (got_each now n s (received_of delays' names)) (received_stops now n s (received_of delays' names) e)).ask)
    from false e = inl (timers_receipts t now events (received_of delays' names) n ∙ not_received now n s (received_of delays' names) e)

  abbrev Goal : KeeperCall → Type 0
  Goal call = Does far me bound t n call calls s (timers_at me t (call ∷ calls) n)

  hears : (now : ℕ) (v : Datagram) (word : ℕ) (held : Bool) → Goal (Hear now v word held)
  hears now (Request asker name) word held = from (nat_eq asker me) refl (same_name name n) refl where
    delay : ℕ
    delay = delays (cond held asker name.source)

    Here : Timers → Type 0
    Here next = Does far me bound t n (Hear now (Request asker name) word held) calls s next

    from : (b : Bool) → nat_eq asker me ≡ b → (c : Bool) → same_name name n ≡ c → Here (timers_of t (cond (nat_eq asker me) events (Asked name held now delay word ∷ events)) n)
    from true e c f = subst (λ (b : Bool). Here (timers_of t (cond b events (Asked name held now delay word ∷ events)) n)) (sym e) (inl refl)
    from false e true f = subst (λ (b : Bool). Here (timers_of t (cond b events (Asked name held now delay word ∷ events)) n)) (sym e) (subst (λ (c : Bool). Here (cond c (asked (constants_after t events) held now delay word s) s)) (sym f) (inr (inr (inl (record {
      by = record {
        now = now;
        asker = asker;
        word = word;
        held = held;
        is = ap (λ (k : NameValue). Hear now (Request asker k) word held) (same_name-is name n f);
        other = λ same. true≢false (sym (eq-eqb asker me same) ∙ e);
      };
      delay = delay;
      constants = constants_after t events;
      becomes = refl;
    })))))
    from false e false f = subst (λ (b : Bool). Here (timers_of t (cond b events (Asked name held now delay word ∷ events)) n)) (sym e) (subst (λ (c : Bool). Here (cond c (asked (constants_after t events) held now delay word s) s)) (sym f) (inl refl))
  hears now (Draw d) word held = inl refl
  hears now (Session sender sent page marks echoes) word held = inl refl
  hears now (AskPages asker) word held = inl refl
  hears now (PageState sender page marks) word held = inl refl

  gives_up : (now : ℕ) (name : NameValue) (asked : Bool) → Goal (GiveUp now name asked)
  gives_up now name false = inl refl
  gives_up now name true = ⊎_elim
      (λ (e : timers_of t (receipts now events (received_of (λ source. 0) (name ∷ []))) n ≡ s). inl e)
      (λ (c : Contains (name ∷ []) n × ((timers_of t (receipts now events (received_of (λ source. 0) (name ∷ []))) n).ask ≡ None)). inr (inl ((one name n c.0, refl), c.1)))
      (came now (λ source. 0) (name ∷ [])) where
        one : (a b : NameValue) → Contains (a ∷ []) b → a ≡ b
        one a b c = ⊎_elim (λ (e : a ≡ b). e) (λ (none : Contains [] b). absurd (Contains-none b none)) (Contains-cases a b [] c)

  does : (call : KeeperCall) → Goal call
  does (SetDelay source micros) = inl refl
  does (SetConstants constants) = inl refl
  does (Report now) = inl refl
  does (Hear now v word held) = hears now v word held
  does (Arrive now names) = ⊎_elim
      (λ (e : timers_of t (receipts now events (received_of delays names)) n ≡ s). inl e)
      (λ (c : Contains names n × ((timers_of t (receipts now events (received_of delays names)) n).ask ≡ None)). inr (inl c))
      (came now delays names)
  does (Miss now [] words) = inl refl
  does (Miss now (m ∷ names) words) = ⊎_elim
      (λ (e : timers_of t (notices now events (missed_of delays (m ∷ names) words)) n ≡ s). inl e)
      (λ (r : Contains (m ∷ names) n × IsMissed (IsWithin far bound me t (Miss now (m ∷ names) words) calls) far bound now s (timers_of t (notices now events (missed_of delays (m ∷ names) words)) n)). inr (inr (inr (inl (record { now = now; names = m ∷ names; words = words; is = refl; named = r.0 }, r.1)))))
      (all_missed (IsWithin far bound me t (Miss now (m ∷ names) words) calls) far bound now t delays (λ w. w.delays refl) n (m ∷ names) words events (λ w. w.constants))
  does (GoOn now words stopped) = ⊎_elim
      (λ (e : timers_of t (receipts now events (received_of delays stopped)) n ≡ s). inr (inr (inr (inr (record {
        now = now;
        words = words;
        stopped = stopped;
        is = refl;
        word = word_for words (due_asks (names_of (receipts now events (received_of delays stopped))) (λ m. timers_of t (receipts now events (received_of delays stopped)) m) now) n;
        constants = constants_after t (receipts now events (received_of delays stopped));
        becomes = ap (ticked (constants_after t (receipts now events (received_of delays stopped))) now (word_for words (due_asks (names_of (receipts now events (received_of delays stopped))) (λ m. timers_of t (receipts now events (received_of delays stopped)) m) now) n)) e;
      })))))
      (λ (c : Contains stopped n × ((timers_of t (receipts now events (received_of delays stopped)) n).ask ≡ None)). inr (inl (c.0, ap (fired_ask (constants_after t (receipts now events (received_of delays stopped))) now (word_for words (due_asks (names_of (receipts now events (received_of delays stopped))) (λ m. timers_of t (receipts now events (received_of delays stopped)) m) now) n)) c.1)))
      (came now delays stopped)
  does (GiveUp now name asked) = gives_up now name asked

-- ---- laws

answer_fires : (now : ℕ) (answer : AnswerTimer) → (fired_answer now (Some answer) ≡ Some answer) ⊎ (answer.due ≤ now)
answer_fires now answer = from (nat_le answer.due now) refl where
  from : (b : Bool) → nat_le answer.due now ≡ b → (cond b None (Some answer) ≡ Some answer) ⊎ (answer.due ≤ now)
  from true e = inr (leb-true answer.due now e)
  from false e = inl refl

ask_fires : (t : Tuning) (now word : ℕ) (ask : AskTimer) → (fired_ask t now word (Some ask) ≡ Some ask) ⊎ (ask.due ≤ now)
ask_fires t now word ask = from (nat_le ask.due now) refl where
  from : (b : Bool) → nat_le ask.due now ≡ b → (Some (cond b (backed_off t ask now ask.delay word) ask) ≡ Some ask) ⊎ (ask.due ≤ now)
  from true e = inr (leb-true ask.due now e)
  from false e = inl refl

quiet_fires : (now quiet : ℕ) (o : Option AnswerTimer) → (quiet_after now quiet o ≡ quiet) ⊎ ((answer : AnswerTimer) × (o ≡ Some answer) × (answer.due ≤ now))
quiet_fires now quiet None = inl refl
quiet_fires now quiet (Some answer) = from (nat_le answer.due now) refl where
  from : (b : Bool) → nat_le answer.due now ≡ b → (cond b (now + 3 * answer.delay) quiet ≡ quiet) ⊎ ((a : AnswerTimer) × (Some answer ≡ Some a) × (a.due ≤ now))
  from true e = inr (answer, refl, leb-true answer.due now e)
  from false e = inl refl

asked_answer : (t : Tuning) (held : Bool) (now delay word : ℕ) (s : Timers) (answer : AnswerTimer) → s.answer ≡ Some answer → (asked t held now delay word s).answer ≡ Some answer
asked_answer t false now delay word s answer e = e
asked_answer t true now delay word s answer e = ap (λ (o : Option AnswerTimer). (cond (is_none o && nat_le s.quiet now) (record s { answer = Some (new_answer t now delay word) }) s).answer) e ∙ e

asked_quiet : (t : Tuning) (held : Bool) (now delay word : ℕ) (s : Timers) → (asked t held now delay word s).quiet ≡ s.quiet
asked_quiet t false now delay word s = refl
asked_quiet t true now delay word s = from (is_none s.answer && nat_le s.quiet now) where
  from : (b : Bool) → (cond b (record s { answer = Some (new_answer t now delay word) }) s).quiet ≡ s.quiet
  from true = refl
  from false = refl

asked_no_ask : (t : Tuning) (held : Bool) (now delay word : ℕ) (s : Timers) → s.ask ≡ None → (asked t held now delay word s).ask ≡ None
asked_no_ask t false now delay word s e = ap (heard_ask t now delay word) e
asked_no_ask t true now delay word s e = from (is_none s.answer && nat_le s.quiet now) where
  from : (b : Bool) → (cond b (record s { answer = Some (new_answer t now delay word) }) s).ask ≡ None
  from true = e
  from false = e

fires : {call : KeeperCall} {now : ℕ} {words : List ℕ} {stopped : List NameValue} (due : ℕ) → call ≡ GoOn now words stopped → due ≤ now → Fires due call
fires {call} {now} {words} {stopped} due is le = record { now = now; words = words; stopped = stopped; is = is; due_by = le }

module _ (far me : ℕ) (bound t : Tuning) (call : KeeperCall) (calls : List KeeperCall) (n : NameValue) where
  abbrev s_0 : Timers
  s_0 = timers_at me t calls n

  abbrev s_1 : Timers
  s_1 = timers_at me t (call ∷ calls) n

  abbrev Brought : Type 0
  Brought = Brings n call × (s_1.ask ≡ None)

  abbrev Heard : Type 0
  Heard = IsHeard me n call s_0 s_1

  abbrev Missed : Type 0
  Missed = Misses n call × IsMissed (IsWithin far bound me t call calls) far bound (moment_at (call ∷ [])) s_0 s_1

  abbrev Ticked : Type 0
  Ticked = IsTicked call s_0 s_1

  by_case : {A : Type 0} → (s_1 ≡ s_0 → A) → (Brought → A) → (Heard → A) → (Missed → A) → (Ticked → A) → A
  by_case {A} same brought heard missed ticks =
      ⊎_elim same (λ (r : Brought ⊎ (Heard ⊎ (Missed ⊎ Ticked))).
      ⊎_elim brought (λ (q : Heard ⊎ (Missed ⊎ Ticked)).
      ⊎_elim heard (λ (p : Missed ⊎ Ticked).
      ⊎_elim missed ticks p) q) r) (does far me bound t calls n call)

  answer_goes_on : (answer : AnswerTimer) → s_0.answer ≡ Some answer → (s_1.answer ≡ Some answer) ⊎ (Brings n call ⊎ Fires answer.due call)
  answer_goes_on answer is = by_case
      (λ e. inl (ap (λ (k : Timers). k.answer) e ∙ is))
      (λ b. inr (inl b.0))
      (λ h. inl (ap (λ (k : Timers). k.answer) h.becomes ∙ asked_answer h.constants h.by.held h.by.now h.delay h.by.word s_0 answer is))
      (λ m. inl (m.1.answer ∙ is))
      (λ k. ⊎_elim
      (λ (e : fired_answer k.now (Some answer) ≡ Some answer). inl (ap (λ (r : Timers). r.answer) k.becomes ∙ ap (fired_answer k.now) is ∙ e))
      (λ (le : answer.due ≤ k.now). inr (inr (fires answer.due k.is le)))
      (answer_fires k.now answer))

  ask_goes_on : (ask : AskTimer) → s_0.ask ≡ Some ask → (s_1.ask ≡ Some ask) ⊎ (Brought ⊎ (Fires ask.due call ⊎ Requests me n call))
  ask_goes_on ask is = by_case
      (λ e. inl (ap (λ (k : Timers). k.ask) e ∙ is))
      (λ b. inr (inl b))
      (λ h. inr (inr (inr h.by)))
      (λ m. inl (m.1.stays ask is))
      (λ k. ⊎_elim
      (λ (e : fired_ask k.constants k.now k.word (Some ask) ≡ Some ask). inl (ap (λ (r : Timers). r.ask) k.becomes ∙ ap (fired_ask k.constants k.now k.word) is ∙ e))
      (λ (le : ask.due ≤ k.now). inr (inr (inl (fires ask.due k.is le))))
      (ask_fires k.constants k.now k.word ask))

  quiet_begins : (moment : ℕ) → s_1.quiet ≤ moment + 3 * far → (s_1.quiet ≡ s_0.quiet) ⊎ ((Brings n call ⊎ Answers me t calls n call) × (s_1.quiet ≤ moment + 3 * far))
  quiet_begins moment near =
      by_case
      (λ e. inl (ap (λ (k : Timers). k.quiet) e))
      (λ b. inr (inl b.0, near))
      (λ h. inl (ap (λ (k : Timers). k.quiet) h.becomes ∙ asked_quiet h.constants h.by.held h.by.now h.delay h.by.word s_0))
      (λ m. inl m.1.quiet)
      (λ k. ⊎_elim
      (λ (e : quiet_after k.now s_0.quiet s_0.answer ≡ s_0.quiet). inl (ap (λ (r : Timers). r.quiet) k.becomes ∙ e))
      (λ (r : (answer : AnswerTimer) × (s_0.answer ≡ Some answer) × (answer.due ≤ k.now)). inr (inr (r.0, r.1, fires r.0.due k.is r.2), near))
      (quiet_fires k.now s_0.quiet s_0.answer))

  ask_begins : (ask : AskTimer) → s_0.ask ≡ None → s_1.ask ≡ Some ask → Misses n call × (IsWithin far bound me t call calls → ask.due ≤ moment_at (call ∷ calls) + (bound.c1 + bound.c2) * far) × (ask.level ≡ 0)
  ask_begins ask none is = by_case
      (λ e. absurd (none-some ask (sym (ap (λ (k : Timers). k.ask) e ∙ none) ∙ is)))
      (λ b. absurd (none-some ask (sym b.1 ∙ is)))
      (λ h. absurd (none-some ask (sym (ap (λ (k : Timers). k.ask) h.becomes ∙ asked_no_ask h.constants h.by.held h.by.now h.delay h.by.word s_0 none) ∙ is)))
      (λ m. (m.0, λ w. at_miss m.0 (subst (λ (o : Option AskTimer). IfSome o (λ (a : AskTimer). a.due ≤ moment_at (call ∷ []) + (bound.c1 + bound.c2) * far)) is (m.1.new w none)), subst (λ (o : Option AskTimer). IfSome o (λ (a : AskTimer). a.level ≡ 0)) is (m.1.lowest none)))
      (λ k. absurd (none-some ask (sym (ap (λ (r : Timers). r.ask) k.becomes ∙ ap (fired_ask k.constants k.now k.word) none) ∙ is))) where
        at_miss : Misses n call → ask.due ≤ moment_at (call ∷ []) + (bound.c1 + bound.c2) * far → ask.due ≤ moment_at (call ∷ calls) + (bound.c1 + bound.c2) * far
        at_miss m le = subst (λ (k : ℕ). ask.due ≤ k + (bound.c1 + bound.c2) * far) (ap (λ (c : KeeperCall). moment_at (c ∷ [])) m.is ∙ sym (ap (λ (c : KeeperCall). moment_at (c ∷ calls)) m.is)) le

pub answers_go_on : AnswersGoOn
answers_go_on me t call calls n answer is = answer_goes_on 0 me t t call calls n answer is

pub requests_go_on : RequestsGoOn
requests_go_on me t call calls n ask is = ask_goes_on 0 me t t call calls n ask is

pub quiet_begins_so : QuietBegins
quiet_begins_so far me bound t call calls moment n within by near = quiet_begins far me bound t call calls n moment (answers_stay_near far me bound t call calls moment n within by near).quiet

pub requests_begin : RequestsBegin
requests_begin far me bound t call calls n ask none is = ask_begins far me bound t call calls n ask none is

pub requests_are_heard : RequestsAreHeard
requests_are_heard far me bound t calls now asker word moment n other within by near =
    taken bound (constants_after t events) far moment now delay word s (timers_at me t (Hear now (Request asker n) word true ∷ calls) n) heard
    (answers_stay_near far me bound t (Hear now (Request asker n) word true) calls moment n within by near) where
      events : List Event
      events = events_of me calls

      delay : ℕ
      delay = delay_to me calls asker

      s : Timers
      s = timers_of t events n

      heard : timers_at me t (Hear now (Request asker n) word true ∷ calls) n ≡ asked (constants_after t events) true now delay word s
      heard =
          ap (λ (b : Bool). timers_of t (cond b events (Asked n true now delay word ∷ events)) n) (false_from_ne_true (nat_eq asker me) (λ e. other (eqb-true asker me e)))
          ∙ ap (λ (b : Bool). cond b (asked (constants_after t events) true now delay word s) s) (same_name-here n n refl)

-- ---- a request timer that was not backed off

pub backed_level : (level : ℕ) → min (level + 1) 16 ≡ 0 → ⊥
backed_level level e = omega (arith, e)

-- what backs off or not, and was not backed off, is as it was
as_it_was : (b : Bool) (t : Tuning) (now delay word : ℕ) (a ask : AskTimer) → Some (cond b (backed_off t a now delay word) a) ≡ Some ask → ask.level ≡ 0 → Some a ≡ Some ask
as_it_was true t now delay word a ask e level = absurd (backed_level a.level (ap (λ (x : AskTimer). x.level) (same_Some (backed_off t a now delay word) ask e) ∙ level))
as_it_was false t now delay word a ask e level = e

heard_fresh : (t : Tuning) (now delay word : ℕ) (o : Option AskTimer) (ask : AskTimer) → heard_ask t now delay word o ≡ Some ask → ask.level ≡ 0 → o ≡ Some ask
heard_fresh t now delay word None ask e level = absurd (none-some ask e)
heard_fresh t now delay word (Some a) ask e level = as_it_was (nat_le a.deaf now) t now delay word a ask e level

fired_fresh : (t : Tuning) (now word : ℕ) (o : Option AskTimer) (ask : AskTimer) → fired_ask t now word o ≡ Some ask → ask.level ≡ 0 → o ≡ Some ask
fired_fresh t now word None ask e level = absurd (none-some ask e)
fired_fresh t now word (Some a) ask e level = as_it_was (nat_le a.due now) t now a.delay word a ask e level

asked_fresh : (t : Tuning) (held : Bool) (now delay word : ℕ) (s : Timers) (ask : AskTimer) → (asked t held now delay word s).ask ≡ Some ask → ask.level ≡ 0 → s.ask ≡ Some ask
asked_fresh t false now delay word s ask e level = heard_fresh t now delay word s.ask ask e level
asked_fresh t true now delay word s ask e level = from (is_none s.answer && nat_le s.quiet now) e where
  from : (b : Bool) → (cond b (record s { answer = Some (new_answer t now delay word) }) s).ask ≡ Some ask → s.ask ≡ Some ask
  from true e = e
  from false e = e

missed_fresh : (Fits : Type 0) (far : ℕ) (bound : Tuning) (now : ℕ) (s next : Timers) (ask : AskTimer) → IsMissed Fits far bound now s next → next.ask ≡ Some ask → (s.ask ≡ Some ask) ⊎ (Fits → ask.due ≤ now + (bound.c1 + bound.c2) * far)
missed_fresh Fits far bound now s next ask m e = from s.ask refl where
  from : (o : Option AskTimer) → s.ask ≡ o → (s.ask ≡ Some ask) ⊎ (Fits → ask.due ≤ now + (bound.c1 + bound.c2) * far)
  from (Some a) is = inl (is ∙ sym (m.stays a is) ∙ e)
  from None is = inr (λ fits. subst (λ (o : Option AskTimer). IfSome o (λ (a : AskTimer). a.due ≤ now + (bound.c1 + bound.c2) * far)) e (m.new fits is))

-- It stood so before, or its name is missed by the call, and it is due soon if the call goes by no greater delay and constants.
pub fresh_ask : (far me : ℕ) (bound t : Tuning) (call : KeeperCall) (calls : List KeeperCall) (n : NameValue) (ask : AskTimer) → (timers_at me t (call ∷ calls) n).ask ≡ Some ask → ask.level ≡ 0
    → ((timers_at me t calls n).ask ≡ Some ask) ⊎ (Misses n call × (IsWithin far bound me t call calls → ask.due ≤ moment_at (call ∷ []) + (bound.c1 + bound.c2) * far))
fresh_ask far me bound t call calls n ask is level = by (does far me bound t calls n call) where
  old : Timers
  old = timers_at me t calls n

  next : Timers
  next = timers_at me t (call ∷ calls) n

  Fits : Type 0
  Fits = IsWithin far bound me t call calls

  by : Does far me bound t n call calls old next → (old.ask ≡ Some ask) ⊎ (Misses n call × (Fits → ask.due ≤ moment_at (call ∷ []) + (bound.c1 + bound.c2) * far))
  by (inl same) = inl (sym (ap (λ (s : Timers). s.ask) same) ∙ is)
  by (inr (inl brought)) = absurd (none-some ask (sym brought.1 ∙ is))
  by (inr (inr (inl heard))) = inl (asked_fresh heard.constants heard.by.held heard.by.now heard.delay heard.by.word old ask (sym (ap (λ (s : Timers). s.ask) heard.becomes) ∙ is) level)
  by (inr (inr (inr (inl missed)))) = ⊎_elim
      (λ (stood : old.ask ≡ Some ask). inl stood)
      (λ (due : Fits → ask.due ≤ moment_at (call ∷ []) + (bound.c1 + bound.c2) * far). inr (missed.0, due))
      (missed_fresh Fits far bound (moment_at (call ∷ [])) old next ask missed.1 is)
  by (inr (inr (inr (inr ticks)))) = inl (fired_fresh ticks.constants ticks.now ticks.word old.ask ask (sym (ap (λ (s : Timers). s.ask) ticks.becomes) ∙ is) level)
