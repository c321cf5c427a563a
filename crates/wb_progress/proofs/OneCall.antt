-- What a tick, a request and a miss do to the timers of one name.
use Rattle.std.proofs.Common.{◌≡◌, ℕ, ◌≤◌, Bool, true, false, cond, List, [], ◌∷◌, Option, Some, None, refl, ap, ◌∙◌, sym, subst, true≢false, ⊎_elim, eqb-true}
use Rattle.std.specs.Prelude.{IfSome, nat_eq, nat_le, is_none, is_some, map, Contains, ◌&&◌, ◌||◌}
use Rattle.std.specs.Option.{option_map}
use Rattle.std.proofs.lemmas.List.Elements.{Contains-append_left, Contains-append_right}
use Rattle.wb_names.specs.Values.{NameValue, DrawopValue}
use Rattle.wb_names.specs.History.{IsHistory}
use Rattle.wb_names.specs.Orders.{same_name}
use Rattle.wb_names.proofs.Orders.{same_name-here, same_name-is}
use Rattle.wb_names.proofs.Listings.{Contains-here, Contains-there, Contains-cases, Contains-none, Contains-filter, Contains-from_filter, Contains-map}
use Rattle.wb_codec.specs.declared.datagram.Datagram.{Datagram}
use Rattle.wb_codec.specs.declared.datagram.Datagram.TheVariants.{Draw, Request}
use Rattle.wb_recovery.specs.Timing.{new_ask, new_answer, fired_ask, fired_answer, quiet_after, noticed, asked, ticked, is_standing, is_ask_due, is_answer_due}
use Rattle.wb_recovery.specs.Events.{Event, Asked, names_of, constants_after, timers_of, asking, due_asks, due_answers, actions_of, word_for}
use Rattle.wb_recovery.specs.Stopping.{receipts, is_received, got_each}
use Rattle.wb_recovery.specs.declared.plan.Action.TheVariants.{Ask, Answer}
use Rattle.wb_recovery.specs.declared.missed.Received.{Received}
use Rattle.wb_recovery.specs.declared.tuning.Tuning.{Tuning}
use Rattle.wb_recovery.specs.declared.timers.AskTimer.{AskTimer}
use Rattle.wb_recovery.specs.declared.timers.AnswerTimer.{AnswerTimer}
use Rattle.wb_recovery.specs.declared.timers.Timers.{Timers}
use Rattle.wb_recovery.proofs.NameLists.{listed_of}
use Rattle.wb_recovery.proofs.StoppedNames.{not_received, received_stops, timers_receipts}
use Rattle.wb_keeper.specs.GivingUp.{is_asked}
use Rattle.wb_keeper.specs.Keeper.{KeeperCall, Miss, delay_to, received_of, given_up, events_of, holds}
use Rattle.wb_keeper.specs.Ticks.{sent_for, sent_by_tick, stopped_after}
use Rattle.wb_keeper.proofs.FoundDrawops.{found_member}
use Rattle.wb_keeper.proofs.TickSends.{sent_by}
use Rattle.wb_progress.specs.Keepers.{constants_at}
use Rattle.wb_progress.specs.Repairs.{timers_at, gone_on, IsIdle, TicksAsk, TicksAnswer, TicksClear, TicksEnd, TicksLeave, RequestsSet, MissesStand, GivenUpIsIdle}
use Rattle.std.proofs.lemmas.Bool.{le-leb, false_from_ne_true}

-- ---- names that have come

pub received_in : (delays : ℕ → ℕ) (names : List NameValue) (n : NameValue) → Contains names n → is_received (received_of delays names) n ≡ true
received_in delays [] n c = absurd (Contains-none n c)
received_in delays (m ∷ names) n c = ⊎_elim
    (λ (e : m ≡ n). ap (λ (b : Bool). b || is_received (received_of delays names) n) (same_name-here m n e))
    (λ (d : Contains names n). later (same_name m n) (received_in delays names n d))
    (Contains-cases m n names c) where
      later : (b : Bool) → is_received (received_of delays names) n ≡ true → (b || is_received (received_of delays names) n) ≡ true
      later true e = refl
      later false e = e

pub received_from : (delays : ℕ → ℕ) (names : List NameValue) (n : NameValue) → is_received (received_of delays names) n ≡ true → Contains names n
received_from delays [] n e = absurd (true≢false (sym e))
received_from delays (m ∷ names) n e = from (received_from delays names n) (same_name m n) refl e where
  from : (is_received (received_of delays names) n ≡ true → Contains names n) → (b : Bool) → same_name m n ≡ b → (b || is_received (received_of delays names) n) ≡ true → Contains (m ∷ names) n
  from rest true g h = subst (λ (k : NameValue). Contains (m ∷ names) k) (same_name-is m n g) (Contains-here m names)
  from rest false g h = Contains-there m n names (rest h)

no_ask : (o : Option AskTimer) → (is_some o ≡ true → ⊥) → o ≡ None
no_ask None f = refl
no_ask (Some a) f = absurd (f refl)

pub not_standing : (s : Timers) → is_standing s ≡ false → IsIdle s
not_standing s h = from s.ask s.answer refl refl h where
  from : (a : Option AskTimer) (b : Option AnswerTimer) → s.ask ≡ a → s.answer ≡ b → (is_some a || is_some b) ≡ false → IsIdle s
  from None None e f g = record { ask = e; answer = f }
  from None (Some b) e f g = absurd (true≢false g)
  from (Some a) b e f g = absurd (true≢false g)

-- ---- one tick

module _ (me : ℕ) (t : Tuning) (calls : List KeeperCall) (history : List DrawopValue) (now : ℕ) (n : NameValue) where
  abbrev events : List Event
  events = events_of me calls

  abbrev s : Timers
  s = timers_of t events n

  abbrev stopped : List NameValue
  stopped = stopped_after me t calls history

  abbrev received : List Received
  received = received_of (delay_to me calls) stopped

  abbrev after : List Event
  after = receipts now events received

  -- the constants of the tick
  abbrev c : Tuning
  c = constants_after t after

  then : timers_of t after n ≡ got_each now n s received
  then = timers_receipts t now events received n

  -- a name is stopped just if it is held and has a request timer
  stopped_only : is_received received n ≡ true → (holds history n ≡ true) × (is_some s.ask ≡ true)
  stopped_only e =
      let among = Contains-from_filter (holds history) (asking (names_of events) (timers_of t events)) n (received_from (delay_to me calls) stopped n e) in
      (among.1, ((listed_of (λ (r : Timers). is_some r.ask) refl t events).members n).0 among.0)

  stopped_if : holds history n ≡ true → is_some s.ask ≡ true → is_received received n ≡ true
  stopped_if h a = received_in (delay_to me calls) stopped n (Contains-filter (holds history) (asking (names_of events) (timers_of t events)) n (((listed_of (λ (r : Timers). is_some r.ask) refl t events).members n).1 a) h)

  not_held : holds history n ≡ false → timers_of t after n ≡ s
  not_held h = then ∙ not_received now n s received (false_from_ne_true (is_received received n) (λ e. true≢false (sym (stopped_only e).0 ∙ h)))

  not_asked : s.ask ≡ None → timers_of t after n ≡ s
  not_asked e = then ∙ not_received now n s received (false_from_ne_true (is_received received n) (λ f. true≢false (sym (stopped_only f).1 ∙ ap is_some e)))

  asks : is_ask_due now s.ask ≡ true → holds history n ≡ false → Contains (sent_by_tick me t calls history now) (Request me n)
  asks due h =
      let listed = ((listed_of (λ (r : Timers). is_ask_due now r.ask) refl t after).members n).1 (ap (λ (r : Timers). is_ask_due now r.ask) (not_held h) ∙ due) in
      sent_by (sent_for me history) (actions_of t after now) (Ask n) (Request me n)
      (Contains-append_left (map Ask (due_asks (names_of after) (timers_of t after) now)) (map Answer (due_answers (names_of after) (timers_of t after) now)) (Ask n)
      (Contains-map Ask (due_asks (names_of after) (timers_of t after) now) (Ask n) (listed.0, n, listed.1, listed.2, refl)))
      refl

  answers : (d : DrawopValue) → d.name ≡ n → IsHistory history → Contains history d → s.ask ≡ None → is_answer_due now s.answer ≡ true → Contains (sent_by_tick me t calls history now) (Draw d)
  answers d is names held e due =
      let listed = ((listed_of (λ (r : Timers). is_answer_due now r.answer) refl t after).members n).1 (ap (λ (r : Timers). is_answer_due now r.answer) (not_asked e) ∙ due) in
      sent_by (sent_for me history) (actions_of t after now) (Answer n) (Draw d)
      (Contains-append_right (map Ask (due_asks (names_of after) (timers_of t after) now)) (map Answer (due_answers (names_of after) (timers_of t after) now)) (Answer n)
      (Contains-map Answer (due_answers (names_of after) (timers_of t after) now) (Answer n) (listed.0, n, listed.1, listed.2, refl)))
      (ap (option_map {T = DrawopValue} {U = Datagram} Draw) (found_member history n d names held is))

  -- what has no timers does not fire
  idle_ticks : (word : ℕ) (r : Timers) → IsIdle r → ticked c now word r ≡ r
  idle_ticks word r idle =
      ap (λ (o : Option AskTimer). record (ticked c now word r) { ask = fired_ask c now word o }) idle.ask
      ∙ ap (λ (o : Option AnswerTimer). record { ask = None; answer = fired_answer now o; quiet = quiet_after now r.quiet o }) idle.answer
      ∙ ap (λ (o : Option AnswerTimer). record { ask = None; answer = o; quiet = r.quiet }) (sym idle.answer)
      ∙ ap (λ (o : Option AskTimer). record r { ask = o }) (sym idle.ask)

  due_ends : (o : Option AnswerTimer) → IfSome o (λ answer. answer.due ≤ now) → fired_answer now o ≡ None
  due_ends None h = refl
  due_ends (Some a) h = ap (λ (b : Bool). cond b None (Some a)) (le-leb a.due now h)

  module _ (words : List ℕ) where
    abbrev word : ℕ
    word = word_for words (due_asks (names_of after) (λ m. timers_of t after m) now) n

    clears : holds history n ≡ true → IfSome s.answer (λ answer. answer.due ≤ now) → IsIdle (timers_at me t (gone_on me t calls history now words) n)
    clears h due = subst (λ (r : Timers). IsIdle (ticked c now word r)) (sym then) (from (is_received received n) refl) where
      from : (b : Bool) → is_received received n ≡ b → IsIdle (ticked c now word (got_each now n s received))
      from true e =
          let idle = not_standing (got_each now n s received) (received_stops now n s received e) in
          subst IsIdle (sym (idle_ticks word (got_each now n s received) idle)) idle
      from false e =
          let none = no_ask s.ask (λ a. true≢false (sym (stopped_if h a) ∙ e)) in
          subst (λ (r : Timers). IsIdle (ticked c now word r)) (sym (not_received now n s received e)) (record {
            ask = ap (fired_ask c now word) none;
            answer = due_ends s.answer due;
          })

    ends : IfSome s.answer (λ answer. answer.due ≤ now) → (timers_at me t (gone_on me t calls history now words) n).answer ≡ None
    ends due = ap (λ (r : Timers). fired_answer now r.answer) then ∙ from (is_received received n) refl where
      from : (b : Bool) → is_received received n ≡ b → fired_answer now (got_each now n s received).answer ≡ None
      from true e = ap (fired_answer now) (not_standing (got_each now n s received) (received_stops now n s received e)).answer
      from false e = ap (λ (r : Timers). fired_answer now r.answer) (not_received now n s received e) ∙ due_ends s.answer due

    leaves : IsIdle s → timers_at me t (gone_on me t calls history now words) n ≡ s
    leaves idle = ap (ticked c now word) (not_asked idle.ask) ∙ idle_ticks word s idle

pub ticks_ask : TicksAsk
ticks_ask me t calls history now n due h = asks me t calls history now n due h

pub ticks_answer : TicksAnswer
ticks_answer me t calls history now d names held none due = answers me t calls history now d.name d refl names held none due

pub ticks_clear : TicksClear
ticks_clear me t calls history now words n h due = clears me t calls history now n words h due

pub ticks_end : TicksEnd
ticks_end me t calls history now words n due = ends me t calls history now n words due

pub ticks_leave : TicksLeave
ticks_leave me t calls history now words n idle = leaves me t calls history now n words idle

-- ---- a request, and a miss

module _ (me : ℕ) (t : Tuning) (calls : List KeeperCall) (now asker word : ℕ) (n : NameValue) (idle : IsIdle (timers_at me t calls n)) (quiet : (timers_at me t calls n).quiet ≤ now) where
  abbrev before : Timers
  before = timers_at me t calls n

  abbrev delay : ℕ
  delay = delay_to me calls asker

  abbrev set : Timers
  set = record { ask = None; answer = Some (new_answer (constants_at me t calls) now delay word); quiet = before.quiet }

  sets_here : asked (constants_at me t calls) true now delay word before ≡ set
  sets_here = ap (λ (o : Option AnswerTimer). cond (is_none o && nat_le before.quiet now) (record before { answer = Some (new_answer (constants_at me t calls) now delay word) }) before) idle.answer
      ∙ ap (λ (b : Bool). cond b (record before { answer = Some (new_answer (constants_at me t calls) now delay word) }) before) (le-leb before.quiet now quiet)
      ∙ ap (λ (o : Option AskTimer). record set { ask = o }) idle.ask

  sets : (asker ≡ me → ⊥) → timers_of t (cond (nat_eq asker me) (events_of me calls) (Asked n true now delay word ∷ events_of me calls)) n ≡ set
  sets other = from (nat_eq asker me) refl where
    from : (b : Bool) → nat_eq asker me ≡ b → timers_of t (cond b (events_of me calls) (Asked n true now delay word ∷ events_of me calls)) n ≡ set
    from true e = absurd (other (eqb-true asker me e))
    from false e = ap (λ (b : Bool). cond b (asked (constants_at me t calls) true now delay word before) before) (same_name-here n n refl) ∙ sets_here

pub requests_set : RequestsSet
requests_set me t calls now asker word n other idle quiet = sets me t calls now asker word n idle quiet other

pub stands : (t : Tuning) (now delay word : ℕ) (s : Timers) → is_some (noticed t now delay word s).ask ≡ true
stands t now delay word s = from s.ask refl where
  from : (o : Option AskTimer) → s.ask ≡ o → is_some (noticed t now delay word s).ask ≡ true
  from None e = ap (λ (o : Option AskTimer). is_some (cond (is_none o) (record s { ask = Some (new_ask t now delay word) }) s).ask) e
  from (Some a) e = ap (λ (o : Option AskTimer). is_some (cond (is_none o) (record s { ask = Some (new_ask t now delay word) }) s).ask) e ∙ ap is_some e

pub misses_stand : MissesStand
misses_stand me t calls now word n =
    let s = timers_at me t calls n in
    let delay = delay_to me calls n.source in
    ap (λ (b : Bool). is_some (cond b (noticed (constants_at me t calls) now delay word s) s).ask) (same_name-here n n refl) ∙ stands (constants_at me t calls) now delay word s

-- ---- a name that is given up

pub given_up_is_idle : GivenUpIsIdle
given_up_is_idle me t calls now n none = from (is_asked (timers_of t (events_of me calls)) n) refl where
  from : (b : Bool) → is_asked (timers_of t (events_of me calls)) n ≡ b → IsIdle (timers_of t (given_up now n b (events_of me calls)) n)
  from true e =
      let before = timers_of t (events_of me calls) n in
      let received = received_of (λ source. 0) (n ∷ []) in
      let came = received_in (λ source. 0) (n ∷ []) n (Contains-here n []) in
      subst IsIdle (sym (timers_receipts t now (events_of me calls) received n)) (not_standing (got_each now n before received) (received_stops now n before received came))
  from false e = record { ask = no_ask (timers_of t (events_of me calls) n).ask (λ f. true≢false (sym f ∙ e)); answer = none }

-- a miss sets the timer if none stands
pub sets_anew : (me : ℕ) (t : Tuning) (calls : List KeeperCall) (now word : ℕ) (n : NameValue) → (timers_at me t calls n).ask ≡ None → (timers_at me t (Miss now (n ∷ []) (word ∷ []) ∷ calls) n).ask ≡ Some (new_ask (constants_at me t calls) now (delay_to me calls n.source) word)
sets_anew me t calls now word n none =
    let s = timers_at me t calls n in
    let delay = delay_to me calls n.source in
    ap (λ (b : Bool). (cond b (noticed (constants_at me t calls) now delay word s) s).ask) (same_name-here n n refl)
    ∙ ap (λ (o : Option AskTimer). (cond (is_none o) (record s { ask = Some (new_ask (constants_at me t calls) now delay word) }) s).ask) none
