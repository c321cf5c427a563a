-- Timers of what is held, and of what is not: act by act, and line by line.
use Rattle.std.proofs.Common.{◌≡◌, ℕ, ◌+◌, ◌*◌, Bool, true, false, cond, List, [], ◌∷◌, Option, Some, None, refl, ap, ◌∙◌, sym, subst, true≢false, ⊎_elim}
use Rattle.std.specs.Prelude.{All, Contains, map, filter, is_some, is_none, nat_eq, nat_le, ◌&&◌}
use Rattle.std.proofs.lemmas.List.Elements.{All-contains_itself, All-head, All-tail, All-contains}
use Rattle.wb_names.specs.Values.{NameValue, DrawopValue}
use Rattle.wb_names.specs.Arrivals.{history_after}
use Rattle.wb_names.specs.Orders.{same_name}
use Rattle.wb_names.proofs.Orders.{same_name-is}
use Rattle.wb_names.proofs.Listings.{Contains-filter, Contains-map}
use Rattle.wb_codec.specs.declared.datagram.Datagram.{Datagram}
use Rattle.wb_codec.specs.declared.datagram.Datagram.TheVariants.{Draw, Session, Request, AskPages, PageState}
use Rattle.wb_recovery.specs.Timing.{new_ask, new_answer, heard_ask, fired_ask, fired_answer, noticed, asked, got, is_standing}
use Rattle.wb_recovery.specs.Events.{Event as Call, Notice, Asked, constants_after, timers_of}
use Rattle.wb_recovery.specs.Noticing.{notices}
use Rattle.wb_recovery.specs.Stopping.{receipts, is_received, got_each}
use Rattle.wb_recovery.specs.declared.missed.Received.{Received}
use Rattle.wb_recovery.specs.declared.tuning.Tuning.{Tuning}
use Rattle.wb_recovery.specs.declared.timers.AnswerTimer.{AnswerTimer}
use Rattle.wb_recovery.specs.declared.timers.Timers.{Timers}
use Rattle.wb_recovery.proofs.StoppedNames.{received_stops, timers_receipts}
use Rattle.wb_keeper.specs.GivingUp.{is_asked}
use Rattle.wb_keeper.specs.Hearing.{asks_for_held}
use Rattle.wb_keeper.specs.Keeper.{delay_to, received_of, missed_of, asked_by, given_up, events_of, holds}
use Rattle.wb_keeper.specs.Ticks.{stopped_after}
use Rattle.wb_keeper.proofs.KeptCalls.{holds_from}
use Rattle.wb_member.specs.Lines.{Line, Arrives, Calls, Says, after_line}
use Rattle.wb_member.specs.Members.{Member, Act, Draws, Takes, Hears, SetsDelay, SetsConstants, Misses, GivesUp, Ticks, Reports, AsksForPages, after}
use Rattle.wb_member.specs.Opened.{Opened, accepted, opened_with, present}
use Rattle.wb_progress.specs.Repairs.{timers_at}
use Rattle.wb_progress.proofs.OneCall.{received_in, not_standing}
use Rattle.wb_laws_sessions.specs.Sessions.{Step, host_at}
use Rattle.wb_laws_sessions.specs.Members.{Deed, Does, Opens, after_deed}
use Rattle.wb_laws_sessions.specs.Timers.{AnswersAreOfHeld, NoneHeldIsAskedFor}
use Rattle.wb_laws_sessions.proofs.Acts.{held_after, held_grows}
use Rattle.wb_laws_sessions.proofs.CallActs.{IsCareful, call_acts}
use Rattle.wb_progress.proofs.Giving.{held_as}

-- the timers of a name at a member
abbrev pub timers_of_member : Member → NameValue → Timers
timers_of_member m n = timers_at m.number m.constants m.calls n

-- ---- no request timer

abbrev pub HasNone : Timers → Type 0
HasNone s = s.ask ≡ None

got_none : (now delay : ℕ) (s : Timers) → HasNone s → HasNone (got now delay s)
got_none now delay s e = from (is_standing s) where
  from : (b : Bool) → HasNone (cond b (record { ask = None; answer = None; quiet = now + 3 * delay }) s)
  from true = refl
  from false = e

each_none : (now : ℕ) (n : NameValue) (s : Timers) (received : List Received) → HasNone s → HasNone (got_each now n s received)
each_none now n s [] e = e
each_none now n s (c ∷ received) e = each_none now n (cond (same_name c.name n) (got now c.delay s) s) received (from (same_name c.name n)) where
  from : (b : Bool) → HasNone (cond b (got now c.delay s) s)
  from true = got_none now c.delay s e
  from false = e

asked_none : (t : Tuning) (held : Bool) (now delay word : ℕ) (s : Timers) → HasNone s → HasNone (asked t held now delay word s)
asked_none t false now delay word s e = ap (heard_ask t now delay word) e
asked_none t true now delay word s e = from (is_none s.answer && nat_le s.quiet now) where
  from : (b : Bool) → HasNone (cond b (record s { answer = Some (new_answer t now delay word) }) s)
  from true = e
  from false = e

either_none : (b : Bool) (one other : Timers) → HasNone one → HasNone other → HasNone (cond b one other)
either_none true one other e f = e
either_none false one other e f = f

module _ (t : Tuning) (n : NameValue) where
  receipts_none : (now : ℕ) (events : List Call) (received : List Received) → HasNone (timers_of t events n) → HasNone (timers_of t (receipts now events received) n)
  receipts_none now events received e = subst HasNone (sym (timers_receipts t now events received n)) (each_none now n (timers_of t events n) received e)

  missed_none : (delays : ℕ → ℕ) (now : ℕ) (held : List DrawopValue) → holds held n ≡ true → (names : List NameValue) (words : List ℕ) → All (λ m. holds held m ≡ false) names → (events : List Call) → HasNone (timers_of t events n) → HasNone (timers_of t (notices now events (missed_of delays names words)) n)
  missed_none delays now held h [] words lacking events e = e
  missed_none delays now held h (m ∷ names) [] lacking events e = e
  missed_none delays now held h (m ∷ names) (w ∷ words) lacking events e = missed_none delays now held h names words (All-tail (λ k. holds held k ≡ false) m names lacking) (Notice m now (delays m.source) w ∷ events) (from (same_name m n) refl) where
    from : (b : Bool) → same_name m n ≡ b → HasNone (cond b (noticed (constants_after t events) now (delays m.source) w (timers_of t events n)) (timers_of t events n))
    from true f = absurd (true≢false (sym h ∙ ap (holds held) (sym (same_name-is m n f)) ∙ All-head (λ k. holds held k ≡ false) m names lacking))
    from false f = e

  heard_none : (me : ℕ) (delays : ℕ → ℕ) (now : ℕ) (v : Datagram) (word : ℕ) (held : Bool) (events : List Call) → HasNone (timers_of t events n) → HasNone (timers_of t (asked_by me delays now v word held events) n)
  heard_none me delays now (Request asker name) word held events e = from (nat_eq asker me) where
    from : (b : Bool) → HasNone (timers_of t (cond b events (Asked name held now (delays (cond held asker name.source)) word ∷ events)) n)
    from true = e
    from false = either_none (same_name name n) _ _ (asked_none (constants_after t events) held now (delays (cond held asker name.source)) word (timers_of t events n) e) e
  heard_none me delays now (Draw d) word held events e = e
  heard_none me delays now (Session sender sent page marks echoes) word held events e = e
  heard_none me delays now (AskPages asker) word held events e = e
  heard_none me delays now (PageState sender page marks) word held events e = e

-- a drawop that was just taken has come
abbrev pub HeldNone : Member → Type 0
HeldNone m = (n : NameValue) → holds m.held n ≡ true → HasNone (timers_of_member m n)

taken_none : (m : Member) (now : ℕ) (batch order : List DrawopValue) → All (λ d. Contains batch d) order → HeldNone m → HeldNone (after (Takes now batch order) m)
taken_none m now batch order careful none n h =
    let held : List DrawopValue = history_after m.cells m.held order in
    let events : List Call = events_of m.number m.calls in
    let names : List NameValue = filter (holds held) (map (λ (d : DrawopValue). d.name) batch) in
    let received : List Received = received_of (delay_to m.number m.calls) names in
    let s : Timers = timers_of m.constants events n in
    let x = held_as held n h in
    ⊎_elim
    (λ (c : Contains m.held x.0). receipts_none m.constants n now events received (none n (holds_from m.held n x.0 c x.2)))
    (λ (c : Contains order x.0).
    let b : Contains batch x.0 = All-contains (λ (d : DrawopValue). Contains batch d) order x.0 careful c in
    let named : Contains (map (λ (d : DrawopValue). d.name) batch) n = Contains-map (λ (d : DrawopValue). d.name) batch n (b.0, x.0, b.1, b.2, x.2) in
    let came : is_received received n ≡ true = received_in (delay_to m.number m.calls) names n (Contains-filter (holds held) (map (λ (d : DrawopValue). d.name) batch) n named h) in
    subst HasNone (sym (timers_receipts m.constants now events received n)) (not_standing (got_each now n s received) (received_stops now n s received came)).ask)
    (held_after (Takes now batch order) m x.0 x.1)

pub none_after : (act : Act) (m : Member) → IsCareful act m → HeldNone m → HeldNone (after act m)
none_after (Draws page time op) m careful none n h = none n h
none_after (Takes now batch order) m careful none n h = taken_none m now batch order careful none n h
none_after (Hears now v word) m careful none n h = heard_none m.constants n m.number (delay_to m.number m.calls) now v word (asks_for_held m.held v) (events_of m.number m.calls) (none n h)
none_after (SetsDelay source micros) m careful none n h = none n h
none_after (SetsConstants constants) m careful none n h = none n h
none_after (Misses now names words) m careful none n h = missed_none m.constants n (delay_to m.number m.calls) now m.held h names words careful (events_of m.number m.calls) (none n h)
none_after (GivesUp now name) m careful none n h = from (is_asked (timers_of m.constants (events_of m.number m.calls)) name) where
  from : (b : Bool) → HasNone (timers_of m.constants (given_up now name b (events_of m.number m.calls)) n)
  from true = receipts_none m.constants n now (events_of m.number m.calls) (received_of (λ source. 0) (name ∷ [])) (none n h)
  from false = none n h
none_after (Ticks now words) m careful none n h = ap (fired_ask (constants_after m.constants (receipts now (events_of m.number m.calls) (received_of (delay_to m.number m.calls) (stopped_after m.number m.constants m.calls m.held)))) now _) (receipts_none m.constants n now (events_of m.number m.calls) (received_of (delay_to m.number m.calls) (stopped_after m.number m.constants m.calls m.held)) (none n h))
none_after (Reports now page) m careful none n h = none n h
none_after AsksForPages m careful none n h = none n h

-- ---- answer timers

abbrev pub HasAnswer : Timers → Type 0
HasAnswer s = is_some s.answer ≡ true

got_answer : (now delay : ℕ) (s : Timers) → HasAnswer (got now delay s) → HasAnswer s
got_answer now delay s = from (is_standing s) where
  from : (b : Bool) → HasAnswer (cond b (record { ask = None; answer = None; quiet = now + 3 * delay }) s) → HasAnswer s
  from true e = absurd (true≢false (sym e))
  from false e = e

each_answer : (now : ℕ) (n : NameValue) (s : Timers) (received : List Received) → HasAnswer (got_each now n s received) → HasAnswer s
each_answer now n s [] e = e
each_answer now n s (c ∷ received) e = from (same_name c.name n) (each_answer now n (cond (same_name c.name n) (got now c.delay s) s) received e) where
  from : (b : Bool) → HasAnswer (cond b (got now c.delay s) s) → HasAnswer s
  from true e = got_answer now c.delay s e
  from false e = e

fired_had : (now : ℕ) (o : Option AnswerTimer) → is_some (fired_answer now o) ≡ true → is_some o ≡ true
fired_had now None e = e
fired_had now (Some a) e = refl

noticed_answer : (t : Tuning) (now delay word : ℕ) (s : Timers) → HasAnswer (noticed t now delay word s) → HasAnswer s
noticed_answer t now delay word s = from (is_none s.ask) where
  from : (b : Bool) → HasAnswer (cond b (record s { ask = Some (new_ask t now delay word) }) s) → HasAnswer s
  from true e = e
  from false e = e

module _ (t : Tuning) (n : NameValue) where
  receipts_answer : (now : ℕ) (events : List Call) (received : List Received) → HasAnswer (timers_of t (receipts now events received) n) → HasAnswer (timers_of t events n)
  receipts_answer now events received e = each_answer now n (timers_of t events n) received (subst HasAnswer (timers_receipts t now events received n) e)

  missed_answer : (delays : ℕ → ℕ) (now : ℕ) (names : List NameValue) (words : List ℕ) (events : List Call) → HasAnswer (timers_of t (notices now events (missed_of delays names words)) n) → HasAnswer (timers_of t events n)
  missed_answer delays now [] words events e = e
  missed_answer delays now (m ∷ names) [] events e = e
  missed_answer delays now (m ∷ names) (w ∷ words) events e = from (same_name m n) (missed_answer delays now names words (Notice m now (delays m.source) w ∷ events) e) where
    from : (b : Bool) → HasAnswer (cond b (noticed (constants_after t events) now (delays m.source) w (timers_of t events n)) (timers_of t events n)) → HasAnswer (timers_of t events n)
    from true f = noticed_answer (constants_after t events) now (delays m.source) w (timers_of t events n) f
    from false f = f

  -- a request sets one only for what is held
  heard_answer : (me : ℕ) (delays : ℕ → ℕ) (now : ℕ) (v : Datagram) (word : ℕ) (held : List DrawopValue) (events : List Call) → (HasAnswer (timers_of t events n) → holds held n ≡ true) → HasAnswer (timers_of t (asked_by me delays now v word (asks_for_held held v) events) n) → holds held n ≡ true
  heard_answer me delays now (Request asker name) word held events rest e = from (nat_eq asker me) (holds held name) refl (same_name name n) refl e where
    from : (own there : Bool) → holds held name ≡ there → (b : Bool) → same_name name n ≡ b → HasAnswer (timers_of t (cond own events (Asked name there now (delays (cond there asker name.source)) word ∷ events)) n) → holds held n ≡ true
    from true there h b f e = rest e
    from false true h b f e = by b f (subst (λ (c : Bool). HasAnswer (cond c (asked (constants_after t events) true now (delays asker) word (timers_of t events n)) (timers_of t events n))) f e) where
      by : (b : Bool) → same_name name n ≡ b → HasAnswer (cond b (asked (constants_after t events) true now (delays asker) word (timers_of t events n)) (timers_of t events n)) → holds held n ≡ true
      by true f e = subst (λ (k : NameValue). holds held k ≡ true) (same_name-is name n f) h
      by false f e = rest e
    from false false h b f e = by (same_name name n) e where
      by : (b : Bool) → HasAnswer (cond b (asked (constants_after t events) false now (delays name.source) word (timers_of t events n)) (timers_of t events n)) → holds held n ≡ true
      by true e = rest e
      by false e = rest e
  heard_answer me delays now (Draw d) word held events rest e = rest e
  heard_answer me delays now (Session sender sent page marks echoes) word held events rest e = rest e
  heard_answer me delays now (AskPages asker) word held events rest e = rest e
  heard_answer me delays now (PageState sender page marks) word held events rest e = rest e

abbrev pub AnswerHeld : Member → Type 0
AnswerHeld m = (n : NameValue) → HasAnswer (timers_of_member m n) → holds m.held n ≡ true

grows : (act : Act) (m : Member) (n : NameValue) → holds m.held n ≡ true → holds (after act m).held n ≡ true
grows act m n h = let x = held_as m.held n h in holds_from (after act m).held n x.0 (held_grows act m x.0 x.1) x.2

pub answer_after : (act : Act) (m : Member) → AnswerHeld m → AnswerHeld (after act m)
answer_after (Draws page time op) m is n e = is n e
answer_after (Takes now batch order) m is n e = grows (Takes now batch order) m n (is n (receipts_answer m.constants n now (events_of m.number m.calls) (received_of (delay_to m.number m.calls) (filter (holds (history_after m.cells m.held order)) (map (λ (d : DrawopValue). d.name) batch))) e))
answer_after (Hears now v word) m is n e = heard_answer m.constants n m.number (delay_to m.number m.calls) now v word m.held (events_of m.number m.calls) (is n) e
answer_after (SetsDelay source micros) m is n e = is n e
answer_after (SetsConstants constants) m is n e = is n e
answer_after (Misses now names words) m is n e = is n (missed_answer m.constants n (delay_to m.number m.calls) now names words (events_of m.number m.calls) e)
answer_after (GivesUp now name) m is n e = from (is_asked (timers_of m.constants (events_of m.number m.calls)) name) e where
  from : (b : Bool) → HasAnswer (timers_of m.constants (given_up now name b (events_of m.number m.calls)) n) → holds m.held n ≡ true
  from true e = is n (receipts_answer m.constants n now (events_of m.number m.calls) (received_of (λ source. 0) (name ∷ [])) e)
  from false e = is n e
answer_after (Ticks now words) m is n e = is n (receipts_answer m.constants n now (events_of m.number m.calls) (received_of (delay_to m.number m.calls) (stopped_after m.number m.constants m.calls m.held)) (fired_had now _ e))
answer_after (Reports now page) m is n e = is n e
answer_after AsksForPages m is n e = is n e

-- ---- line by line

-- what is so of a member, and stays so by careful acts
module _ (P : Member → Type 0) (stays : (act : Act) (m : Member) → IsCareful act m → P m → P (after act m)) where
  takes_one : (d : DrawopValue) (host : Opened) → P host.is → P (accepted d host).is
  takes_one d host is = stays (Takes (present host) (d ∷ []) (d ∷ [])) host.is (All-contains_itself (d ∷ [])) is

  pub line_keeps : (line : Line) (host : Opened) → P host.is → P (after_line line host).is
  line_keeps (Arrives d) host is = takes_one d host is
  line_keeps (Says (Draw d)) host is = takes_one d host is
  line_keeps (Says v) host is = is
  line_keeps (Calls call) host is = call_acts (λ m next sent. P m → P next) stays (λ m was. was) call host is

  host_keeps : ((constants : Tuning) (number cells seed : ℕ) → P (opened_with constants number cells seed).is) → (numbers : ℕ → ℕ) (steps : List Step) (i : ℕ) → P (host_at numbers steps i).is
  host_keeps opens numbers [] i = opens _ (numbers i) 0 0
  host_keeps opens numbers (e ∷ older) i = by (host_keeps opens numbers older i) (nat_eq e.place i) e.event where
    by : P (host_at numbers older i).is → (b : Bool) (deed : Deed) → P (cond b (after_deed deed (host_at numbers older i)) (host_at numbers older i)).is
    by is true (Does line) = line_keeps line (host_at numbers older i) is
    by is true (Opens constants cells seed) = opens constants (host_at numbers older i).is.number cells seed
    by is false deed = is

pub none_held_is_asked_for : NoneHeldIsAskedFor
none_held_is_asked_for numbers steps i n h = host_keeps HeldNone none_after (λ constants number cells seed n h. refl) numbers steps i n h

pub answers_are_of_held : AnswersAreOfHeld
answers_are_of_held numbers steps i n h = host_keeps AnswerHeld (λ act m careful is. answer_after act m is) (λ constants number cells seed n h. absurd (true≢false (sym h))) numbers steps i n h
