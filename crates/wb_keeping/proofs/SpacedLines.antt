-- What one line makes of the request timer of a name, and how many requests for the name it sends.
use Rattle.std.proofs.Common.{◌≡◌, ℕ, suc, ◌≤◌, Bool, true, false, cond, List, [], ◌∷◌, ◌++◌, ◌∙◌, Option, Some, None, ap, arith, filter, inl, inr, length, map, refl, subst, sym, true≢false, ⊎_elim}
use Rattle.std.specs.Prelude.{◌⊎◌, Contains, nat_eq}
use Rattle.std.specs.List.{filter_map}
use Rattle.std.specs.List.Sorted.{IsStrictlySortedBy}
use Rattle.std.specs.Ordering.{is_eq}
use Rattle.std.proofs.lemmas.List.Elements.{filter_map-append}
use Rattle.std.proofs.lemmas.Map.Keys.{sorted_tail}
use Rattle.wb_names.specs.Orders.{name_cmp, same_name}
use Rattle.wb_names.specs.Values.{DrawopValue, NameValue}
use Rattle.wb_names.proofs.Listings.{Contains-here, Contains-there, below_all}
use Rattle.wb_names.proofs.Orders.{name_total, same_name-is}
use Rattle.wb_codec.specs.declared.datagram.Datagram.{Datagram}
use Rattle.wb_codec.specs.declared.datagram.Datagram.TheVariants.{Draw, Session, Request, AskPages, PageState}
use Rattle.wb_recovery.specs.Events.{Asked, Event, constants_after, due_answers, due_asks, names_of, timers_of, word_for}
use Rattle.wb_recovery.specs.Stopping.{receipts}
use Rattle.wb_recovery.specs.Timing.{asked, fired_ask, is_ask_due, noticed}
use Rattle.wb_recovery.specs.declared.missed.Received.{Received}
use Rattle.wb_recovery.specs.declared.plan.Action.TheVariants.{Ask, Answer}
use Rattle.wb_recovery.specs.declared.timers.AskTimer.{AskTimer}
use Rattle.wb_recovery.specs.declared.timers.Timers.{Timers}
use Rattle.wb_recovery.specs.declared.tuning.Tuning.{Tuning}
use Rattle.wb_recovery.proofs.NameLists.{listed_of}
use Rattle.wb_recovery.proofs.NameOrder.{name_decides}
use Rattle.wb_keeper.specs.Hearing.{asks_for_held}
use Rattle.wb_keeper.specs.Keeper.{asked_by, delay_to, given_up, holds, received_of}
use Rattle.wb_keeper.specs.Ticks.{sent_for, stopped_after}
use Rattle.wb_member.specs.Judged.{delay}
use Rattle.wb_member.specs.Members.{Misses}
use Rattle.wb_member.specs.Opened.{Opened, accepted, asks_for, becomes, doing, due_count, events, has_room_for, heard, may_ask, present, word_at}
use Rattle.wb_member.specs.Random.{word_of, words_of}
use Rattle.wb_member.specs.declared.calls.Call.TheVariants as calls
use Rattle.wb_keeping.specs.Bounds.{is_request, request_count, requests}
use Rattle.wb_keeping.specs.Kept.{Arrives, Calls, Line, Says}
use Rattle.wb_keeping.specs.Performing.{after_line, after_lines, said_where, sent_by_line}
use Rattle.wb_keeping.proofs.StandingTimers.{answers_in, drawn_requests, heard_requests}
use Rattle.wb_keeping.proofs.BackedOff.{AreSpaced, Backs, IsLong, Rests, asked_backs, fired_backs, receipts_rest, spaced_constants, spaced_long, spaced_receipts}

-- ---- lines that bring no delay below 10 milliseconds to a timer

-- Time does not go back. If a timer is set or may be backed off, the delay is not below 10 milliseconds.
abbrev pub IsApt : Line → Opened → Type 0
IsApt (Calls (calls.Tick now)) host = present host ≤ now
IsApt (Arrives d) host = Unit {0}
IsApt (Calls (calls.Hear (Draw d))) host = Unit {0}
IsApt (Calls (calls.Hear (Session sender sent page marks echoes))) host = Unit {0}
IsApt (Calls (calls.Hear (Request asker name))) host = 10000 ≤ delay host name.source
IsApt (Calls (calls.Hear (AskPages asker))) host = Unit {0}
IsApt (Calls (calls.Hear (PageState sender page marks))) host = Unit {0}
IsApt (Calls (calls.Ask name)) host = 10000 ≤ delay host name.source
IsApt (Calls (calls.Tune constants)) host = 1 ≤ constants.c1
IsApt (Calls (calls.Look page)) host = ⊥
IsApt (Calls call) host = Unit {0}
IsApt (Says (Draw d)) host = Unit {0}
IsApt (Says (Session sender sent page marks echoes)) host = Unit {0}
IsApt (Says (Request asker name)) host = ⊥
IsApt (Says (AskPages asker)) host = Unit {0}
IsApt (Says (PageState sender page marks)) host = Unit {0}

-- Q holds of each of these lines at the host that performs it
abbrev pub AreAll : (Line → Opened → Type 0) → List Line → Opened → Type 0
AreAll Q [] host = Unit {0}
AreAll Q (line ∷ lines) host = Q line host × AreAll Q lines (after_line line host)

abbrev pub AreApt : List Line → Opened → Type 0
AreApt = AreAll IsApt

-- what came to its timers was so
abbrev pub IsSpacedHost : Opened → Type 0
IsSpacedHost host = (1 ≤ host.is.constants.c1) × AreSpaced (events host)

-- a host that begins to miss a name; what comes by a tick, and by a drawop
abbrev pub missing : NameValue → Opened → Opened
missing name host = doing (Misses (present host) (name ∷ []) (word_of host.random ∷ [])) 1 host

abbrev come_by_tick : Opened → List Received
come_by_tick host = received_of (delay_to host.is.number host.is.calls) (stopped_after host.is.number host.is.constants host.is.calls host.is.held)

abbrev come_by : DrawopValue → Opened → List Received
come_by d host = received_of (delay_to host.is.number host.is.calls) (filter (holds (accepted d host).is.held) (d.name ∷ []))

asked_spaced : (me now : ℕ) (delays : ℕ → ℕ) (asker : ℕ) (name : NameValue) (word : ℕ) (held : Bool) (calls : List Event) → 10000 ≤ delays name.source
    → AreSpaced calls → AreSpaced (asked_by me delays now (Request asker name) word held calls)
asked_spaced me now delays asker name word held calls long spaced = by (nat_eq asker me) held where
  by : (own held : Bool) → AreSpaced (cond own calls (Asked name held now (delays (cond held asker name.source)) word ∷ calls))
  by true held = spaced
  by false true = (tt, spaced)
  by false false = (long, spaced)

arrival_spaced : (d : DrawopValue) (host : Opened) → IsSpacedHost host → IsSpacedHost (accepted d host)
arrival_spaced d host is = (is.0, spaced_receipts (present host) (events host) (come_by d host) is.1)

pub either_host : (P : Opened → Type 0) (b : Bool) (one other : Opened) → P one → P other → P (cond b one other)
either_host P true one other p q = p
either_host P false one other p q = q

pub tick_spaced : (now : ℕ) (host : Opened) → IsSpacedHost host → IsSpacedHost (after_line (Calls (calls.Tick now)) host)
tick_spaced now host is = (is.0, (tt, spaced_receipts now (events host) (come_by_tick host) is.1))

pub line_spaced : (line : Line) (host : Opened) → IsApt line host → IsSpacedHost host → IsSpacedHost (after_line line host)
line_spaced (Calls (calls.Tick now)) host apt is = tick_spaced now host is
line_spaced (Arrives d) host apt is = arrival_spaced d host is
line_spaced (Calls (calls.Hear (Draw d))) host apt is = either_host IsSpacedHost (has_room_for (Draw d) host) (heard (Draw d) host) host is is
line_spaced (Calls (calls.Hear (Session sender sent page marks echoes))) host apt is =
    let v = Session sender sent page marks echoes in
    either_host IsSpacedHost (has_room_for v host) (heard v host) host is is
line_spaced (Calls (calls.Hear (Request asker name))) host apt is =
    let v = Request asker name in
    either_host IsSpacedHost (has_room_for v host) (heard v host) host
    (is.0, asked_spaced host.is.number (present host) (delay host) asker name (word_at v host.random) (asks_for_held host.is.held v) (events host) apt is.1) is
line_spaced (Calls (calls.Hear (AskPages asker))) host apt is = either_host IsSpacedHost (has_room_for (AskPages asker) host) (heard (AskPages asker) host) host is is
line_spaced (Calls (calls.Hear (PageState sender page marks))) host apt is =
    let v = PageState sender page marks in
    either_host IsSpacedHost (has_room_for v host) (heard v host) host is is
line_spaced (Calls (calls.Ask name)) host apt is = either_host IsSpacedHost (may_ask name host) (missing name host) host (is.0, (apt, is.1)) is
line_spaced (Calls (calls.Stop name)) host apt is = (is.0, by (asks_for name host)) where
  by : (b : Bool) → AreSpaced (given_up (present host) name b (events host))
  by true = spaced_receipts (present host) (events host) (received_of (λ source. 0) (name ∷ [])) is.1
  by false = is.1
line_spaced (Calls (calls.Tune constants)) host apt is = (is.0, (apt, is.1))
line_spaced (Calls (calls.Look page)) host apt is = absurd apt
line_spaced (Calls call) host apt is = is
line_spaced (Says (Draw d)) host apt is = arrival_spaced d host is
line_spaced (Says (Session sender sent page marks echoes)) host apt is = is
line_spaced (Says (Request asker name)) host apt is = absurd apt
line_spaced (Says (AskPages asker)) host apt is = is
line_spaced (Says (PageState sender page marks)) host apt is = is

pub lines_spaced : (lines : List Line) (host : Opened) → AreApt lines host → IsSpacedHost host → IsSpacedHost (after_lines lines host)
lines_spaced [] host apt is = is
lines_spaced (line ∷ lines) host apt is = lines_spaced lines (after_line line host) apt.1 (line_spaced line host apt.0 is)

-- ---- time does not go back

abbrev IsNotBefore : Opened → Opened → Type 0
IsNotBefore host next = present host ≤ present next

same_moment : (host : Opened) → IsNotBefore host host
same_moment host = omega arith

pub line_later : (line : Line) (host : Opened) → IsApt line host → present host ≤ present (after_line line host)
line_later (Calls (calls.Tick now)) host apt = apt
line_later (Arrives d) host apt = same_moment host
line_later (Calls (calls.Hear v)) host apt = either_host (IsNotBefore host) (has_room_for v host) (heard v host) host (same_moment host) (same_moment host)
line_later (Calls (calls.Ask name)) host apt = either_host (IsNotBefore host) (may_ask name host) (missing name host) host (same_moment host) (same_moment host)
line_later (Calls call) host apt = same_moment host
line_later (Says (Draw d)) host apt = same_moment host
line_later (Says (Session sender sent page marks echoes)) host apt = same_moment host
line_later (Says (Request asker name)) host apt = same_moment host
line_later (Says (AskPages asker)) host apt = same_moment host
line_later (Says (PageState sender page marks)) host apt = same_moment host

pub lines_later : (lines : List Line) (host : Opened) → AreApt lines host → present host ≤ present (after_lines lines host)
lines_later [] host apt = same_moment host
lines_later (line ∷ lines) host apt =
    let one = line_later line host apt.0 in
    let rest = lines_later lines (after_line line host) apt.1 in
    omega (arith, one, rest)

-- ---- requests for a name

module _ (n : NameValue) where
  fewer : (sent : List Datagram) → request_count n sent ≤ length (filter is_request sent)
  fewer [] = omega arith
  fewer (Draw d ∷ sent) = fewer sent
  fewer (Session sender sent_at page marks echoes ∷ sent) = fewer sent
  fewer (Request asker name ∷ sent) = by (same_name name n) (fewer sent) where
    by : (b : Bool) → request_count n sent ≤ length (filter is_request sent)
        → length (cond b (Request asker name ∷ filter (requests n) sent) (filter (requests n) sent)) ≤ suc (length (filter is_request sent))
    by true le = omega (arith, le)
    by false le = omega (arith, le)
  fewer (AskPages asker ∷ sent) = fewer sent
  fewer (PageState sender page marks ∷ sent) = fewer sent

  -- if nothing is requested, the name is not
  none_for : (sent : List Datagram) → length (filter is_request sent) ≡ 0 → request_count n sent ≡ 0
  none_for sent none = let le = fewer sent in omega (arith, le, none)

  asks_in : (me : ℕ) (history : List DrawopValue) (names : List NameValue) (sent : List Datagram) → request_count n sent ≡ 0
      → request_count n (filter_map (sent_for me history) (map Ask names) ++ sent) ≡ length (filter (λ m. same_name m n) names)
  asks_in me history [] sent none = none
  asks_in me history (m ∷ names) sent none = by (same_name m n) (asks_in me history names sent none) where
    rest : List Datagram
    rest = filter_map (sent_for me history) (map Ask names) ++ sent

    by : (b : Bool) → request_count n rest ≡ length (filter (λ m. same_name m n) names)
        → length (cond b (Request me m ∷ filter (requests n) rest) (filter (requests n) rest)) ≡ length (cond b (m ∷ filter (λ m. same_name m n) names) (filter (λ m. same_name m n) names))
    by true e = ap suc e
    by false e = e

  none_in : (names : List NameValue) → ((m : NameValue) → Contains names m → same_name m n ≡ false) → length (filter (λ m. same_name m n) names) ≡ 0
  none_in [] other = refl
  none_in (m ∷ names) other =
      let rest = filter (λ m. same_name m n) names in
      ap (λ (b : Bool). length (cond b (m ∷ rest) rest)) (other m (Contains-here m names)) ∙ none_in names (λ z c. other z (Contains-there m z names c))

  once_in : (names : List NameValue) → IsStrictlySortedBy name_cmp names → length (filter (λ m. same_name m n) names) ≤ 1
  once_in [] rises = omega arith
  once_in (m ∷ names) rises = by (same_name m n) refl (once_in names (sorted_tail name_cmp m names rises)) where
    apart : m ≡ n → (z : NameValue) → Contains names z → (b : Bool) → same_name z n ≡ b → b ≡ false
    apart first z c false e = refl
    apart first z c true e =
        let less = below_all name_total m z names rises c in
        let same : m ≡ z = first ∙ sym (same_name-is z n e) in
        absurd (true≢false (sym ((name_decides m z).1 same) ∙ ap is_eq less))

    by : (b : Bool) → same_name m n ≡ b → length (filter (λ m. same_name m n) names) ≤ 1
        → length (cond b (m ∷ filter (λ m. same_name m n) names) (filter (λ m. same_name m n) names)) ≤ 1
    by true e rest = let none = none_in names (λ z c. apart (same_name-is m n e) z c (same_name z n) refl) in omega (arith, none)
    by false e rest = rest

  -- a tick requests it once at most, and only if its timer is due
  module _ (now : ℕ) (host : Opened) where
    abbrev then_calls : List Event
    then_calls = receipts now (events host) (come_by_tick host)

    abbrev due : List NameValue
    due = due_asks (names_of then_calls) (timers_of host.is.constants then_calls) now

    tick_count : request_count n (sent_by_line (Calls (calls.Tick now)) host) ≡ length (filter (λ m. same_name m n) due)
    tick_count =
        let me = host.is.number in
        let history = host.is.held in
        let answering = due_answers (names_of then_calls) (timers_of host.is.constants then_calls) now in
        let answers = filter_map (sent_for me history) (map Answer answering) in
        let sent : sent_by_line (Calls (calls.Tick now)) host ≡ filter_map (sent_for me history) (map Ask due) ++ answers = filter_map-append (sent_for me history) (map Ask due) (map Answer answering) in
        ap (request_count n) sent ∙ asks_in me history due answers (none_for answers (answers_in me history answering))

    tick_once : request_count n (sent_by_line (Calls (calls.Tick now)) host) ≤ 1
    tick_once =
        let rising = listed_of (λ (s : Timers). is_ask_due now s.ask) refl host.is.constants then_calls in
        let once = once_in due rising.rising in
        subst (λ (k : ℕ). k ≤ 1) (sym tick_count) once

    tick_none : is_ask_due now (timers_of host.is.constants then_calls n).ask ≡ false → request_count n (sent_by_line (Calls (calls.Tick now)) host) ≡ 0
    tick_none later = tick_count ∙ none_in due (λ z c. other z c (same_name z n) refl) where
      other : (z : NameValue) → Contains due z → (b : Bool) → same_name z n ≡ b → b ≡ false
      other z c false e = refl
      other z c true e =
          let rising = listed_of (λ (s : Timers). is_ask_due now s.ask) refl host.is.constants then_calls in
          let is_due = (rising.members z).0 c in
          absurd (true≢false (sym (subst (λ (m : NameValue). is_ask_due now (timers_of host.is.constants then_calls m).ask ≡ true) (same_name-is z n e) is_due) ∙ later))

  -- ---- its request timer

  abbrev pub ask_at : Opened → Option AskTimer
  ask_at host = (timers_of host.is.constants (events host) n).ask

  -- the timer rests, and it is not requested; or it is backed off, and requested once at most, if it was due; or it is asked for
  abbrev pub Moves : Line → ℕ → ℕ → Option AskTimer → Option AskTimer → Type 0
  Moves line now count old new = (Rests old new × (count ≡ 0)) ⊎ (((b : Backs now old new) × (count ≤ 1) × ((count ≡ 0) ⊎ (b.x.due ≤ now))) ⊎ (line ≡ Calls (calls.Ask n)))

  quietly : (line : Line) (now count : ℕ) (old new : Option AskTimer) → count ≡ 0 → Rests old new ⊎ Backs now old new → Moves line now count old new
  quietly line now count old new none moved = ⊎_elim
      (λ (r : Rests old new). inl (r, none))
      (λ (b : Backs now old new). inr (inl (b, omega (arith, none), inl none)))
      moved

  -- what came stops it, or not; then it fires, or not
  fired_moves : (t : Tuning) (now word count : ℕ) (old mid : Option AskTimer) → Rests old mid → 1 ≤ t.c1 → IsLong mid → count ≤ 1
      → (is_ask_due now mid ≡ false → count ≡ 0)
      → Moves (Calls (calls.Tick now)) now count old (fired_ask t now word mid)
  fired_moves t now word count old mid rests one long few none = ⊎_elim
      (λ (r : Rests mid (fired_ask t now word mid) × (is_ask_due now mid ≡ false)). inl (
        ⊎_elim
            (λ (same : fired_ask t now word mid ≡ mid). ⊎_elim (λ (e : mid ≡ old). inl (same ∙ e)) (λ (e : mid ≡ None). inr (same ∙ e)) rests)
            (λ (gone : fired_ask t now word mid ≡ None). inr gone)
            r.0,
        none r.1,
      ))
      (λ (f : (b : Backs now mid (fired_ask t now word mid)) × (b.x.due ≤ now)). ⊎_elim
      (λ (e : mid ≡ old). inr (inl (record { x = f.0.x; y = f.0.y; was = sym e ∙ f.0.was; is = f.0.is; level = f.0.level; due = f.0.due }, few, inr f.1)))
      (λ (e : mid ≡ None). absurd (none_some f.0.x (sym e ∙ f.0.was)))
      rests)
      (fired_backs t now word mid one long) where
        none_some : (x : AskTimer) → ◌≡◌ {A = Option AskTimer} None (Some x) → ⊥
        none_some x e = cc

  tick_moves : (now : ℕ) (host : Opened) → IsSpacedHost host
      → Moves (Calls (calls.Tick now)) now (request_count n (sent_by_line (Calls (calls.Tick now)) host)) (ask_at host) (ask_at (after_line (Calls (calls.Tick now)) host))
  tick_moves now host is =
      let stopped = come_by_tick host in
      let events_now = receipts now (events host) stopped in
      let spaced = spaced_receipts now (events host) stopped is.1 in
      fired_moves (constants_after host.is.constants events_now) now
      (word_for (words_of host.random (due_count now host)) (due_asks (names_of events_now) (λ m. timers_of host.is.constants events_now m) now) n)
      (request_count n (sent_by_line (Calls (calls.Tick now)) host)) (ask_at host) (timers_of host.is.constants events_now n).ask
      (receipts_rest host.is.constants now (events host) stopped n)
      (spaced_constants host.is.constants events_now is.0 spaced)
      (spaced_long host.is.constants events_now n is.0 spaced)
      (tick_once now host) (tick_none now host)

  -- by what is heard
  abbrev Turns : Opened → Opened → Type 0
  Turns host next = Rests (ask_at host) (ask_at next) ⊎ Backs (present next) (ask_at host) (ask_at next)

  as_before : (host : Opened) → Turns host host
  as_before host = inl (inl refl)

  heard_turns : (asker : ℕ) (name : NameValue) (host : Opened) → 10000 ≤ delay host name.source → IsSpacedHost host
      → Turns host (heard (Request asker name) host)
  heard_turns asker name host long is = by (nat_eq asker host.is.number) (asks_for_held host.is.held (Request asker name)) where
    s : Timers
    s = timers_of host.is.constants (events host) n

    now : ℕ
    now = present host

    word : ℕ
    word = word_at (Request asker name) host.random

    t : Tuning
    t = constants_after host.is.constants (events host)

    far : Bool → ℕ
    far held = delay host (cond held asker name.source)

    After : Timers → Type 0
    After next = Rests s.ask next.ask ⊎ Backs now s.ask next.ask

    long_where : (held : Bool) → held ≡ false → 10000 ≤ far held
    long_where true e = absurd (true≢false e)
    long_where false e = long

    named : (held same : Bool) → After (cond same (asked t held now (far held) word s) s)
    named held true = asked_backs t held now (far held) word s (spaced_constants host.is.constants (events host) is.0 is.1) (long_where held)
    named held false = inl (inl refl)

    by : (own held : Bool) → After (timers_of host.is.constants (cond own (events host) (Asked name held now (far held) word ∷ events host)) n)
    by true held = inl (inl refl)
    by false held = named held (same_name name n)

  hears_turns : (v : Datagram) (host : Opened) → IsApt (Calls (calls.Hear v)) host → IsSpacedHost host → Turns host (after_line (Calls (calls.Hear v)) host)
  hears_turns (Draw d) host apt is = either_host (Turns host) (has_room_for (Draw d) host) (heard (Draw d) host) host (inl (inl refl)) (as_before host)
  hears_turns (Session sender sent page marks echoes) host apt is =
      let v = Session sender sent page marks echoes in
      either_host (Turns host) (has_room_for v host) (heard v host) host (inl (inl refl)) (as_before host)
  hears_turns (Request asker name) host apt is =
      let v = Request asker name in
      either_host (Turns host) (has_room_for v host) (heard v host) host (heard_turns asker name host apt is) (as_before host)
  hears_turns (AskPages asker) host apt is = either_host (Turns host) (has_room_for (AskPages asker) host) (heard (AskPages asker) host) host (inl (inl refl)) (as_before host)
  hears_turns (PageState sender page marks) host apt is =
      let v = PageState sender page marks in
      either_host (Turns host) (has_room_for v host) (heard v host) host (inl (inl refl)) (as_before host)

  -- by a line that asks
  asks_moves : (name : NameValue) (host : Opened)
      → Moves (Calls (calls.Ask name)) (present (after_line (Calls (calls.Ask name)) host)) 0 (ask_at host) (ask_at (after_line (Calls (calls.Ask name)) host))
  asks_moves name host = by (same_name name n) refl where
    s : Timers
    s = timers_of host.is.constants (events host) n

    other : same_name name n ≡ false → (b : Bool) → ask_at (cond b (missing name host) host) ≡ ask_at host
    other e true =
        let t = constants_after host.is.constants (events host) in
        ap (λ (b : Bool). (cond b (noticed t (present host) (delay host name.source) (word_of host.random) s) s).ask) e
    other e false = refl

    by : (b : Bool) → same_name name n ≡ b → Moves (Calls (calls.Ask name)) (present (after_line (Calls (calls.Ask name)) host)) 0 (ask_at host) (ask_at (after_line (Calls (calls.Ask name)) host))
    by true e = inr (inr (ap (λ (x : NameValue). Calls (calls.Ask x)) (same_name-is name n e)))
    by false e = inl (inl (other e (may_ask name host)), refl)

  stops_rest : (name : NameValue) (host : Opened) → Rests (ask_at host) (ask_at (after_line (Calls (calls.Stop name)) host))
  stops_rest name host = by (asks_for name host) where
    by : (b : Bool) → Rests (ask_at host) (timers_of host.is.constants (given_up (present host) name b (events host)) n).ask
    by true = receipts_rest host.is.constants (present host) (events host) (received_of (λ source. 0) (name ∷ [])) n
    by false = inl refl

  arrival_rests : (d : DrawopValue) (host : Opened) → Rests (ask_at host) (ask_at (accepted d host))
  arrival_rests d host = receipts_rest host.is.constants (present host) (events host) (come_by d host) n

  pub line_moves : (line : Line) (host : Opened) → IsApt line host → IsSpacedHost host
      → Moves line (present (after_line line host)) (request_count n (sent_by_line line host)) (ask_at host) (ask_at (after_line line host))
  line_moves (Calls (calls.Tick now)) host apt is = tick_moves now host is
  line_moves (Arrives d) host apt is = inl (arrival_rests d host, refl)
  line_moves (Calls (calls.Hear v)) host apt is =
      let next = after_line (Calls (calls.Hear v)) host in
      let sent = sent_by_line (Calls (calls.Hear v)) host in
      quietly (Calls (calls.Hear v)) (present next) (request_count n sent) (ask_at host) (ask_at next) (none_for sent (heard_requests v host (has_room_for v host))) (hears_turns v host apt is)
  line_moves (Calls (calls.Ask name)) host apt is = asks_moves name host
  line_moves (Calls (calls.Stop name)) host apt is = inl (stops_rest name host, refl)
  line_moves (Calls (calls.Look page)) host apt is = absurd apt
  line_moves (Calls call) host apt is = inl (inl refl, refl)
  line_moves (Says (Draw d)) host apt is = inl (arrival_rests d host, none_for (said_where d (becomes d host)) (drawn_requests d (becomes d host)))
  line_moves (Says (Session sender sent page marks echoes)) host apt is = inl (inl refl, refl)
  line_moves (Says (Request asker name)) host apt is = absurd apt
  line_moves (Says (AskPages asker)) host apt is = inl (inl refl, refl)
  line_moves (Says (PageState sender page marks)) host apt is = inl (inl refl, refl)
