-- How many request timers stand at a host once it performed a line.
use Rattle.std.proofs.Common.{◌≡◌, ℕ, suc, ◌+◌, ◌≤◌, ◌<◌, Bool, true, false, cond, List, [], ◌∷◌, ◌++◌, ◌∙◌, Option, Some, None, ap, arith, filter, inl, inr, length, map, refl, subst, sym, true≢false, ⊎_elim}
use Rattle.std.specs.Prelude.{◌⊎◌, ◌||◌, Contains, is_some, nat_eq, not}
use Rattle.std.specs.List.{cons_option, filter_map}
use Rattle.std.specs.Option.{option_map}
use Rattle.std.proofs.lemmas.List.Elements.{filter_map-append}
use Rattle.wb_gaps.specs.Answers.{reports_of}
use Rattle.std.specs.List.Sorted.{IsStrictlySortedBy}
use Rattle.std.specs.Ordering.{is_eq}
use Rattle.std.specs.declared.cmp.Ordering.TheVariants.{Less}
use Rattle.std.proofs.lemmas.List.Sums.{count_by-le-length, length-filter}
use Rattle.std.proofs.lemmas.Map.Keys.{sorted_tail}
use Rattle.wb_names.specs.Listing.{Lists}
use Rattle.wb_names.specs.Orders.{name_cmp, same_name}
use Rattle.wb_names.specs.Values.{DrawopValue, NameValue}
use Rattle.wb_names.proofs.Listings.{Contains-cases, Contains-filter, Contains-here, Contains-none, Contains-there, below_all}
use Rattle.wb_names.proofs.Orders.{name_total, same_name-is, same_name-itself}
use Rattle.wb_codec.specs.declared.datagram.Datagram.{Datagram}
use Rattle.wb_codec.specs.declared.datagram.Datagram.TheVariants.{Draw, Session, Request, AskPages, PageState}
use Rattle.wb_recovery.specs.Events.{Asked, Event, Got, due_answers, due_asks, names_of, timers_of}
use Rattle.wb_recovery.specs.Laws.{arrives, notices, since}
use Rattle.wb_recovery.specs.Stopping.{receipts}
use Rattle.wb_recovery.specs.Timing.{is_ask_due}
use Rattle.wb_recovery.specs.declared.missed.Received.{Received}
use Rattle.wb_recovery.specs.declared.plan.Action.TheVariants.{Ask, Answer}
use Rattle.wb_recovery.specs.declared.timers.AskTimer.{AskTimer}
use Rattle.wb_recovery.specs.declared.timers.Timers.{Timers}
use Rattle.wb_recovery.proofs.NameLists.{listed_of}
use Rattle.wb_recovery.proofs.NameOrder.{name_decides}
use Rattle.wb_recovery.proofs.TimerLaws.{request_stands}
use Rattle.wb_gaps.specs.declared.page_reports.PageReport.{PageReport}
use Rattle.wb_keeper.specs.GivingUp.{is_asked, level as level_in}
use Rattle.wb_keeper.specs.Hearing.{answers_to, asks_for_held, asks_for_pages, page_states}
use Rattle.wb_keeper.specs.Keeper.{asked_by, delay_to, given_up, holds, received_of}
use Rattle.wb_keeper.specs.Ticks.{drawop_of, sent_for, stopped_after}
use Rattle.wb_keeper.proofs.TickSends.{due_stands}
use Rattle.wb_member.specs.Judged.{asked_names}
use Rattle.wb_member.specs.Members.{Misses}
use Rattle.wb_member.specs.Opened.{Opened, becomes, doing, events, has_room_for, heard, may_ask, present, word_at}
use Rattle.wb_member.specs.Random.{word_of}
use Rattle.wb_member.specs.declared.calls.Call.TheVariants as calls
use Rattle.wb_keeping.specs.Bounds.{is_ask, is_request, timer_count}
use Rattle.wb_keeping.specs.Kept.{Arrives, Line, Says, Calls}
use Rattle.wb_keeping.specs.Performing.{after_line, said_where, sent_by_line, view_of}
use Rattle.wb_keeping.specs.Views.{is_asked as is_asked_by}
use Rattle.wb_names.specs.Arrivals.{Outcome, New, Again, Clash, Left}
use Rattle.wb_keeping.proofs.AskedTimers.{level_seen}

-- ---- names without one

abbrev without : NameValue → List NameValue → List NameValue
without x ys = filter (λ n. not (same_name x n)) ys

no_longer : (x : NameValue) (ys : List NameValue) → length (without x ys) ≤ length ys
no_longer x ys =
    let counts = length-filter (λ (n : NameValue). not (same_name x n)) ys in
    let few = count_by-le-length (λ (n : NameValue). not (same_name x n)) ys in
    omega (arith, counts, few)

shorter : (x : NameValue) (ys : List NameValue) → Contains ys x → length (without x ys) < length ys
shorter x [] there = absurd (Contains-none x there)
shorter x (y ∷ ys) there = by (same_name x y) refl (no_longer x ys) (shorter x ys) where
  by : (b : Bool) → same_name x y ≡ b → length (without x ys) ≤ length ys → (Contains ys x → length (without x ys) < length ys) → length (cond (not b) (y ∷ without x ys) (without x ys)) < suc (length ys)
  by true e le lt = omega (arith, le)
  by false e le lt =
      let later = ⊎_elim (λ (same : y ≡ x). absurd (true≢false (sym (subst (λ (n : NameValue). same_name x n ≡ true) (sym same) (same_name-itself x)) ∙ e))) lt (Contains-cases y x ys there) in
      omega (arith, later)

apart : (x z : NameValue) → name_cmp x z ≡ Less → not (same_name x z) ≡ true
apart x z less = by (same_name x z) refl where
  by : (b : Bool) → same_name x z ≡ b → not b ≡ true
  by true e = absurd (true≢false (sym ((name_decides x z).1 (same_name-is x z e)) ∙ ap is_eq less))
  by false e = refl

-- names that rise and are among others are as many at most
pub as_many : (xs ys : List NameValue) → IsStrictlySortedBy name_cmp xs → ((z : NameValue) → Contains xs z → Contains ys z) → length xs ≤ length ys
as_many [] ys rises among = omega arith
as_many (x ∷ xs) ys rises among =
    let lt = shorter x ys (among x (Contains-here x xs)) in
    let rest = as_many xs (without x ys) (sorted_tail name_cmp x xs rises) (λ z c. Contains-filter (λ n. not (same_name x n)) ys z (among z (Contains-there x z xs c)) (apart x z (below_all name_total x z xs rises c))) in
    omega (arith, lt, rest)

-- ---- names with a request timer

abbrev pub Stands : Opened → NameValue → Type 0
Stands host n = is_some (timers_of host.is.constants (events host) n).ask ≡ true

listed : (host : Opened) → Lists name_cmp (Stands host) (asked_names host)
listed host = listed_of (λ (s : Timers). is_some s.ask) refl host.is.constants (events host)

pub stands_in : (host : Opened) (n : NameValue) → Contains (asked_names host) n → Stands host n
stands_in host n there = ((listed host).members n).0 there

pub is_some_level : (o : Option AskTimer) → is_some (level_in o) ≡ is_some o
is_some_level None = refl
is_some_level (Some a) = refl

pub stands_asked : (host : Opened) (name : NameValue) → is_asked_by (view_of host) name ≡ true → Stands host name
stands_asked host name asked = sym (ap is_some (level_seen host name) ∙ is_some_level (timers_of host.is.constants (events host) name).ask) ∙ asked

pub no_more_stand : (one other : Opened) → ((n : NameValue) → Stands other n → Stands one n) → timer_count other ≤ timer_count one
no_more_stand one other stood = as_many (asked_names other) (asked_names one) (listed other).rising (λ z c. ((listed one).members z).1 (stood z (((listed other).members z).0 c)))

pub one_less_stands : (one other : Opened) (x : NameValue) → Stands one x → ((n : NameValue) → Stands other n → Stands one n × (same_name x n ≡ false)) → timer_count other < timer_count one
one_less_stands one other x stands stood =
    let lt = shorter x (asked_names one) (((listed one).members x).1 stands) in
    let rest = as_many (asked_names other) (without x (asked_names one)) (listed other).rising (λ z c. let s = stood z (((listed other).members z).0 c) in Contains-filter (λ n. not (same_name x n)) (asked_names one) z (((listed one).members z).1 s.0) (ap not s.1)) in
    omega (arith, lt, rest)

pub one_more_stands : (one other : Opened) (x : NameValue) → ((n : NameValue) → Stands other n → (x ≡ n) ⊎ Stands one n) → timer_count other ≤ timer_count one + 1
one_more_stands one other x stood =
    let le = as_many (asked_names other) (x ∷ asked_names one) (listed other).rising (λ z c.
    ⊎_elim (λ (e : x ≡ z). subst (λ (n : NameValue). Contains (x ∷ asked_names one) n) e (Contains-here x (asked_names one))) (λ (s : Stands one z). Contains-there x z (asked_names one) (((listed one).members z).1 s)) (stood z (((listed other).members z).0 c))) in
    omega (arith, le)

-- ---- told by the calls of the timers

-- the name was missed, and did not come since
abbrev pub IsMissed : NameValue → List Event → Type 0
IsMissed n calls = since (notices n) (arrives n) calls ≡ true

pub missed_from : (host : Opened) (n : NameValue) → Stands host n → IsMissed n (events host)
missed_from host n stands = sym (request_stands host.is.constants (events host) n) ∙ stands

pub missed_to : (host : Opened) (n : NameValue) → IsMissed n (events host) → Stands host n
missed_to host n missed = request_stands host.is.constants (events host) n ∙ missed

-- through the calls of the timers
stood_by : (one other : Opened) → ((n : NameValue) → IsMissed n (events other) → IsMissed n (events one)) → (n : NameValue) → Stands other n → Stands one n
stood_by one other missed n stands = missed_to one n (missed n (missed_from other n stands))

pub come : (n name : NameValue) (calls : List Event) → cond (same_name name n) false (since (notices n) (arrives n) calls) ≡ true → IsMissed n calls × (same_name name n ≡ false)
come n name calls e = by (same_name name n) e where
  by : (b : Bool) → cond b false (since (notices n) (arrives n) calls) ≡ true → IsMissed n calls × (b ≡ false)
  by true e = absurd (true≢false (sym e))
  by false e = (e, refl)

received : (n : NameValue) (now : ℕ) (calls : List Event) (came : List Received) → IsMissed n (receipts now calls came) → IsMissed n calls
received n now calls [] missed = missed
received n now calls (c ∷ came) missed = (come n c.name calls (received n now (Got c.name now c.delay ∷ calls) came missed)).0

asked_same : (n : NameValue) (me now : ℕ) (delays : ℕ → ℕ) (v : Datagram) (word : ℕ) (held : Bool) (calls : List Event) → IsMissed n (asked_by me delays now v word held calls) → IsMissed n calls
asked_same n me now delays (Request asker name) word held calls missed = by (nat_eq asker me) missed where
  by : (b : Bool) → IsMissed n (cond b calls (Asked name held now (delays (cond held asker name.source)) word ∷ calls)) → IsMissed n calls
  by true e = e
  by false e = e
asked_same n me now delays (Draw d) word held calls missed = missed
asked_same n me now delays (Session sender sent page marks echoes) word held calls missed = missed
asked_same n me now delays (AskPages asker) word held calls missed = missed
asked_same n me now delays (PageState sender page marks) word held calls missed = missed

given : (n : NameValue) (now : ℕ) (name : NameValue) (asked : Bool) (calls : List Event) → IsMissed n (given_up now name asked calls) → IsMissed n calls
given n now name true calls missed = (come n name calls missed).0
given n now name false calls missed = missed

-- ---- a line that does not ask

arrival_keeps : (d : DrawopValue) (host : Opened) (n : NameValue) → Stands (after_line (Arrives d) host) n → Stands host n
arrival_keeps d host = stood_by host (after_line (Arrives d) host) (λ n missed. received n (present host) (events host) (received_of (delay_to host.is.number host.is.calls) (filter (holds (after_line (Arrives d) host).is.held) (d.name ∷ []))) missed)

heard_keeps : (v : Datagram) (host : Opened) (room : Bool) (n : NameValue) → Stands (cond room (heard v host) host) n → Stands host n
heard_keeps v host true = stood_by host (heard v host) (λ n missed. asked_same n host.is.number (present host) (delay_to host.is.number host.is.calls) v (word_at v host.random) (asks_for_held host.is.held v) (events host) missed)
heard_keeps v host false = λ n stands. stands

tick_keeps : (now : ℕ) (host : Opened) (n : NameValue) → Stands (after_line (Calls (calls.Tick now)) host) n → Stands host n
tick_keeps now host = stood_by host (after_line (Calls (calls.Tick now)) host) (λ n missed. received n now (events host) (received_of (delay_to host.is.number host.is.calls) (stopped_after host.is.number host.is.constants host.is.calls host.is.held)) missed)

pub keeps : (line : Line) (host : Opened) → is_ask line ≡ false → (n : NameValue) → Stands (after_line line host) n → Stands host n
keeps (Calls (calls.Tick now)) host other = tick_keeps now host
keeps (Arrives d) host other = arrival_keeps d host
keeps (Calls (calls.Hear v)) host other = heard_keeps v host (has_room_for v host)
keeps (Calls (calls.Ask name)) host other = absurd (true≢false other)
keeps (Calls (calls.Look page)) host other = absurd (true≢false other)
keeps (Calls (calls.Stop name)) host other = stood_by host (after_line (Calls (calls.Stop name)) host) (λ n missed. given n (present host) name (is_asked (timers_of host.is.constants (events host)) name) (events host) missed)
keeps (Calls call) host other = λ n stands. stands
keeps (Says (Draw d)) host other = arrival_keeps d host
keeps (Says (Session sender sent page marks echoes)) host other = λ n stands. stands
keeps (Says (Request asker name)) host other = λ n stands. stands
keeps (Says (AskPages asker)) host other = λ n stands. stands
keeps (Says (PageState sender page marks)) host other = λ n stands. stands

pub no_more : (line : Line) (host : Opened) → is_ask line ≡ false → timer_count (after_line line host) ≤ timer_count host
no_more line host other = no_more_stand host (after_line line host) (keeps line host other)

-- ---- one that stops a timer, and one that asks

pub one_less : (name : NameValue) (host : Opened) → Stands host name → timer_count (after_line (Calls (calls.Stop name)) host) < timer_count host
one_less name host stands = one_less_stands host (after_line (Calls (calls.Stop name)) host) name stands (λ n there.
    let missed = come n name (events host) (subst (λ (b : Bool). IsMissed n (given_up (present host) name b (events host))) stands (missed_from (after_line (Calls (calls.Stop name)) host) n there)) in
    (missed_to host n missed.0, missed.1))

pub asked_or : (n name : NameValue) (calls : List Event) → (same_name name n || since (notices n) (arrives n) calls) ≡ true → (name ≡ n) ⊎ IsMissed n calls
asked_or n name calls e = by (same_name name n) refl e where
  by : (b : Bool) → same_name name n ≡ b → (b || since (notices n) (arrives n) calls) ≡ true → (name ≡ n) ⊎ IsMissed n calls
  by true same e = inl (same_name-is name n same)
  by false other e = inr e

pub one_more : (name : NameValue) (host : Opened) → timer_count (after_line (Calls (calls.Ask name)) host) ≤ timer_count host + 1
one_more name host = by (may_ask name host) where
  asking_host : Opened
  asking_host = doing (Misses (present host) (name ∷ []) (word_of host.random ∷ [])) 1 host

  by : (b : Bool) → timer_count (cond b asking_host host) ≤ timer_count host + 1
  by true = one_more_stands host asking_host name (λ n there. ⊎_elim (λ (e : name ≡ n). inl e) (λ (missed : IsMissed n (events host)). inr (missed_to host n missed)) (asked_or n name (events host) (missed_from asking_host n there)))
  by false = omega arith

-- ---- requests that a line sends

asks_in : (me : ℕ) (history : List DrawopValue) (names : List NameValue) (sent : List Datagram) → length (filter is_request sent) ≡ 0 → length (filter is_request (filter_map (sent_for me history) (map Ask names) ++ sent)) ≡ length names
asks_in me history [] sent none = none
asks_in me history (n ∷ names) sent none = ap suc (asks_in me history names sent none)

pub answers_in : (me : ℕ) (history : List DrawopValue) (names : List NameValue) → length (filter is_request (filter_map (sent_for me history) (map Answer names))) ≡ 0
answers_in me history [] = refl
answers_in me history (n ∷ names) = by (drawop_of history n) (answers_in me history names) where
  by : (o : Option DrawopValue) → length (filter is_request (filter_map (sent_for me history) (map Answer names))) ≡ 0 → length (filter is_request (cons_option (option_map Draw o) (filter_map (sent_for me history) (map Answer names)))) ≡ 0
  by None rest = rest
  by (Some d) rest = rest

states_in : (f : PageReport → Datagram) → ((r : PageReport) → is_request (f r) ≡ false) → (reports : List PageReport) → length (filter is_request (map f reports)) ≡ 0
states_in f none [] = refl
states_in f none (r ∷ reports) = ap (λ (b : Bool). length (cond b (f r ∷ filter is_request (map f reports)) (filter is_request (map f reports)))) (none r) ∙ states_in f none reports

tick_requests : (now : ℕ) (host : Opened) → length (filter is_request (sent_by_line (Calls (calls.Tick now)) host)) ≤ timer_count host
tick_requests now host =
    let me = host.is.number in
    let t = host.is.constants in
    let history = host.is.held in
    let stopped = received_of (delay_to me host.is.calls) (stopped_after me t host.is.calls history) in
    let events_now = receipts now (events host) stopped in
    let due = due_asks (names_of events_now) (timers_of t events_now) now in
    let answering = due_answers (names_of events_now) (timers_of t events_now) now in
    let rising = listed_of (λ (s : Timers). is_ask_due now s.ask) refl t events_now in
    let few = as_many due (asked_names host) rising.rising (λ z c.
    ((listed host).members z).1 (missed_to host z (received z now (events host) stopped (sym (request_stands t events_now z) ∙ due_stands now (timers_of t events_now z).ask ((rising.members z).0 c))))) in
    let sent : sent_by_line (Calls (calls.Tick now)) host ≡ filter_map (sent_for me history) (map Ask due) ++ filter_map (sent_for me history) (map Answer answering) = filter_map-append (sent_for me history) (map Ask due) (map Answer answering) in
    let count = ap (λ (ds : List Datagram). length (filter is_request ds)) sent ∙ asks_in me history due (filter_map (sent_for me history) (map Answer answering)) (answers_in me history answering) in
    omega (arith, few, count)

pub heard_requests : (v : Datagram) (host : Opened) (room : Bool) → length (filter is_request (cond room (answers_to host.is.number host.is.held v) [])) ≡ 0
heard_requests v host false = refl
heard_requests v host true = by (asks_for_pages host.is.number v) where
  by : (b : Bool) → length (filter is_request (cond b (page_states host.is.number host.is.held) [])) ≡ 0
  by true = states_in (λ r. PageState host.is.number r.page r.marks) (λ r. refl) (reports_of host.is.held)
  by false = refl

pub drawn_requests : (d : DrawopValue) (o : Outcome) → length (filter is_request (said_where d o)) ≡ 0
drawn_requests d (New i) = refl
drawn_requests d (Again i) = refl
drawn_requests d (Clash i) = refl
drawn_requests d Left = refl

-- as many as timers stand, and one where a driver says so
pub few_requests : (line : Line) (host : Opened) → timer_count host ≤ 64 → length (filter is_request (sent_by_line line host)) ≤ 64
few_requests (Calls (calls.Tick now)) host few = let sent = tick_requests now host in omega (arith, few, sent)
few_requests (Arrives d) host few = omega arith
few_requests (Calls (calls.Hear v)) host few = let none = heard_requests v host (has_room_for v host) in omega (arith, none)
few_requests (Calls call) host few = omega arith
few_requests (Says (Draw d)) host few = let none = drawn_requests d (becomes d host) in omega (arith, none)
few_requests (Says (Session sender sent page marks echoes)) host few = omega arith
few_requests (Says (Request asker name)) host few = omega arith
few_requests (Says (AskPages asker)) host few = omega arith
few_requests (Says (PageState sender page marks)) host few = omega arith
