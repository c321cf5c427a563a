-- What one line makes of a keeper, and what it sends.
use Rattle.std.proofs.Common.{◌≡◌, ℕ, Bool, true, false, cond, List, [], ◌∷◌, ◌++◌, ◌∙◌, Option, Some, None, ap, arith, inl, inr, length, map, refl, subst, sym, true≢false, ⊎_elim}
use Rattle.std.specs.Prelude.{◌⊎◌, Contains, filter}
use Rattle.std.specs.Option.{option_map}
use Rattle.std.proofs.lemmas.List.Elements.{Contains-append_cases}
use Rattle.wb_names.specs.Arrivals.{Outcome, New, Again}
use Rattle.wb_names.specs.Values.{DrawopValue, NameValue}
use Rattle.wb_names.specs.declared.name.PageId.{PageId}
use Rattle.wb_names.proofs.Listings.{Any-from_map, Contains-from_filter, Contains-none}
use Rattle.wb_codec.specs.declared.datagram.Datagram.{Datagram}
use Rattle.wb_codec.specs.declared.datagram.Datagram.TheVariants.{Draw, Request, PageState}
use Rattle.wb_gaps.specs.Answers.{reports_of}
use Rattle.wb_gaps.specs.declared.page_reports.PageReport.{PageReport}
use Rattle.wb_recovery.specs.Events.{Event, due_answers, due_asks, names_of, timers_of}
use Rattle.wb_recovery.specs.Stopping.{got_each, is_received, receipts}
use Rattle.wb_recovery.specs.Timing.{is_ask_due}
use Rattle.wb_recovery.specs.declared.missed.Received.{Received}
use Rattle.wb_recovery.specs.declared.plan.Action.{Action}
use Rattle.wb_recovery.specs.declared.plan.Action.TheVariants.{Ask, Answer}
use Rattle.wb_recovery.specs.declared.timers.AskTimer.{AskTimer}
use Rattle.wb_recovery.specs.declared.timers.Timers.{Timers}
use Rattle.wb_recovery.proofs.StoppedNames.{not_received, received_stops, timers_receipts}
use Rattle.wb_keeper.specs.Hearing.{answers_to, asks_for_held, asks_for_pages, page_states}
use Rattle.wb_keeper.specs.Keeper.{KeeperCall, SetDelay, SetConstants, Hear, Arrive, Miss, GoOn, Report, GiveUp, delay_to, events_of, holds, moment_at, received_of}
use Rattle.wb_keeper.specs.Ticks.{drawop_of, sent_by_tick, sent_for, stopped_after}
use Rattle.wb_keeper.proofs.TickSends.{sent_from}
use Rattle.wb_progress.proofs.OneCall.{not_standing}
use Rattle.wb_progress.specs.Keepers.{uses_delays}
use Rattle.wb_progress.specs.Repairs.{timers_at}
use Rattle.wb_member.specs.Members.{Act, AsksForPages, Draws, Hears, Member, Misses, Reports, Ticks, sends}
use Rattle.wb_member.specs.Opened.{Opened, accepted, asks_for, becomes, doing, due_count, has_room_for, heard, may_ask, present, wanted_of, word_at}
use Rattle.wb_member.specs.Random.{word_of, words_of}
use Rattle.wb_member.specs.declared.calls.Call.TheVariants as calls
use Rattle.wb_laws_sessions.proofs.Holding.{HeldNone}
use Rattle.wb_keeping.specs.Kept.{Line, Arrives, Says, Calls}
use Rattle.wb_keeping.specs.Performing.{after_line, said_where, sent_by_line}
use Rattle.wb_kept_progress.specs.Timed.{goes_by_delays}
use Rattle.wb_laws_sessions.proofs.CallActs.{IsCareful, call_acts}
use Rattle.wb_laws_sessions.proofs.Sending.{one_of}
use Rattle.wb_laws_sessions.proofs.Sent.{call_sends}
use Rattle.std.proofs.lemmas.Option.{same_Some}

-- ---- the call of a line

-- it asks for the name, or for all that a page lacks
abbrev pub AsksOrLooks : Line → NameValue → Type 0
AsksOrLooks line n = (line ≡ Calls (calls.Ask n)) ⊎ ((page : PageId) × (line ≡ Calls (calls.Look page)))

abbrev pub IsMade : Opened → Line → KeeperCall → Type 0
IsMade host line (SetDelay source micros) = Unit {0}
IsMade host line (SetConstants constants) = Unit {0}
IsMade host line (Hear now v word held) = (line ≡ Calls (calls.Hear v)) × (now ≡ present host) × (held ≡ asks_for_held host.is.held v)
IsMade host line (Arrive now names) = (d : DrawopValue) × ((line ≡ Arrives d) ⊎ (line ≡ Says (Draw d))) × (now ≡ present host) × (names ≡ filter (holds (accepted d host).is.held) (d.name ∷ []))
IsMade host line (Miss now names words) = ((n : NameValue) → Contains names n → AsksOrLooks line n) × (goes_by_delays line ≡ true) × (now ≡ present host)
IsMade host line (GoOn now words names) = (line ≡ Calls (calls.Tick now)) × (names ≡ stopped_after host.is.number host.is.constants host.is.calls host.is.held)
IsMade host line (Report now) = now ≡ present host
IsMade host line (GiveUp now name asked) = (line ≡ Calls (calls.Stop name)) × (now ≡ present host) × (asked ≡ asks_for name host)

abbrev pub Did : Opened → Line → Opened → Type 0
Did host line next = (next.is.calls ≡ host.is.calls) ⊎ ((call : KeeperCall) × (next.is.calls ≡ call ∷ host.is.calls) × IsMade host line call)

pub line_did : (line : Line) (host : Opened) → Did host line (after_line line host)
line_did (Calls (calls.Tick now)) host = inr (GoOn now (words_of host.random (due_count now host)) (stopped_after host.is.number host.is.constants host.is.calls host.is.held), refl, (refl, refl))
line_did (Arrives d) host = inr (Arrive (present host) (filter (holds (accepted d host).is.held) (d.name ∷ [])), refl, (d, inl refl, refl, refl))
line_did (Calls (calls.Hear v)) host = by (has_room_for v host) where
  by : (b : Bool) → Did host (Calls (calls.Hear v)) (cond b (heard v host) host)
  by true = inr (Hear (present host) v (word_at v host.random) (asks_for_held host.is.held v), refl, (refl, refl, refl))
  by false = inl refl
line_did (Calls (calls.Ask name)) host = by (may_ask name host) where
  by : (b : Bool) → Did host (Calls (calls.Ask name)) (cond b (doing (Misses (present host) (name ∷ []) (word_of host.random ∷ [])) 1 host) host)
  by true = inr (Miss (present host) (name ∷ []) (word_of host.random ∷ []), refl, (λ n c. inl (ap (λ (x : NameValue). Calls (calls.Ask x)) (one_of name n c)), refl, refl))
  by false = inl refl
line_did (Calls (calls.Stop name)) host = inr (GiveUp (present host) name (asks_for name host), refl, (refl, refl, refl))
line_did (Calls (calls.SetDelay source micros)) host = inr (SetDelay source micros, refl, tt)
line_did (Calls (calls.Tune constants)) host = inr (SetConstants constants, refl, tt)
line_did (Calls (calls.Look page)) host = inr (Miss (present host) (wanted_of page host) (words_of host.random (length (wanted_of page host))), refl, (λ n c. inr (page, refl), refl, refl))
line_did (Calls (calls.Session page)) host = inr (Report (present host), refl, refl)
line_did (Says (Draw d)) host = inr (Arrive (present host) (filter (holds (accepted d host).is.held) (d.name ∷ [])), refl, (d, inr refl, refl, refl))
line_did line host = inl refl

-- its moment is the present one, or a tick's
pub call_moment : (host : Opened) (line : Line) (call : KeeperCall) → IsMade host line call → (moment_at (call ∷ host.is.calls) ≡ present host) ⊎ ((now : ℕ) × (line ≡ Calls (calls.Tick now)) × (moment_at (call ∷ host.is.calls) ≡ now))
call_moment host line (SetDelay source micros) m = inl refl
call_moment host line (SetConstants constants) m = inl refl
call_moment host line (Hear now v word held) m = inl m.1
call_moment host line (Arrive now names) m = inl m.2
call_moment host line (Miss now names words) m = inl m.2
call_moment host line (GoOn now words names) m = inr (now, m.0, refl)
call_moment host line (Report now) m = inl m
call_moment host line (GiveUp now name asked) m = inl m.1

-- a call that goes by delays is made by a line that does
pub goes_by : (host : Opened) (line : Line) (call : KeeperCall) → IsMade host line call → uses_delays call ≡ true → goes_by_delays line ≡ true
goes_by host line (Hear now v word held) m uses = subst (λ (l : Line). goes_by_delays l ≡ true) (sym m.0) uses
goes_by host line (Arrive now names) m uses = ⊎_elim
    (λ (a : line ≡ Arrives m.0). subst (λ (l : Line). goes_by_delays l ≡ true) (sym a) refl)
    (λ (s : line ≡ Says (Draw m.0)). subst (λ (l : Line). goes_by_delays l ≡ true) (sym s) refl)
    m.1
goes_by host line (Miss now names words) m uses = m.1
goes_by host line (GoOn now words names) m uses = subst (λ (l : Line). goes_by_delays l ≡ true) (sym m.0) refl
goes_by host line call m uses = absurd (true≢false (sym uses))

no_loop : (calls : List KeeperCall) (call : KeeperCall) → calls ≡ call ∷ calls → ⊥
no_loop calls call same = let e : length calls ≡ length (call ∷ calls) = ap (λ (c : List KeeperCall). length c) same in omega (arith, e)

same_call : (a b : KeeperCall) (calls : List KeeperCall) → a ∷ calls ≡ b ∷ calls → a ≡ b
same_call a b calls same = cc

-- a call that is accepted by the line is the one that it makes
pub is_made : (line : Line) (host : Opened) (call : KeeperCall) → (after_line line host).is.calls ≡ call ∷ host.is.calls → IsMade host line call
is_made line host call e = ⊎_elim
    (λ (same : (after_line line host).is.calls ≡ host.is.calls). absurd (no_loop host.is.calls call (sym same ∙ e)))
    (λ (c : (other : KeeperCall) × ((after_line line host).is.calls ≡ other ∷ host.is.calls) × IsMade host line other). subst (IsMade host line) (same_call c.0 call host.is.calls (sym c.1 ∙ e)) c.2)
    (line_did line host)

pub line_moment : (line : Line) (host : Opened) → (present (after_line line host) ≡ present host) ⊎ ((now : ℕ) × (line ≡ Calls (calls.Tick now)) × (present (after_line line host) ≡ now))
line_moment line host = ⊎_elim
    (λ (same : (after_line line host).is.calls ≡ host.is.calls). inl (ap moment_at same))
    (λ (c : (call : KeeperCall) × ((after_line line host).is.calls ≡ call ∷ host.is.calls) × IsMade host line call). ⊎_elim
    (λ (e : moment_at (c.0 ∷ host.is.calls) ≡ present host). inl (ap moment_at c.1 ∙ e))
    (λ (t : (now : ℕ) × (line ≡ Calls (calls.Tick now)) × (moment_at (c.0 ∷ host.is.calls) ≡ now)). inr (t.0, t.1, ap moment_at c.1 ∙ t.2))
    (call_moment host line c.0 c.2))
    (line_did line host)

-- ---- what it sends

no_answer_asks : (me : ℕ) (held : List DrawopValue) (v : Datagram) (asker : ℕ) (n : NameValue) → Contains (answers_to me held v) (Request asker n) → ⊥
no_answer_asks me held v asker n c = from (asks_for_pages me v) c where
  other : (r : PageReport) → PageState me r.page r.marks ≡ Request asker n → ⊥
  other r e = cc

  from : (b : Bool) → Contains (cond b (page_states me held) []) (Request asker n) → ⊥
  from true c = let r = Any-from_map (λ (r : PageReport). PageState me r.page r.marks) (reports_of held) (Request asker n) c in other r.1 r.4
  from false c = Contains-none (Request asker n) c

pub draws : (line : Line) (host : Opened) (d : DrawopValue) → Contains (sent_by_line line host) (Draw d) → Contains host.is.held d ⊎ ((e : DrawopValue) × (line ≡ Says (Draw e)))
draws (Arrives x) host d c = absurd (Contains-none (Draw d) c)
draws (Calls call) host d c = inl (call_sends call host d c)
draws (Says (Draw x)) host d c = inr (x, refl)
draws (Says v) host d c = let e = one_of _ _ c in absurd cc

-- who requests it lacks it
abbrev Lacks : ℕ → NameValue → Member → Type 0
Lacks asker n member = (asker ≡ member.number) × (holds member.held n ≡ false)

module _ (member : Member) (lacking : HeldNone member) (asker : ℕ) (n : NameValue) where
  same_ask : (m : NameValue) → Ask m ≡ Ask n → m ≡ n
  same_ask m e = cc

  other_kind : (m : NameValue) → Answer m ≡ Ask n → ⊥
  other_kind m e = cc

  asks_in : (asks answers : List NameValue) → Contains (map Ask asks ++ map Answer answers) (Ask n) → Contains asks n
  asks_in asks answers c = ⊎_elim
      (λ (d : Contains (map Ask asks) (Ask n)). let r = Any-from_map Ask asks (Ask n) d in subst (Contains asks) (same_ask r.1 r.4) (r.0, r.2, r.3))
      (λ (d : Contains (map Answer answers) (Ask n)). let r = Any-from_map Answer answers (Ask n) d in absurd (other_kind r.1 r.4))
      (Contains-append_cases (map Ask asks) (map Answer answers) (Ask n) c)

  not_due : (now : ℕ) (o : Option AskTimer) → o ≡ None → is_ask_due now o ≡ true → ⊥
  not_due now o e f = true≢false (sym f ∙ ap (is_ask_due now) e)

  tick_asks : (now : ℕ) → Contains (sent_by_tick member.number member.constants member.calls member.held now) (Request asker n) → Lacks asker n member
  tick_asks now c =
      let r = sent_from (sent_for member.number member.held) _ (Request asker n) c in from r.0 r.1 r.2 where
        received : List Received
        received = received_of (delay_to member.number member.calls) (stopped_after member.number member.constants member.calls member.held)

        then_events : List Event
        then_events = receipts now (events_of member.number member.calls) received

        s : Timers
        s = timers_at member.number member.constants member.calls n

        still_none : s.ask ≡ None → (timers_of member.constants then_events n).ask ≡ None
        still_none e = ap (λ (k : Timers). k.ask) (timers_receipts member.constants now (events_of member.number member.calls) received n) ∙ by (is_received received n) refl where
          by : (b : Bool) → is_received received n ≡ b → (got_each now n s received).ask ≡ None
          by true h = (not_standing (got_each now n s received) (received_stops now n s received h)).ask
          by false h = ap (λ (k : Timers). k.ask) (not_received now n s received h) ∙ e

        asked : (m : NameValue) → Request member.number m ≡ Request asker n → (member.number ≡ asker) × (m ≡ n)
        asked m e = (cc, cc)

        lost : Contains (map Ask (due_asks (names_of then_events) (timers_of member.constants then_events) now) ++ map Answer (due_answers (names_of then_events) (timers_of member.constants then_events) now)) (Ask n) → (b : Bool) → holds member.held n ≡ b → b ≡ false
        lost d false h = refl
        lost d true h =
            let due = Contains-from_filter (λ m. is_ask_due now (timers_of member.constants then_events m).ask) (names_of then_events) n (asks_in _ _ d) in
            absurd (not_due now (timers_of member.constants then_events n).ask (still_none (lacking n h)) due.1)

        from : (action : Action) → Contains (map Ask (due_asks (names_of then_events) (timers_of member.constants then_events) now) ++ map Answer (due_answers (names_of then_events) (timers_of member.constants then_events) now)) action → sent_for member.number member.held action ≡ Some (Request asker n) → Lacks asker n member
        from (Ask m) d e =
            let is = asked m (same_Some _ _ e) in
            (sym is.0, lost (subst (λ (k : NameValue). Contains (map Ask (due_asks (names_of then_events) (timers_of member.constants then_events) now) ++ map Answer (due_answers (names_of then_events) (timers_of member.constants then_events) now)) (Ask k)) is.1 d) (holds member.held n) refl)
        from (Answer m) d e = absurd (none (drawop_of member.held m) e) where
          none : (o : Option DrawopValue) → option_map {T = DrawopValue} {U = Datagram} Draw o ≡ Some (Request asker n) → ⊥
          none None e = cc
          none (Some x) e = cc

act_asks : (asker : ℕ) (n : NameValue) (act : Act) (member : Member) → IsCareful act member → HeldNone member → Contains (sends act member) (Request asker n) → Lacks asker n member
act_asks asker n (Draws page time op) member careful none c = absurd careful
act_asks asker n (Hears now v word) member careful none c = absurd (no_answer_asks member.number member.held v asker n c)
act_asks asker n (Ticks now words) member careful none c = tick_asks member none asker n now c
act_asks asker n (Reports now page) member careful none c = let e = one_of _ _ c in absurd cc
act_asks asker n AsksForPages member careful none c = let e = one_of _ _ c in absurd cc
act_asks asker n act member careful none c = absurd (Contains-none (Request asker n) c)

unsaid : (asker : ℕ) (n : NameValue) (d : DrawopValue) (o : Outcome) → Contains (said_where d o) (Request asker n) → ⊥
unsaid asker n d (New i) c = let e = one_of _ _ c in cc
unsaid asker n d (Again i) c = let e = one_of _ _ c in cc
unsaid asker n d o c = Contains-none (Request asker n) c

pub asks : (host : Opened) → HeldNone host.is → (asker : ℕ) (n : NameValue) (line : Line) → Contains (sent_by_line line host) (Request asker n) → Lacks asker n host.is ⊎ ((a : ℕ) × (m : NameValue) × (line ≡ Says (Request a m)))
asks host none asker n (Arrives d) c = absurd (Contains-none (Request asker n) c)
asks host none asker n (Calls call) c =
    inl (call_acts (λ m next sent. HeldNone m → Contains sent (Request asker n) → Lacks asker n m) (act_asks asker n) (λ m none c. absurd (Contains-none (Request asker n) c)) call host none c)
asks host none asker n (Says (Draw d)) c = absurd (unsaid asker n d (becomes d host) c)
asks host none asker n (Says (Request a m)) c = inr (a, m, refl)
asks host none asker n (Says v) c = let e = one_of _ _ c in absurd cc
