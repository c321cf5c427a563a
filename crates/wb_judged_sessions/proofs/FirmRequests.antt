-- A timer to ask for what is lacked stands until it is due, if no request of others comes in, and then the request is sent, unless the drawop comes
-- before or the name is given up.
use Rattle.std.proofs.Common.{◌≡◌, ◌≤◌, ◌<◌, ℕ, Bool, true, false, cond, List, [], ◌∷◌, ◌++◌, ◌∙◌, Option, Some, ap, inl, inr, le-leb, refl, subst, sym, true≢false, ⊎_elim}
use Rattle.std.specs.Prelude.{◌⊎◌, Contains, is_none, length, nat_eq}
use Rattle.std.proofs.lemmas.Bool.{cases_lt, false_from_ne_true, lt-leb}
use Rattle.std.proofs.lemmas.List.Elements.{Contains-append_left}
use Rattle.wb_names.specs.Orders.{same_name}
use Rattle.wb_names.specs.Values.{DrawopValue, NameValue}
use Rattle.wb_names.specs.declared.name.PageId.{PageId}
use Rattle.wb_names.specs.declared.parts.Op.{Op}
use Rattle.wb_names.proofs.Orders.{same_name-is}
use Rattle.wb_codec.specs.declared.datagram.Datagram.{Datagram}
use Rattle.wb_codec.specs.declared.datagram.Datagram.TheVariants.{Draw, Request}
use Rattle.wb_recovery.specs.Events.{Asked, Event, Notice, constants_after, due_asks, names_of, timers_of, word_for}
use Rattle.wb_recovery.specs.Noticing.{notices}
use Rattle.wb_recovery.specs.Stopping.{receipts}
use Rattle.wb_recovery.specs.Timing.{backed_off, fired_ask, got, is_ask_due, new_ask, noticed}
use Rattle.wb_recovery.specs.declared.missed.Missed.{Missed}
use Rattle.wb_recovery.specs.declared.missed.Received.{Received}
use Rattle.wb_recovery.specs.declared.timers.AskTimer.{AskTimer}
use Rattle.wb_recovery.specs.declared.timers.Timers.{Timers}
use Rattle.wb_recovery.specs.declared.tuning.Tuning.{Tuning}
use Rattle.wb_recovery.proofs.StoppedNames.{not_received, timers_receipts}
use Rattle.wb_keeper.specs.Hearing.{asks_for_held}
use Rattle.wb_keeper.specs.Keeper.{asked_by, delay_to, given_up, holds as history_holds, missed_of, received_of}
use Rattle.wb_keeper.specs.Ticks.{stopped_after}
use Rattle.wb_keeper.proofs.KeptCalls.{holds_from}
use Rattle.wb_progress.proofs.Giving.{held_as}
use Rattle.wb_progress.proofs.OneCall.{ticks_ask}
use Rattle.wb_member.specs.Members.{Misses}
use Rattle.wb_member.specs.Opened.{Opened, accepted, asks_for, doing, due_count, events, has_room_for, heard, may_ask, present, wanted_of, word_at}
use Rattle.wb_member.specs.Random.{word_of, words_of}
use Rattle.wb_member.specs.declared.calls.Call.TheVariants.{Tick, Hear, Look, Ask, Stop}
use Rattle.wb_keeping.specs.Kept.{Arrives, Calls, Line, Says}
use Rattle.wb_keeping.specs.Laws.{Added, Came, KeptLine, Ticked, doing_of}
use Rattle.wb_keeping.specs.Performing.{Keeping, after_line, after_lines, sees, sent_by_doing, sent_by_line, sent_by_lines}
use Rattle.wb_keeping.proofs.EachLine.{Each}
use Rattle.wb_kept_progress.proofs.FirstLines.{AreLinesOf, IsLineOf, lines_of_call}
use Rattle.wb_kept_progress.proofs.Lines.{lines_grow}
use Rattle.wb_kept_progress.proofs.Performed.{AreNoTicks, Begins, IsNoTick, adds_begin, came_begins, ticks_begin}
use Rattle.wb_kept_progress.proofs.StillCalls.{line_now}
use Rattle.wb_judged_sessions.proofs.FirmAnswers.{not_arrived, not_stopped}

-- what is held stays
held_on : (lines : List Line) (host : Opened) (n : NameValue) → history_holds host.is.held n ≡ true → history_holds (after_lines lines host).is.held n ≡ true
held_on lines host n e = let d = held_as host.is.held n e in holds_from (after_lines lines host).is.held n d.0 ((lines_grow lines host).kept d.0 d.1) d.2

module _ (n : NameValue) (x : AskTimer) where
  abbrev timers : Opened → Timers
  timers host = timers_of host.is.constants (events host) n

  -- it is not held, and its request timer is this one
  pub record Waits (host : Opened) : Type 0 where
    pub lacks : history_holds host.is.held n ≡ false
    pub stands : (timers host).ask ≡ Some x

  -- no tick, and no request for the name
  abbrev IsSafe : Line → Type 0
  IsSafe (Calls (Tick now)) = ⊥
  IsSafe (Calls (Hear (Request asker name))) = same_name name n ≡ false
  IsSafe line = Unit {0}

  -- ---- a line

  -- The timer stands, or the name is held then, or it was given up.
  abbrev Goes : Line → Opened → Type 0
  Goes line host = Waits (after_line line host) ⊎ (history_holds (after_line line host).is.held n ≡ true) ⊎ (line ≡ Calls (Stop n))

  arrival : (y : DrawopValue) (host : Opened) → Waits host → Waits (accepted y host) ⊎ (history_holds (accepted y host).is.held n ≡ true)
  arrival y host is = by (history_holds (accepted y host).is.held n) refl where
    by : (b : Bool) → history_holds (accepted y host).is.held n ≡ b → Waits (accepted y host) ⊎ (history_holds (accepted y host).is.held n ≡ true)
    by true e = inr e
    by false e = inl (record {
      lacks = e;
      stands = ap (λ (s : Timers). s.ask) (not_arrived host y n (λ c. true≢false (sym c.1 ∙ e))) ∙ is.stands;
    })

  or_held : (y : DrawopValue) (line : Line) (host : Opened) → after_line line host ≡ accepted y host → Waits host → Goes line host
  or_held y line host same is = ⊎_elim
      (λ (w : Waits (accepted y host)). inl (subst Waits (sym same) w))
      (λ (h : history_holds (accepted y host).is.held n ≡ true). inr (inl (subst (λ (next : Opened). history_holds next.is.held n ≡ true) (sym same) h)))
      (arrival y host is)

  unnamed : (b : Bool) (one other : Timers) → b ≡ false → other.ask ≡ Some x → (cond b one other).ask ≡ Some x
  unnamed true one other e is = absurd (true≢false e)
  unnamed false one other e is = is

  heard_waits : (host : Opened) (v : Datagram) (now word : ℕ) (held : Bool) → IsSafe (Calls (Hear v)) → (timers host).ask ≡ Some x
      → (timers_of host.is.constants (asked_by host.is.number (delay_to host.is.number host.is.calls) now v word held (events host)) n).ask ≡ Some x
  heard_waits host (Request asker name) now word held safe is = by (nat_eq asker host.is.number) where
    by : (b : Bool) → (timers_of host.is.constants (cond b (events host) (Asked name held now (delay_to host.is.number host.is.calls (cond held asker name.source)) word ∷ events host)) n).ask ≡ Some x
    by true = is
    by false = unnamed (same_name name n) _ _ safe is
  heard_waits host v now word held safe is = is

  hearing : (v : Datagram) (host : Opened) (room : Bool) → IsSafe (Calls (Hear v)) → Waits host → Waits (cond room (heard v host) host)
  hearing v host true safe is = record { lacks = is.lacks; stands = heard_waits host v (present host) (word_at v host.random) (asks_for_held host.is.held v) safe is.stands }
  hearing v host false safe is = is

  -- names that are missed leave a timer that stands
  noticed_stands : (t : Tuning) (now delay word : ℕ) (s : Timers) → s.ask ≡ Some x → (noticed t now delay word s).ask ≡ Some x
  noticed_stands t now delay word s is = ap (λ (o : Option AskTimer). (cond (is_none o) (record s { ask = Some (new_ask t now delay word) }) s).ask) is ∙ is

  notices_stand : (t : Tuning) (now : ℕ) (missed : List Missed) (calls : List Event) → (timers_of t calls n).ask ≡ Some x → (timers_of t (notices now calls missed) n).ask ≡ Some x
  notices_stand t now [] calls is = is
  notices_stand t now (m ∷ missed) calls is = notices_stand t now missed (Notice m.name now m.delay m.word ∷ calls) (by (same_name m.name n)) where
    by : (b : Bool) → (cond b (noticed (constants_after t calls) now m.delay m.word (timers_of t calls n)) (timers_of t calls n)).ask ≡ Some x
    by true = noticed_stands (constants_after t calls) now m.delay m.word (timers_of t calls n) is
    by false = is

  missing : (names : List NameValue) (words : List ℕ) (count : ℕ) (host : Opened) → Waits host → Waits (doing (Misses (present host) names words) count host)
  missing names words count host is = record {
    lacks = is.lacks;
    stands = notices_stand host.is.constants (present host) (missed_of (delay_to host.is.number host.is.calls) names words) (events host) is.stands;
  }

  asking : (name : NameValue) (host : Opened) → Waits host → Waits (after_line (Calls (Ask name)) host)
  asking name host is = by (may_ask name host) where
    by : (b : Bool) → Waits (cond b (doing (Misses (present host) (name ∷ []) (word_of host.random ∷ [])) 1 host) host)
    by true = missing (name ∷ []) (word_of host.random ∷ []) 1 host is
    by false = is

  stopping : (name : NameValue) (host : Opened) → same_name name n ≡ false → Waits host → Waits (after_line (Calls (Stop name)) host)
  stopping name host other is = record { lacks = is.lacks; stands = by (asks_for name host) } where
    by : (b : Bool) → (timers_of host.is.constants (given_up (present host) name b (events host)) n).ask ≡ Some x
    by true = unnamed (same_name name n) (got (present host) 0 (timers host)) (timers host) other is.stands
    by false = is.stands

  line_goes : (line : Line) (host : Opened) → IsSafe line → Waits host → Goes line host
  line_goes (Calls (Tick now)) host safe is = absurd safe
  line_goes (Arrives y) host safe is = or_held y (Arrives y) host refl is
  line_goes (Calls (Hear v)) host safe is = inl (hearing v host (has_room_for v host) safe is)
  line_goes (Calls (Ask name)) host safe is = inl (asking name host is)
  line_goes (Calls (Stop name)) host safe is = by (same_name name n) refl where
    by : (b : Bool) → same_name name n ≡ b → Goes (Calls (Stop name)) host
    by true e = inr (inr (ap (λ (x : NameValue). Calls (Stop x)) (same_name-is name n e)))
    by false e = inl (stopping name host e is)
  line_goes (Calls (Look page)) host safe is = inl (missing (wanted_of page host) (words_of host.random (length (wanted_of page host))) (length (wanted_of page host)) host is)
  line_goes (Calls call) host safe is = inl (record { lacks = is.lacks; stands = is.stands })
  line_goes (Says (Draw y)) host safe is = or_held y (Says (Draw y)) host refl is
  line_goes (Says v) host safe is = inl is

  no_tick : (line : Line) → IsSafe line → IsNoTick line
  no_tick (Calls (Tick now)) safe = safe
  no_tick line safe = tt

  -- ---- lines

  -- one of them gives the name up, before which its timer stands
  pub record StopsIn (lines : List Line) (host : Opened) : Type 0 where
    pub before : List Line
    pub later : List Line
    pub split : lines ≡ before ++ Calls (Stop n) ∷ later
    pub waits : Waits (after_lines before host)

  pub record WaitsAt (now : ℕ) (host : Opened) : Type 0 where
    pub waits : Waits host
    pub moment : present host ≡ now

  abbrev pub LinesGo : ℕ → List Line → Opened → Type 0
  LinesGo now lines host = WaitsAt now (after_lines lines host) ⊎ (history_holds (after_lines lines host).is.held n ≡ true) ⊎ StopsIn lines host

  behind : (now : ℕ) (line : Line) (lines : List Line) (host : Opened) → LinesGo now lines (after_line line host) → LinesGo now (line ∷ lines) host
  behind now line lines host (inl is) = inl is
  behind now line lines host (inr (inl held)) = inr (inl held)
  behind now line lines host (inr (inr s)) = inr (inr (record { before = line ∷ s.before; later = s.later; split = ap (λ (ls : List Line). line ∷ ls) s.split; waits = s.waits }))

  lines_go : (now : ℕ) (lines : List Line) (host : Opened) → Each IsSafe lines → WaitsAt now host → LinesGo now lines host
  lines_go now [] host safe is = inl is
  lines_go now (line ∷ lines) host safe is = by (λ w. lines_go now lines (after_line line host) safe.1 w) (line_goes line host safe.0 is.waits) where
    by : (WaitsAt now (after_line line host) → LinesGo now lines (after_line line host)) → Goes line host → LinesGo now (line ∷ lines) host
    by rest (inl w) = behind now line lines host (rest (record { waits = w; moment = line_now line host (no_tick line safe.0) ∙ is.moment }))
    by rest (inr (inl held)) = inr (inl (held_on lines (after_line line host) n held))
    by rest (inr (inr stops)) = inr (inr (record { before = []; later = lines; split = ap (λ (l : Line). l ∷ lines) stops; waits = is.waits }))

  -- ---- a tick

  tick_waits : (now : ℕ) (host : Opened) → now < x.due → Waits host → WaitsAt now (after_line (Calls (Tick now)) host)
  tick_waits now host before is = record { waits = record { lacks = is.lacks; stands = ask }; moment = refl } where
    came : List Received
    came = received_of (delay_to host.is.number host.is.calls) (stopped_after host.is.number host.is.constants host.is.calls host.is.held)

    calls : List Event
    calls = receipts now (events host) came

    word : ℕ
    word = word_for (words_of host.random (due_count now host)) (due_asks (names_of calls) (λ m. timers_of host.is.constants calls m) now) n

    same : timers_of host.is.constants calls n ≡ timers host
    same =
        timers_receipts host.is.constants now (events host) came n
        ∙ not_received now n (timers host) came (not_stopped host n (λ c. true≢false (sym c.0 ∙ is.lacks)))

    t : Tuning
    t = constants_after host.is.constants calls

    ask : (timers (after_line (Calls (Tick now)) host)).ask ≡ Some x
    ask =
        ap (λ (s : Timers). fired_ask t now word s.ask) same ∙ ap (fired_ask t now word) is.stands
        ∙ ap (λ (b : Bool). Some (cond b (backed_off t x now x.delay word) x)) (lt-leb x.due now before)

  tick_sends : (now : ℕ) (host : Opened) → x.due ≤ now → Waits host → Contains (sent_by_line (Calls (Tick now)) host) (Request host.is.number n)
  tick_sends now host due is = ticks_ask host.is.number host.is.constants host.is.calls host.is.held now n (ap (is_ask_due now) is.stands ∙ le-leb x.due now due) is.lacks

  -- ---- a call

  -- It sent the request, or its timer stands after it, or the name is held then or given up.
  abbrev pub CallGoes : ℕ → KeptLine → Keeping → Type 0
  CallGoes now call k =
      let lines = (doing_of call (sees k.host) k.policy).lines in
      Contains (sent_by_doing (doing_of call) k) (Request k.host.is.number n) ⊎ (LinesGo now lines k.host × (now < x.due))

  begun_goes : (now : ℕ) (lines rest : List Line) (host : Opened) → lines ≡ Calls (Tick now) ∷ rest → (now < x.due → Each IsSafe rest) → Waits host
      → Contains (sent_by_lines lines host) (Request host.is.number n) ⊎ (LinesGo now lines host × (now < x.due))
  begun_goes now lines rest host split safe is = ⊎_elim
      (λ (lt : now < x.due). inr (
        subst (λ (ls : List Line). LinesGo now ls host) (sym split)
            (behind now (Calls (Tick now)) rest host (lines_go now rest (after_line (Calls (Tick now)) host) (safe lt) (tick_waits now host lt is))),
        lt,
      ))
      (λ (le : x.due ≤ now). inl (subst (λ (ls : List Line). Contains (sent_by_lines ls host) (Request host.is.number n)) (sym split)
      (Contains-append_left (sent_by_line (Calls (Tick now)) host) (sent_by_lines rest (after_line (Calls (Tick now)) host)) (Request host.is.number n) (tick_sends now host le is))))
      (cases_lt now x.due)

  -- no request for the name is handed in
  abbrev pub NotAsked : KeptLine → Type 0
  NotAsked call = (now asker : ℕ) → call ≡ Came now (Request asker n) → ⊥

  safe_line : (call : KeptLine) (start host : Opened) (line : Line) → IsLineOf call start host line → IsNoTick line → NotAsked call → IsSafe line
  safe_line call start host (Calls (Tick now)) is none other = absurd none
  safe_line call start host (Calls (Hear (Request asker name))) is none other =
      false_from_ne_true (same_name name n) (λ same. other is.0 asker (subst (λ (m : NameValue). call ≡ Came is.0 (Request asker m)) (same_name-is name n same) is.1))
  safe_line call start host line is none other = tt

  safe_lines : (call : KeptLine) (start host : Opened) (lines : List Line) → AreLinesOf call start host lines → AreNoTicks lines → NotAsked call → Each IsSafe lines
  safe_lines call start host [] are none other = tt
  safe_lines call start host (line ∷ lines) are none other =
      (safe_line call start host line are.0 none.0 other, safe_lines call start (after_line line host) lines are.1 none.1 other)

  call_begins : (now : ℕ) (call : KeptLine) (k : Keeping) → Begins now (doing_of call (sees k.host) k.policy) → (now < x.due → NotAsked call) → Waits k.host → CallGoes now call k
  call_begins now call k b other is =
      let lines = (doing_of call (sees k.host) k.policy).lines in
      let are = subst (AreLinesOf call k.host k.host) b.is (lines_of_call call k) in
      begun_goes now lines b.rest k.host b.is (λ lt. safe_lines call k.host (after_line (Calls (Tick now)) k.host) b.rest are.1 b.none (other lt)) is

  pub came_goes : (now : ℕ) (v : Datagram) (k : Keeping) → (now < x.due → NotAsked (Came now v)) → Waits k.host → CallGoes now (Came now v) k
  came_goes now v k other is = call_begins now (Came now v) k (came_begins now v (sees k.host) k.policy) other is

  pub ticked_goes : (now : ℕ) (k : Keeping) → Waits k.host → CallGoes now (Ticked now) k
  ticked_goes now k is = call_begins now (Ticked now) k (ticks_begin now (sees k.host) k.policy) (λ lt m asker e. absurd cc) is

  pub added_goes : (now : ℕ) (page : PageId) (time : ℕ) (op : Op) (k : Keeping) → Waits k.host → CallGoes now (Added now page time op) k
  added_goes now page time op k is = call_begins now (Added now page time op) k (adds_begin now page time op (sees k.host) k.policy) (λ lt m asker e. absurd cc) is
