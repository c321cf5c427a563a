-- A self-managing host sends a drawop only as its user draws, or once for a request for what it holds.
use Rattle.std.proofs.Common.{◌≡◌, ℕ, ◌+◌, ◌*◌, ◌≤◌, Bool, true, false, cond, List, [], ◌∷◌, ◌++◌, ◌∙◌, Option, Some, None, ap, arith, length, map, refl, subst, sym, true≢false}
use Rattle.std.specs.Prelude.{Contains, filter, is_some, nat_eq, nat_le}
use Rattle.std.specs.List.{cons_option, filter_map}
use Rattle.std.specs.Option.{option_map}
use Rattle.std.proofs.lemmas.List.Elements.{filter_map-append}
use Rattle.wb_names.specs.Arrivals.{Outcome, New, Again, Clash, Left}
use Rattle.wb_names.specs.Orders.{same_name}
use Rattle.wb_names.specs.Values.{DrawopValue, NameValue}
use Rattle.wb_names.specs.declared.name.PageId.{PageId}
use Rattle.wb_names.specs.declared.parts.Op.{Op}
use Rattle.wb_names.proofs.Listings.{Contains-from_filter, Contains-here, Contains-there}
use Rattle.wb_names.proofs.Orders.{same_name-is}
use Rattle.wb_codec.specs.declared.datagram.Datagram.{Datagram}
use Rattle.wb_codec.specs.declared.datagram.Datagram.TheVariants.{AskPages, Draw, PageState, Request, Session}
use Rattle.wb_gaps.specs.Answers.{reports_of}
use Rattle.wb_gaps.specs.declared.page_reports.PageReport.{PageReport}
use Rattle.wb_recovery.specs.Events.{Asked, Event, Notice, due_answers, due_asks, names_of as timed_names, timers_of}
use Rattle.wb_recovery.specs.Laws.{ends_answer, sets_answer, since}
use Rattle.wb_recovery.specs.Noticing.{notices}
use Rattle.wb_recovery.specs.Stopping.{got_each, receipts}
use Rattle.wb_recovery.specs.Timing.{asked, fired_answer, got, is_answer_due, is_standing}
use Rattle.wb_recovery.specs.declared.missed.Missed.{Missed}
use Rattle.wb_recovery.specs.declared.missed.Received.{Received}
use Rattle.wb_recovery.specs.declared.plan.Action.TheVariants.{Answer, Ask}
use Rattle.wb_recovery.specs.declared.timers.AnswerTimer.{AnswerTimer}
use Rattle.wb_recovery.specs.declared.timers.Timers.{Timers}
use Rattle.wb_recovery.specs.declared.tuning.Tuning.{Tuning}
use Rattle.wb_recovery.proofs.NameLists.{listed_of, names_rise}
use Rattle.wb_recovery.proofs.StoppedNames.{timers_receipts}
use Rattle.wb_recovery.proofs.TimerLaws.{answer_stands}
use Rattle.wb_keeper.specs.Hearing.{answers_to, asks_for_held, asks_for_pages, page_states}
use Rattle.wb_keeper.specs.Keeper.{asked_by, delay_to, given_up, holds as history_holds, missed_of, received_of}
use Rattle.wb_keeper.specs.Ticks.{drawop_of, sent_for, stopped_after}
use Rattle.wb_progress.specs.InTime.{AreApart}
use Rattle.wb_progress.specs.Keepers.{constants_at}
use Rattle.wb_progress.proofs.NamesApart.{apart_of, no_longer}
use Rattle.wb_member.specs.Members.{Misses}
use Rattle.wb_member.specs.Opened.{Opened, accepted, asks_for, becomes, doing, events, has_room_for, heard, may_ask, opened_with, present, wanted_of, word_at}
use Rattle.wb_member.specs.Random.{word_of, words_of}
use Rattle.wb_member.specs.declared.calls.Call.TheVariants as calls
use Rattle.wb_recovery.specs.declared.limits.TheConstants.{UNKNOWN_DELAY}
use Rattle.wb_keeping.specs.Bounds.{new_keeping}
use Rattle.wb_keeping.specs.Kept.{Arrives, Calls, Doing, Line, Says, and_then, drawing, ends_full, hears, hears_request, still, timed, drew}
use Rattle.wb_keeping.specs.Laws.{Added, Came, KeptLine, Ticked, Tuned, doing_of, expand}
use Rattle.wb_keeping.specs.Performing.{Keeping, after_doing, after_line, after_lines, said_where, sees, sent_by_line, sent_by_lines, view_of}
use Rattle.wb_keeping.specs.Views.{holds}
use Rattle.wb_keeping.proofs.EachLine.{ends_each, then_each, timed_each}
use Rattle.wb_keeping.proofs.KeptHosts.{kept_hosts_are_hosts}
use Rattle.wb_kept_progress.specs.Timed.{is_drawop}
use Rattle.wb_kept_progress.specs.Traffic.{DrawopsAreCalledFor, NoAnswerStands, call_count, calls_for_drawop, how_many}
use Rattle.wb_kept_progress.proofs.Begun.{HasNoTimers, tick_no_timers, ticks_keep}
use Rattle.wb_kept_progress.proofs.FirstLines.{AreLinesOf, lines_of_call}
use Rattle.wb_kept_progress.proofs.Lines.{AreSmall, IsSmall, are_small}
use Rattle.wb_kept_progress.proofs.Named.{all, all_both, all_by_names, all_more, apart_passing, count, count_both, count_more, filter_same, is_for, names_by_all, names_of, one_if, passing, sums_rise, sums_scale}

-- ---- names of drawops, and of what calls for them

abbrev drawn : Datagram → Option NameValue
drawn (Draw d) = Some d.name
drawn (Session sender sent page marks echoes) = None
drawn (Request asker name) = None
drawn (AskPages asker) = None
drawn (PageState sender page marks) = None

one_drawop : (v : Datagram) → is_drawop v ≡ is_some (drawn v)
one_drawop (Draw d) = refl
one_drawop (Session sender sent page marks echoes) = refl
one_drawop (Request asker name) = refl
one_drawop (AskPages asker) = refl
one_drawop (PageState sender page marks) = refl

-- what is asked for, if it is held
abbrev wanted_by : Datagram → List DrawopValue → Option NameValue
wanted_by (Draw d) held = None
wanted_by (Session sender sent page marks echoes) held = None
wanted_by (Request asker name) held = cond (history_holds held name) (Some name) None
wanted_by (AskPages asker) held = None
wanted_by (PageState sender page marks) held = None

-- a line that a host performs calls for a drawop
abbrev cause : Line × Opened → Option NameValue
cause (Calls (calls.Hear v), host) = wanted_by v host.is.held
cause (Says v, host) = drawn v
cause (line, host) = None

-- each line with the host that performs it
abbrev steps : List Line → Opened → List (Line × Opened)
steps [] host = []
steps (line ∷ lines) host = (line, host) ∷ steps lines (after_line line host)

steps_both : (one other : List Line) (host : Opened) → steps (one ++ other) host ≡ steps one host ++ steps other (after_lines one host)
steps_both [] other host = refl
steps_both (line ∷ one) other host = ap (λ (s : List (Line × Opened)). (line, host) ∷ s) (steps_both one other (after_line line host))

-- ---- answer timers

abbrev stands : Option AnswerTimer → ℕ
stands o = one_if (is_some o)

module _ (n : NameValue) where
  abbrev answer : Tuning → List Event → Option AnswerTimer
  answer t events = (timers_of t events n).answer

  abbrev answer_at : Opened → Option AnswerTimer
  answer_at host = answer host.is.constants (events host)

  got_fewer : (now delay : ℕ) (s : Timers) → stands (got now delay s).answer ≤ stands s.answer
  got_fewer now delay s = by (is_standing s) where
    by : (b : Bool) → stands (cond b (record { ask = None; answer = None; quiet = now + 3 * delay }) s).answer ≤ stands s.answer
    by true = omega arith
    by false = omega arith

  each_fewer : (now : ℕ) (s : Timers) (received : List Received) → stands (got_each now n s received).answer ≤ stands s.answer
  each_fewer now s [] = omega arith
  each_fewer now s (c ∷ received) = by (same_name c.name n) (each_fewer now (got now c.delay s) received) (each_fewer now s received) where
    by : (b : Bool) → stands (got_each now n (got now c.delay s) received).answer ≤ stands (got now c.delay s).answer → stands (got_each now n s received).answer ≤ stands s.answer
        → stands (got_each now n (cond b (got now c.delay s) s) received).answer ≤ stands s.answer
    by true come rest = let one = got_fewer now c.delay s in omega (arith, one, come)
    by false come rest = rest

  come_fewer : (t : Tuning) (now : ℕ) (calls : List Event) (received : List Received) → stands (answer t (receipts now calls received)) ≤ stands (answer t calls)
  come_fewer t now calls received =
      let same = ap (λ (s : Timers). stands s.answer) (timers_receipts t now calls received n) in
      let le = each_fewer now (timers_of t calls n) received in
      omega (arith, same, le)

  -- ---- what a tick sends

  absent : (names : List NameValue) → (Contains names n → ⊥) → count {X = NameValue} Some n names ≡ 0
  absent [] never = refl
  absent (m ∷ names) never =
      let more = count_more {X = NameValue} Some n m names in
      let rest = absent names (λ c. never (Contains-there m n names c)) in
      let none = ap one_if (by (same_name m n) refl) in
      omega (arith, more, rest, none) where
        by : (b : Bool) → same_name m n ≡ b → same_name m n ≡ false
        by true e = absurd (never (subst (Contains (m ∷ names)) (same_name-is m n e) (Contains-here m names)))
        by false e = e

  once : (names : List NameValue) → AreApart names → count {X = NameValue} Some n names ≤ 1
  once [] apart = omega arith
  once (m ∷ names) apart = by (same_name m n) refl (once names apart.1) where
    by : (b : Bool) → same_name m n ≡ b → count {X = NameValue} Some n names ≤ 1 → count {X = NameValue} Some n (m ∷ names) ≤ 1
    by true e rest =
        let more = count_more {X = NameValue} Some n m names in
        let here = ap one_if e in
        let none = absent names (λ c. apart.0 (subst (Contains names) (sym (same_name-is m n e)) c)) in
        omega (arith, more, here, none)
    by false e rest = let more = count_more {X = NameValue} Some n m names in let here = ap one_if e in omega (arith, more, here, rest)

  -- a drawop that is found has the name
  found : (held : List DrawopValue) (m : NameValue) (d : DrawopValue) → drawop_of held m ≡ Some d → d.name ≡ m
  found [] m d e = cc
  found (x ∷ held) m d e = by (found held m d) (same_name x.name m) refl e where
    by : (drawop_of held m ≡ Some d → d.name ≡ m) → (b : Bool) → same_name x.name m ≡ b → cond b (Some x) (drawop_of held m) ≡ Some d → d.name ≡ m
    by rest true same e = let is : x ≡ d = cc in ap (λ (y : DrawopValue). y.name) (sym is) ∙ same_name-is x.name m same
    by rest false same e = rest e

  asks_none : (me : ℕ) (held : List DrawopValue) (names : List NameValue) → count drawn n (filter_map (sent_for me held) (map Ask names)) ≡ 0
  asks_none me held [] = refl
  asks_none me held (m ∷ names) = asks_none me held names

  answers_each : (me : ℕ) (held : List DrawopValue) (names : List NameValue) → count drawn n (filter_map (sent_for me held) (map Answer names)) ≤ count {X = NameValue} Some n names
  answers_each me held [] = omega arith
  answers_each me held (m ∷ names) = by (drawop_of held m) refl (answers_each me held names) where
    by : (o : Option DrawopValue) → drawop_of held m ≡ o → count drawn n (filter_map (sent_for me held) (map Answer names)) ≤ count {X = NameValue} Some n names
        → count drawn n (cons_option (option_map {T = DrawopValue} {U = Datagram} Draw o) (filter_map (sent_for me held) (map Answer names))) ≤ count {X = NameValue} Some n (m ∷ names)
    by None e rest = let more = count_more {X = NameValue} Some n m names in omega (arith, more, rest)
    by (Some d) e rest =
        let more = count_more {X = NameValue} Some n m names in
        let one = count_more drawn n (Draw d) (filter_map (sent_for me held) (map Answer names)) in
        let same = ap (λ (x : NameValue). one_if (same_name x n)) (found held m d e) in
        omega (arith, more, one, same, rest)

  module _ (me : ℕ) (held : List DrawopValue) (t : Tuning) (now : ℕ) (calls : List Event) where
    abbrev asks_now : List NameValue
    asks_now = due_asks (timed_names calls) (timers_of t calls) now

    abbrev due : List NameValue
    due = due_answers (timed_names calls) (timers_of t calls) now

    abbrev p : NameValue → Bool
    p m = is_answer_due now (timers_of t calls m).answer

    abbrev sent_now : List Datagram
    sent_now = filter_map (sent_for me held) (map Ask asks_now ++ map Answer due)

    sent_few : count drawn n sent_now ≤ count {X = NameValue} Some n due
    sent_few =
        let both = ap (count drawn n) (filter_map-append (sent_for me held) (map Ask asks_now) (map Answer due)) ∙ count_both drawn n (filter_map (sent_for me held) (map Ask asks_now)) (filter_map (sent_for me held) (map Answer due)) in
        let none = asks_none me held asks_now in
        let each = answers_each me held due in
        omega (arith, both, none, each)

    one_due : count {X = NameValue} Some n due ≤ 1
    one_due = once due (apart_passing p (timed_names calls) (apart_of (timed_names calls) (names_rise calls)))

    none_due : is_answer_due now (answer t calls) ≡ false → count {X = NameValue} Some n due ≡ 0
    none_due e = absent due (λ c. true≢false (sym (Contains-from_filter p (timed_names calls) n c).1 ∙ e))

    tick_draws : count drawn n sent_now + stands (fired_answer now (answer t calls)) ≤ stands (answer t calls)
    tick_draws = by (answer t calls) refl where
      by : (o : Option AnswerTimer) → answer t calls ≡ o → count drawn n sent_now + stands (fired_answer now o) ≤ stands o
      by None e = let s = sent_few in let z = none_due (ap (is_answer_due now) e) in omega (arith, s, z)
      by (Some a) e = fires (nat_le a.due now) refl where
        fires : (b : Bool) → nat_le a.due now ≡ b → count drawn n sent_now + stands (cond b None (Some a)) ≤ 1
        fires true f = let s = sent_few in let o = one_due in omega (arith, s, o)
        fires false f = let s = sent_few in let z = none_due (ap (is_answer_due now) e ∙ f) in omega (arith, s, z)

  -- ---- one line

  heard_fewer : (host : Opened) (v : Datagram) (now word : ℕ) → stands (answer host.is.constants (asked_by host.is.number (delay_to host.is.number host.is.calls) now v word (asks_for_held host.is.held v) (events host))) ≤ stands (answer_at host) + one_if (is_for n (wanted_by v host.is.held))
  heard_fewer host (Draw d) now word = omega arith
  heard_fewer host (Session sender sent page marks echoes) now word = omega arith
  heard_fewer host (AskPages asker) now word = omega arith
  heard_fewer host (PageState sender page marks) now word = omega arith
  heard_fewer host (Request asker name) now word = of_other (nat_eq asker host.is.number) where
    s : Timers
    s = timers_of host.is.constants (events host) n

    delay : Bool → ℕ
    delay held = delay_to host.is.number host.is.calls (cond held asker name.source)

    t : Tuning
    t = constants_at host.is.number host.is.constants host.is.calls

    at_most : (o : Option AnswerTimer) → stands o ≤ 1
    at_most None = omega arith
    at_most (Some a) = omega arith

    by : (held same : Bool) → same_name name n ≡ same → stands (cond same (asked t held now (delay held) word s) s).answer ≤ stands s.answer + one_if (is_for n (cond held (Some name) None))
    by held false e = omega arith
    by false true e = omega arith
    by true true e = let most = at_most (asked t true now (delay true) word s).answer in let one = ap one_if e in omega (arith, most, one)

    of_other : (own : Bool) → stands (answer host.is.constants (cond own (events host) (Asked name (history_holds host.is.held name) now (delay (history_holds host.is.held name)) word ∷ events host))) ≤ stands s.answer + one_if (is_for n (wanted_by (Request asker name) host.is.held))
    of_other true = omega arith
    of_other false = by (history_holds host.is.held name) (same_name name n) refl

  no_answer_draws : (host : Opened) (v : Datagram) (room : Bool) → count drawn n (cond room (answers_to host.is.number host.is.held v) []) ≡ 0
  no_answer_draws host v false = refl
  no_answer_draws host v true = by (asks_for_pages host.is.number v) where
    none : (reports : List PageReport) → count drawn n (map (λ (r : PageReport). PageState host.is.number r.page r.marks) reports) ≡ 0
    none [] = refl
    none (r ∷ reports) = none reports

    by : (b : Bool) → count drawn n (cond b (page_states host.is.number host.is.held) []) ≡ 0
    by true = none (reports_of host.is.held)
    by false = refl

  said_draws : (d : DrawopValue) (o : Outcome) → count drawn n (said_where d o) ≤ one_if (same_name d.name n)
  said_draws d (New place) = let more = count_more drawn n (Draw d) [] in omega (arith, more)
  said_draws d (Again place) = let more = count_more drawn n (Draw d) [] in omega (arith, more)
  said_draws d (Clash place) = omega arith
  said_draws d Left = omega arith

  arrival_fewer : (d : DrawopValue) (host : Opened) → stands (answer_at (accepted d host)) ≤ stands (answer_at host)
  arrival_fewer d host = come_fewer host.is.constants (present host) (events host) (received_of (delay_to host.is.number host.is.calls) (filter (history_holds (accepted d host).is.held) (d.name ∷ [])))

  -- what is missed sets no answer timer
  missed_same : (t : Tuning) (now : ℕ) (missed : List Missed) (events : List Event) → since (sets_answer t n) (ends_answer t n) (notices now events missed) ≡ since (sets_answer t n) (ends_answer t n) events
  missed_same t now [] events = refl
  missed_same t now (m ∷ missed) events = missed_same t now missed (Notice m.name now m.delay m.word ∷ events)

  misses_same : (names : List NameValue) (words : List ℕ) (used : ℕ) (host : Opened) → stands (answer_at (doing (Misses (present host) names words) used host)) ≡ stands (answer_at host)
  misses_same names words used host =
      let t = host.is.constants in
      let missed = missed_of (delay_to host.is.number host.is.calls) names words in
      ap one_if (answer_stands t (notices (present host) (events host) missed) n ∙ missed_same t (present host) missed (events host) ∙ sym (answer_stands t (events host) n))

  -- What a line sends of drawops of the name, and its answer timer then: one as before, or a cause.
  abbrev IsCaused : Line → Opened → Type 0
  IsCaused line host = count drawn n (sent_by_line line host) + stands (answer_at (after_line line host)) ≤ stands (answer_at host) + one_if (is_for n (cause (line, host)))

  line_draws : (line : Line) (host : Opened) → IsCaused line host
  line_draws (Calls (calls.Tick now)) host =
      let received = received_of (delay_to host.is.number host.is.calls) (stopped_after host.is.number host.is.constants host.is.calls host.is.held) in
      let fires = tick_draws host.is.number host.is.held host.is.constants now (receipts now (events host) received) in
      let come = come_fewer host.is.constants now (events host) received in
      omega (arith, fires, come)
  line_draws (Arrives d) host = let le = arrival_fewer d host in omega (arith, le)
  line_draws (Calls (calls.Hear v)) host = by (has_room_for v host) where
    by : (b : Bool) → count drawn n (cond b (answers_to host.is.number host.is.held v) []) + stands (answer_at (cond b (heard v host) host)) ≤ stands (answer_at host) + one_if (is_for n (wanted_by v host.is.held))
    by true = let none = no_answer_draws host v true in let le = heard_fewer host v (present host) (word_at v host.random) in omega (arith, none, le)
    by false = omega arith
  line_draws (Calls (calls.Look page)) host =
      let wanted = wanted_of page host in
      let same = misses_same wanted (words_of host.random (length wanted)) (length wanted) host in
      omega (arith, same)
  line_draws (Calls (calls.Ask name)) host = by (may_ask name host) where
    by : (b : Bool) → 0 + stands (answer_at (cond b (doing (Misses (present host) (name ∷ []) (word_of host.random ∷ [])) 1 host) host)) ≤ stands (answer_at host) + 0
    by true = let same = misses_same (name ∷ []) (word_of host.random ∷ []) 1 host in omega (arith, same)
    by false = omega arith
  line_draws (Calls (calls.Stop name)) host = by (asks_for name host) where
    by : (b : Bool) → 0 + stands (answer host.is.constants (given_up (present host) name b (events host))) ≤ stands (answer_at host) + 0
    by true = let le = come_fewer host.is.constants (present host) (events host) (received_of (λ source. 0) (name ∷ [])) in omega (arith, le)
    by false = omega arith
  line_draws (Calls call) host = omega arith
  line_draws (Says (Draw d)) host =
      let sent = said_draws d (becomes d host) in
      let le = arrival_fewer d host in
      omega (arith, sent, le)
  line_draws (Says v) host = omega arith

  lines_draw : (lines : List Line) (host : Opened) → count drawn n (sent_by_lines lines host) + stands (answer_at (after_lines lines host)) ≤ stands (answer_at host) + count cause n (steps lines host)
  lines_draw [] host = omega arith
  lines_draw (line ∷ lines) host =
      let next = after_line line host in
      let one = line_draws line host in
      let rest = lines_draw lines next in
      let both = count_both drawn n (sent_by_line line host) (sent_by_lines lines next) in
      let more = count_more cause n (line, host) (steps lines next) in
      omega (arith, one, rest, both, more)

-- ---- which calls bring such lines

small_causes : (lines : List Line) (host : Opened) → AreSmall lines → all cause (steps lines host) ≡ 0
small_causes [] host small = refl
small_causes (Calls (calls.Hear v) ∷ lines) host small = absurd small.0
small_causes (Says (Draw d) ∷ lines) host small = absurd small.0
small_causes (line ∷ lines) host small = small_causes lines (after_line line host) small.1

-- a call with which no request comes, and no drawing
record IsIdle (call : KeptLine) : Type 0 where
  requested : (now asker : ℕ) (name : NameValue) → call ≡ Came now (Request asker name) → ⊥
  added : (now : ℕ) (page : PageId) (time : ℕ) (op : Op) → call ≡ Added now page time op → ⊥

idle_causes : (call : KeptLine) (start host : Opened) (lines : List Line) → IsIdle call → AreLinesOf call start host lines → all cause (steps lines host) ≡ 0
idle_causes call start host [] idle are = refl
idle_causes call start host (Calls (calls.Hear (Request asker name)) ∷ lines) idle are = absurd (idle.requested are.0.0 asker name are.0.1)
idle_causes call start host (Says (Draw d) ∷ lines) idle are = let a = are.0 in absurd (idle.added a.0 a.1 a.2 a.3 a.4)
idle_causes call start host (line ∷ lines) idle are = idle_causes call start (after_line line host) lines idle are.1

-- how many of the lines of a call call for a drawop
abbrev causes : KeptLine → Keeping → ℕ
causes call k = all cause (steps (doing_of call (sees k.host) k.policy).lines k.host)

none_in : (call : KeptLine) (k : Keeping) → IsIdle call → causes call k ≡ 0
none_in call k idle = idle_causes call k.host k.host (doing_of call (sees k.host) k.policy).lines idle (lines_of_call call k)

one_request : (now asker : ℕ) (name : NameValue) (k : Keeping) → causes (Came now (Request asker name)) k ≤ one_if (history_holds k.host.is.held name)
one_request now asker name k =
    let both = ap (all cause) (steps_both heard_lines later host) ∙ all_both cause (steps heard_lines host) (steps later (after_lines heard_lines host)) in
    let small = small_causes later (after_lines heard_lines host) (timed_each IsSmall are_small (λ (lines : List Line). sees host (heard_lines ++ lines)) d.policy) in
    let one = of_other (nat_eq asker host.is.number) in
    omega (arith, both, small, one) where
      host : Opened
      host = after_line (Calls (calls.Tick now)) k.host

      d : Doing
      d = hears (Request asker name) (sees host) k.policy

      heard_lines : List Line
      heard_lines = d.lines

      later : List Line
      later = (timed (λ (lines : List Line). sees host (d.lines ++ lines)) d.policy).lines

      line : Line
      line = Calls (calls.Hear (Request asker name))

      held : Bool
      held = history_holds k.host.is.held name

      one_of : (b : Bool) → one_if (is_some (cond {A = Option NameValue} b (Some name) None)) ≡ one_if b
      one_of true = refl
      one_of false = refl

      lent : (source usual : ℕ) (b : Bool) → all cause (steps (cond b (Calls (calls.SetDelay source usual) ∷ line ∷ Calls (calls.SetDelay source UNKNOWN_DELAY) ∷ []) (line ∷ [])) host) ≤ one_if held
      lent source usual true = let more = all_more cause (line, after_line (Calls (calls.SetDelay source usual)) host) (steps (Calls (calls.SetDelay source UNKNOWN_DELAY) ∷ []) (after_line line (after_line (Calls (calls.SetDelay source usual)) host))) in let one = one_of held in omega (arith, more, one)
      lent source usual false = let more = all_more cause (line, host) [] in let one = one_of held in omega (arith, more, one)

      of_other : (own : Bool) → all cause (steps (cond own (still (sees host) k.policy) (hears_request asker name (sees host) k.policy)).lines host) ≤ one_if held
      of_other true = omega arith
      of_other false = lent (cond (holds (view_of host) name) asker name.source) k.policy.usual (nat_eq ((view_of host).delay (cond (holds (view_of host) name) asker name.source)) UNKNOWN_DELAY)

one_drawing : (now : ℕ) (page : PageId) (time : ℕ) (op : Op) (k : Keeping) → causes (Added now page time op) k ≤ 1
one_drawing now page time op k =
    let more = all_more cause (Says (Draw d), host) (steps later after) in
    let small = small_causes later after (then_each IsSmall ends_full timed (ends_each IsSmall are_small) (timed_each IsSmall are_small) (sees after) (drew d (view_of host) k.policy)) in
    omega (arith, more, small) where
      host : Opened
      host = after_line (Calls (calls.Tick now)) k.host

      d : DrawopValue
      d = drawing (view_of host) page time op

      after : Opened
      after = after_line (Says (Draw d)) host

      later : List Line
      later = (and_then ends_full timed (sees after) (drew d (view_of host) k.policy)).lines

call_causes : (call : KeptLine) (k : Keeping) → causes call k ≤ one_if (calls_for_drawop call k)
call_causes (Came now (Draw d)) k = let none = none_in (Came now (Draw d)) k (record { requested = λ n asker name e. absurd cc; added = λ n page time op e. absurd cc }) in omega (arith, none)
call_causes (Came now (Session sender sent page marks echoes)) k =
    let none = none_in (Came now (Session sender sent page marks echoes)) k (record { requested = λ n asker name e. absurd cc; added = λ n page time op e. absurd cc }) in omega (arith, none)
call_causes (Came now (Request asker name)) k = one_request now asker name k
call_causes (Came now (AskPages asker)) k = let none = none_in (Came now (AskPages asker)) k (record { requested = λ n asker name e. absurd cc; added = λ n page time op e. absurd cc }) in omega (arith, none)
call_causes (Came now (PageState sender page marks)) k =
    let none = none_in (Came now (PageState sender page marks)) k (record { requested = λ n asker name e. absurd cc; added = λ n page time op e. absurd cc }) in omega (arith, none)
call_causes (Ticked now) k = let none = none_in (Ticked now) k (record { requested = λ n asker name e. absurd cc; added = λ n page time op e. absurd cc }) in omega (arith, none)
call_causes (Added now page time op) k = one_drawing now page time op k
call_causes (Tuned constants) k = let none = none_in (Tuned constants) k (record { requested = λ n asker name e. absurd cc; added = λ n page time op e. absurd cc }) in omega (arith, none)

all_causes : (calls : List KeptLine) (k : Keeping) → all cause (steps (expand calls k) k.host) ≤ call_count calls k
all_causes [] k = omega arith
all_causes (call ∷ calls) k =
    let lines = (doing_of call (sees k.host) k.policy).lines in
    let next = after_doing (doing_of call) k in
    let both = ap (all cause) (steps_both lines (expand calls next) k.host) ∙ all_both cause (steps lines k.host) (steps (expand calls next) next.host) in
    let one = call_causes call k in
    let rest = all_causes calls next in
    let same = as_number (calls_for_drawop call k) in
    omega (arith, both, one, rest, same) where
      as_number : (b : Bool) → one_if b ≡ cond b 1 0
      as_number true = refl
      as_number false = refl

-- ---- all of it

pub drawops_are_called_for : DrawopsAreCalledFor
drawops_are_called_for lines k =
    let host = k.host in
    let window = expand lines k in
    let sent = sent_by_lines window host in
    let r = names_of drawn sent in
    let p : NameValue → Bool = λ n. is_some (timers_of host.is.constants (events host) n).answer in
    let same = ap (how_many is_drawop) (kept_hosts_are_hosts lines k).1 ∙ filter_same is_drawop (λ v. is_some (drawn v)) one_drawop sent in
    let each = all_by_names drawn r.names sent r.covers in
    let bounded = sums_rise (λ n. count drawn n sent) (λ n. 1 * (one_if (p n) + count cause n (steps window host))) r.names (λ n. let le = lines_draw n window host in omega (arith, le)) in
    let scaled = sums_scale 1 (λ n. one_if (p n)) (λ n. count cause n (steps window host)) r.names in
    let standing = passing p r.names in
    let listed = listed_of (λ (s : Timers). is_some s.answer) refl host.is.constants (events host) in
    let among_timed = no_longer (filter p r.names) (filter p (timed_names (events host))) (apart_passing p r.names r.apart) (λ n c. (listed.members n).1 (Contains-from_filter p r.names n c).1) in
    let summed = names_by_all cause r.names r.apart (steps window host) in
    let calls = all_causes lines k in
    omega (arith, same, each, bounded, scaled, standing, among_timed, summed, calls)

pub no_answer_stands : NoAnswerStands
no_answer_stands constants number cells seed moments policy = none (timed_names (events host)) where
  host : Opened
  host = (new_keeping constants number cells seed moments policy).host

  idle : (n : NameValue) → HasNoTimers n host
  idle n = ticks_keep (HasNoTimers n) (λ now host is. tick_no_timers n now host is) moments (opened_with constants number cells seed) refl

  none : (names : List NameValue) → length (filter (λ n. is_some (timers_of host.is.constants (events host) n).answer) names) ≡ 0
  none [] = refl
  none (n ∷ names) = ap (λ (s : Timers). length (cond (is_some s.answer) (n ∷ filter (λ n. is_some (timers_of host.is.constants (events host) n).answer) names) (filter (λ n. is_some (timers_of host.is.constants (events host) n).answer) names))) (idle n) ∙ none names
