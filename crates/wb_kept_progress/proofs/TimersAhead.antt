-- Behind a tick no timer that stands is due before its moment, and so it stays until the next tick.
use Rattle.std.proofs.Common.{◌≡◌, ℕ, ◌+◌, ◌*◌, ◌^◌, ◌%◌, ◌≤◌, Bool, true, false, cond, List, [], ◌∷◌, ◌++◌, ◌∙◌, Option, Some, None, ap, arith, filter, leb-false, length, min, refl, subst, sym, true≢false}
use Rattle.std.specs.Prelude.{◌&&◌, IfSome, is_none, is_some, nat_eq, nat_le}
use Rattle.std.proofs.lemmas.Bool.{or_left, or_right}
use Rattle.wb_names.specs.Orders.{same_name}
use Rattle.wb_names.specs.Values.{DrawopValue, NameValue}
use Rattle.wb_codec.specs.declared.datagram.Datagram.{Datagram}
use Rattle.wb_codec.specs.declared.datagram.Datagram.TheVariants.{Draw, Session, Request, AskPages, PageState}
use Rattle.wb_recovery.specs.Events.{Asked, Event, IsNextDue, Notice, constants_after, due_asks, is_due_at, names_of, timers_of, word_for}
use Rattle.wb_recovery.specs.Noticing.{notices}
use Rattle.wb_recovery.specs.Stopping.{got_each, receipts}
use Rattle.wb_recovery.specs.Timing.{answer_moment, ask_moment, asked, backed_off, expiry, fired_answer, fired_ask, got, heard_ask, is_set_to, is_standing, new_answer, new_ask, noticed, ticked}
use Rattle.wb_recovery.specs.declared.missed.Missed.{Missed}
use Rattle.wb_recovery.specs.declared.missed.Received.{Received}
use Rattle.wb_recovery.specs.declared.timers.AnswerTimer.{AnswerTimer}
use Rattle.wb_recovery.specs.declared.timers.AskTimer.{AskTimer}
use Rattle.wb_recovery.specs.declared.timers.Timers.{Timers}
use Rattle.wb_recovery.specs.declared.tuning.Tuning.{Tuning}
use Rattle.wb_recovery.proofs.AlarmReads.{is_set_to-here}
use Rattle.wb_recovery.proofs.StoppedNames.{timers_receipts}
use Rattle.wb_keeper.specs.Hearing.{asks_for_held}
use Rattle.wb_keeper.specs.Keeper.{asked_by, delay_to, given_up, holds, missed_of, received_of}
use Rattle.wb_keeper.specs.Ticks.{stopped_after}
use Rattle.wb_keeper.proofs.NextDues.{next_due_is_least}
use Rattle.wb_member.specs.Members.{Misses}
use Rattle.wb_member.specs.Opened.{Opened, accepted, asks_for, doing, due_count, events, has_room_for, heard, may_ask, next_due, present, wanted_of, word_at}
use Rattle.wb_member.specs.Random.{word_of, words_of}
use Rattle.wb_member.specs.declared.calls.Call.TheVariants.{Tick, Hear, Tune, Look, Ask, Stop}
use Rattle.wb_keeping.specs.Kept.{Arrives, Doing, Line, Says, Calls}
use Rattle.wb_keeping.specs.Laws.{KeptLine, Came, Ticked, Added, Tuned, doing_of}
use Rattle.wb_keeping.specs.Performing.{Keeping, after_line, after_lines, due, sees, sooner_of}
use Rattle.wb_policy.specs.Policy.{next_moment}
use Rattle.wb_progress.specs.Turns.{AreNotOverdue}
use Rattle.wb_kept_progress.proofs.Moments.{IsTold, IsTuned}
use Rattle.wb_kept_progress.proofs.Performed.{AreNoTicks, Begins, IsNoTick, adds_begin, came_begins, ticks_begin}
use Rattle.wb_kept_progress.proofs.StillCalls.{line_now}
use Rattle.wb_progress.proofs.Parts.{heads, tails, nil_ends}

-- ---- the timers of a name

pub record AreAhead (now : ℕ) (s : Timers) : Type 0 where
  pub ask : IfSome s.ask (λ (a : AskTimer). now ≤ a.due)
  pub answer : IfSome s.answer (λ (a : AnswerTimer). now ≤ a.due)

more : (now x y : ℕ) → now ≤ now + x + y
more now x y = omega arith

-- what is drawn is ahead
drawn_ahead : (now level a b delay word : ℕ) → now ≤ expiry now level a b delay word
drawn_ahead now level a b delay word = more now (2 ^ level * a * delay) (word % (2 ^ level * b * delay + 1))

module _ (t : Tuning) (now : ℕ) where
  heard_ahead : (delay word : ℕ) (o : Option AskTimer) → IfSome o (λ (a : AskTimer). now ≤ a.due) → IfSome (heard_ask t now delay word o) (λ (a : AskTimer). now ≤ a.due)
  heard_ahead delay word None h = tt
  heard_ahead delay word (Some a) h = by (nat_le a.deaf now) where
    by : (b : Bool) → now ≤ (cond b (backed_off t a now delay word) a).due
    by true = drawn_ahead now (min (a.level + 1) 16) t.c1 t.c2 delay word
    by false = h

  fired_ahead : (word : ℕ) (o : Option AskTimer) → IfSome (fired_ask t now word o) (λ (a : AskTimer). now ≤ a.due)
  fired_ahead word None = tt
  fired_ahead word (Some a) = by (nat_le a.due now) refl where
    by : (b : Bool) → nat_le a.due now ≡ b → now ≤ (cond b (backed_off t a now a.delay word) a).due
    by true e = drawn_ahead now (min (a.level + 1) 16) t.c1 t.c2 a.delay word
    by false e = let lt = leb-false a.due now e in omega (arith, lt)

  answered_ahead : (o : Option AnswerTimer) → IfSome (fired_answer now o) (λ (a : AnswerTimer). now ≤ a.due)
  answered_ahead None = tt
  answered_ahead (Some a) = by (nat_le a.due now) refl where
    by : (b : Bool) → nat_le a.due now ≡ b → IfSome (cond b None (Some a)) (λ (a : AnswerTimer). now ≤ a.due)
    by true e = tt
    by false e = let lt = leb-false a.due now e in omega (arith, lt)

  ticked_ahead : (word : ℕ) (s : Timers) → AreAhead now (ticked t now word s)
  ticked_ahead word s = record { ask = fired_ahead word s.ask; answer = answered_ahead s.answer }

  noticed_ahead : (delay word : ℕ) (s : Timers) → AreAhead now s → AreAhead now (noticed t now delay word s)
  noticed_ahead delay word s h = by (is_none s.ask) where
    by : (b : Bool) → AreAhead now (cond b (record s { ask = Some (new_ask t now delay word) }) s)
    by true = record { ask = drawn_ahead now 0 t.c1 t.c2 delay word; answer = h.answer }
    by false = h

  asked_ahead : (held : Bool) (delay word : ℕ) (s : Timers) → AreAhead now s → AreAhead now (asked t held now delay word s)
  asked_ahead false delay word s h = record { ask = heard_ahead delay word s.ask h.ask; answer = h.answer }
  asked_ahead true delay word s h = by (is_none s.answer && nat_le s.quiet now) where
    by : (b : Bool) → AreAhead now (cond b (record s { answer = Some (new_answer t now delay word) }) s)
    by true = record { ask = h.ask; answer = drawn_ahead now 0 t.d1 t.d2 delay word }
    by false = h

got_ahead : (now moment delay : ℕ) (s : Timers) → AreAhead now s → AreAhead now (got moment delay s)
got_ahead now moment delay s h = by (is_standing s) where
  by : (b : Bool) → AreAhead now (cond b (record { ask = None; answer = None; quiet = moment + 3 * delay }) s)
  by true = record { ask = tt; answer = tt }
  by false = h

either : (now : ℕ) (b : Bool) (one other : Timers) → AreAhead now one → AreAhead now other → AreAhead now (cond b one other)
either now true one other h g = h
either now false one other h g = g

each_ahead : (now moment : ℕ) (n : NameValue) (s : Timers) (received : List Received) → AreAhead now s → AreAhead now (got_each moment n s received)
each_ahead now moment n s [] h = h
each_ahead now moment n s (c ∷ received) h =
    each_ahead now moment n (cond (same_name c.name n) (got moment c.delay s) s) received (either now (same_name c.name n) (got moment c.delay s) s (got_ahead now moment c.delay s h) h)

receipts_ahead : (t : Tuning) (now moment : ℕ) (n : NameValue) (calls : List Event) (received : List Received) → AreAhead now (timers_of t calls n) → AreAhead now (timers_of t (receipts moment calls received) n)
receipts_ahead t now moment n calls received h = subst (AreAhead now) (sym (timers_receipts t moment calls received n)) (each_ahead now moment n (timers_of t calls n) received h)

notices_ahead : (t : Tuning) (now : ℕ) (n : NameValue) (missed : List Missed) (calls : List Event) → AreAhead now (timers_of t calls n) → AreAhead now (timers_of t (notices now calls missed) n)
notices_ahead t now n [] calls h = h
notices_ahead t now n (m ∷ missed) calls h =
    notices_ahead t now n missed (Notice m.name now m.delay m.word ∷ calls) (either now (same_name m.name n) _ _ (noticed_ahead (constants_after t calls) now m.delay m.word (timers_of t calls n) h) h)

requests_ahead : (t : Tuning) (n : NameValue) (me now : ℕ) (delays : ℕ → ℕ) (v : Datagram) (word : ℕ) (held : Bool) (calls : List Event) → AreAhead now (timers_of t calls n) → AreAhead now (timers_of t (asked_by me delays now v word held calls) n)
requests_ahead t n me now delays (Request asker name) word held calls h = by (nat_eq asker me) where
  by : (b : Bool) → AreAhead now (timers_of t (cond b calls (Asked name held now (delays (cond held asker name.source)) word ∷ calls)) n)
  by true = h
  by false = either now (same_name name n) _ _ (asked_ahead (constants_after t calls) now held (delays (cond held asker name.source)) word (timers_of t calls n) h) h
requests_ahead t n me now delays (Draw d) word held calls h = h
requests_ahead t n me now delays (Session sender sent page marks echoes) word held calls h = h
requests_ahead t n me now delays (AskPages asker) word held calls h = h
requests_ahead t n me now delays (PageState sender page marks) word held calls h = h

-- ---- those of a host

abbrev pub IsAhead : Opened → Type 0
IsAhead host = (n : NameValue) → AreAhead (present host) (timers_of host.is.constants (events host) n)

tick_ahead : (now : ℕ) (host : Opened) → IsAhead (after_line (Calls (Tick now)) host)
tick_ahead now host n =
    let t = host.is.constants in
    let stopped = stopped_after host.is.number t host.is.calls host.is.held in
    let calls = receipts now (events host) (received_of (delay_to host.is.number host.is.calls) stopped) in
    ticked_ahead (constants_after t calls) now (word_for (words_of host.random (due_count now host)) (due_asks (names_of calls) (λ m. timers_of t calls m) now) n) (timers_of t calls n)

arrival_ahead : (d : DrawopValue) (host : Opened) → IsAhead host → IsAhead (accepted d host)
arrival_ahead d host h n =
    receipts_ahead host.is.constants (present host) (present host) n (events host) (received_of (delay_to host.is.number host.is.calls) (filter (holds (accepted d host).is.held) (d.name ∷ []))) (h n)

misses_ahead : (names : List NameValue) (words : List ℕ) (used : ℕ) (host : Opened) → IsAhead host → IsAhead (doing (Misses (present host) names words) used host)
misses_ahead names words used host h n = notices_ahead host.is.constants (present host) n (missed_of (delay_to host.is.number host.is.calls) names words) (events host) (h n)

line_ahead : (line : Line) (host : Opened) → IsNoTick line → IsAhead host → IsAhead (after_line line host)
line_ahead (Calls (Tick now)) host none h = absurd none
line_ahead (Arrives d) host none h = arrival_ahead d host h
line_ahead (Calls (Hear v)) host none h = by (has_room_for v host) where
  by : (b : Bool) → IsAhead (cond b (heard v host) host)
  by true = λ n. requests_ahead host.is.constants n host.is.number (present host) (delay_to host.is.number host.is.calls) v (word_at v host.random) (asks_for_held host.is.held v) (events host) (h n)
  by false = h
line_ahead (Calls (Look page)) host none h = let wanted = wanted_of page host in misses_ahead wanted (words_of host.random (length wanted)) (length wanted) host h
line_ahead (Calls (Ask name)) host none h = by (may_ask name host) where
  by : (b : Bool) → IsAhead (cond b (doing (Misses (present host) (name ∷ []) (word_of host.random ∷ [])) 1 host) host)
  by true = misses_ahead (name ∷ []) (word_of host.random ∷ []) 1 host h
  by false = h
line_ahead (Calls (Stop name)) host none h = by (asks_for name host) where
  by : (b : Bool) (n : NameValue) → AreAhead (present host) (timers_of host.is.constants (given_up (present host) name b (events host)) n)
  by true n = receipts_ahead host.is.constants (present host) (present host) n (events host) (received_of (λ source. 0) (name ∷ [])) (h n)
  by false n = h n
line_ahead (Says (Draw d)) host none h = arrival_ahead d host h
line_ahead line host none h = h

-- ---- in the middle of a call

-- no timer that stands is due before the moment of a host
pub record IsAheadAt (moment : ℕ) (host : Opened) : Type 0 where
  pub now : present host ≡ moment
  pub ahead : IsAhead host

lines_ahead : (lines : List Line) (moment : ℕ) (host : Opened) → AreNoTicks lines → IsAheadAt moment host → IsAheadAt moment (after_lines lines host)
lines_ahead [] moment host none h = h
lines_ahead (line ∷ lines) moment host none h = lines_ahead lines moment (after_line line host) none.1 (record { now = line_now line host none.0 ∙ h.now; ahead = line_ahead line host none.0 h.ahead })

front_none : (one other : List Line) → AreNoTicks (one ++ other) → AreNoTicks one
front_none [] other none = tt
front_none (line ∷ one) other none = (none.0, front_none one other none.1)

begun_ahead : (now : ℕ) (d : Doing) (host : Opened) (first : Line) (before later : List Line) (x : Line) → Begins now d → d.lines ≡ first ∷ (before ++ x ∷ later) → IsAheadAt now (after_lines (first ∷ before) host)
begun_ahead now d host first before later x b split =
    let same = sym b.is ∙ split in
    let none = front_none before (x ∷ later) (subst AreNoTicks (tails (Calls (Tick now)) first b.rest (before ++ x ∷ later) same) b.none) in
    subst (λ (line : Line). IsAheadAt now (after_lines before (after_line line host))) (heads (Calls (Tick now)) first b.rest (before ++ x ∷ later) same)
    (lines_ahead before now (after_line (Calls (Tick now)) host) none (record { now = refl; ahead = tick_ahead now host }))

-- behind the first line of a call that tells a moment
pub ahead_amid : (line : KeptLine) (k : Keeping) (moment : ℕ) (first : Line) (before later : List Line) (x : Line) → IsTold moment line → (doing_of line (sees k.host) k.policy).lines ≡ first ∷ (before ++ x ∷ later) → IsAheadAt moment (after_lines (first ∷ before) k.host)
ahead_amid (Came now v) k moment first before later x told split =
    subst (λ (m : ℕ). IsAheadAt m (after_lines (first ∷ before) k.host)) told (begun_ahead now _ k.host first before later x (came_begins now v (sees k.host) k.policy) split)
ahead_amid (Ticked now) k moment first before later x told split =
    subst (λ (m : ℕ). IsAheadAt m (after_lines (first ∷ before) k.host)) told (begun_ahead now _ k.host first before later x (ticks_begin now (sees k.host) k.policy) split)
ahead_amid (Added now page time op) k moment first before later x told split =
    subst (λ (m : ℕ). IsAheadAt m (after_lines (first ∷ before) k.host)) told (begun_ahead now _ k.host first before later x (adds_begin now page time op (sees k.host) k.policy) split)
ahead_amid (Tuned constants) k moment first before later x told split = absurd (nil_ends before x later (tails (Calls (Tune constants)) first [] (before ++ x ∷ later) split))

-- a call that sets constants performs one line
pub tuned_alone : (line : KeptLine) (k : Keeping) (first : Line) (before later : List Line) (x : Line) → IsTuned line → (doing_of line (sees k.host) k.policy).lines ≡ first ∷ (before ++ x ∷ later) → ⊥
tuned_alone line k first before later x t split =
    nil_ends before x later (tails (Calls (Tune t.0)) first [] (before ++ x ∷ later) (ap (λ (l : KeptLine). (doing_of l (sees k.host) k.policy).lines) (sym t.1) ∙ split))

-- ---- what is overdue

-- a timer that is ahead is not, at times that are not far behind the moment
pub ahead_in_time : (s : Timers) (moment time late : ℕ) → time ≤ moment + late → AreAhead moment s → AreNotOverdue s time late
ahead_in_time s moment time late near h = record { ask = asks s.ask h.ask; answer = answers s.answer h.answer } where
  asks : (o : Option AskTimer) → IfSome o (λ (a : AskTimer). moment ≤ a.due) → IfSome o (λ (a : AskTimer). time ≤ a.due + late)
  asks None h = tt
  asks (Some a) h = omega (arith, near, h)

  answers : (o : Option AnswerTimer) → IfSome o (λ (a : AnswerTimer). moment ≤ a.due) → IfSome o (λ (a : AnswerTimer). time ≤ a.due + late)
  answers None h = tt
  answers (Some a) h = omega (arith, near, h)

-- no timer is due before the host has something to do
pub due_in_time : (k : Keeping) (n : NameValue) (moment late : ℕ) → moment ≤ due k + late → AreNotOverdue (timers_of k.host.is.constants (events k.host) n) moment late
due_in_time k n moment late soon = record { ask = asks s.ask refl; answer = answers s.answer refl } where
  timers : NameValue → Timers
  timers = timers_of k.host.is.constants (events k.host)

  s : Timers
  s = timers n

  by : (o : Option ℕ) (d : ℕ) → IsNextDue timers o → moment ≤ sooner_of (next_moment k.policy) o + late → is_due_at d s ≡ true → is_standing s ≡ true → moment ≤ d + late
  by None d next soon set stands = absurd (true≢false (sym stands ∙ next n))
  by (Some e) d next soon set stands = let le : e ≤ d = next.2 n d set in omega (arith, soon, le)

  least : IsNextDue timers (next_due k.host)
  least = next_due_is_least k.host.is.constants (events k.host)

  asks : (o : Option AskTimer) → s.ask ≡ o → IfSome o (λ (a : AskTimer). moment ≤ a.due + late)
  asks None e = tt
  asks (Some a) e = by (next_due k.host) a.due least soon (or_left _ _ (ap (λ (o : Option AskTimer). is_set_to a.due (ask_moment o)) e ∙ is_set_to-here a.due)) (or_left _ _ (ap is_some e))

  answers : (o : Option AnswerTimer) → s.answer ≡ o → IfSome o (λ (a : AnswerTimer). moment ≤ a.due + late)
  answers None e = tt
  answers (Some a) e = by (next_due k.host) a.due least soon (or_right _ _ (ap (λ (o : Option AnswerTimer). is_set_to a.due (answer_moment o)) e ∙ is_set_to-here a.due)) (or_right _ _ (ap is_some e))
