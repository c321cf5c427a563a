-- The lines of a repair, one after another.
use Rattle.wb_progress.specs.Keepers.{constants_at}
use Rattle.std.proofs.Common.{◌≡◌, ℕ, ◌+◌, ◌<◌, ◌≤◌, Bool, true, false, cond, List, [], ◌∷◌, ◌++◌, ◌∙◌, Option, Some, None, ap, arith, eqb-true, length, refl, subst, sym, true≢false}
use Rattle.std.specs.Prelude.{Contains, IfSome, nat_eq, nat_le, not, ◌||◌}
use Rattle.std.proofs.lemmas.Bool.{leb-false, false_from_ne_true, le-leb, lt-ltb}
use Rattle.std.proofs.lemmas.Bool.Decides.{nat_tests}
use Rattle.std.proofs.lemmas.List.Elements.{Contains-append_left, Contains-append_right}
use Rattle.std.proofs.Math.Bool.{or-true}
use Rattle.std.proofs.Math.Nat.{le-add_right, le_refl}
use Rattle.wb_names.specs.Arrivals.{New, Again, Clash, Left, history_with, outcome_from}
use Rattle.wb_names.specs.Faults.{fault_unless, first_of}
use Rattle.wb_names.specs.History.{IsHistory}
use Rattle.wb_names.specs.Orders.{same_name}
use Rattle.wb_names.specs.Same.{same_drawop}
use Rattle.wb_names.specs.Values.{DrawopValue, MarkValue, NameValue}
use Rattle.wb_names.specs.declared.echo.Echo.{Echo}
use Rattle.wb_names.specs.declared.name.PageId.{PageId}
use Rattle.wb_codec.specs.declared.datagram.Datagram.{Datagram}
use Rattle.wb_codec.specs.declared.datagram.Datagram.TheVariants.{Draw, Request, Session}
use Rattle.wb_recovery.specs.Events.{timers_of}
use Rattle.wb_recovery.specs.Timing.{are_constants, is_answer_due, new_answer}
use Rattle.wb_recovery.specs.declared.tuning.Tuning.{Tuning}
use Rattle.wb_recovery.specs.declared.timers.AnswerTimer.{AnswerTimer}
use Rattle.wb_recovery.specs.declared.timers.Timers.{Timers}
use Rattle.wb_keeper.specs.Keeper.{Hear, delay_to, events_of, holds, is_own}
use Rattle.wb_keeper.specs.declared.keep_fault.KeepFault.TheVariants.{BackInTime}
use Rattle.wb_keeper.proofs.KeptCalls.{holds_from}
use Rattle.wb_progress.specs.Repairs.{IsIdle, answering_wait, asking_wait, quiet_wait}
use Rattle.wb_progress.proofs.KeeperBounds.{keepers_are_bounded}
use Rattle.wb_progress.proofs.OneCall.{requests_set, ticks_answer, ticks_clear, ticks_leave}
use Rattle.wb_progress.proofs.Repairs.{answers_are_soon, asker_asks}
use Rattle.wb_member.specs.Judged.{is_full}
use Rattle.wb_member.specs.Opened.{Opened, asks_for, due_count, events, heard, opened_with, present, sent_by, ticked, word_at}
use Rattle.wb_member.specs.Random.{words_of}
use Rattle.wb_member.specs.declared.calls.Call.TheVariants as calls
use Rattle.wb_recovery.specs.declared.limits.TheConstants.{UNKNOWN_DELAY}
use Rattle.wb_keeping.specs.Kept.{Arrives, Doing, and_then, came, hears, learned, performs, still, takes, ticks, timed, Line, hears_request, Calls, ticks_at}
use Rattle.wb_keeping.specs.Laws.{Came, KeptLine, Ticked, doing_of, fault_of}
use Rattle.wb_keeping.specs.Performing.{Keeping, after_doing, after_line, after_lines, sees, sent_by_doing, view_of}
use Rattle.wb_keeping.specs.Views.{holds as holds_by, is_asked}
use Rattle.wb_keeping.specs.Refusing.{is_unknown}
use Rattle.wb_keeping.specs.declared.kept_fault.KeptFault.TheVariants.{Host, Ours}
use Rattle.wb_keeping.proofs.EachStep.{having}
use Rattle.wb_keeping.proofs.Performed.{then_after, then_sent}
use Rattle.wb_kept_progress.specs.Repairs.{AskedCanCome, IsBrought, IsLost, host_at, repair}
use Rattle.wb_kept_progress.specs.Sessions.{AreHosts, AreSent, AreTaken, At, Opening, WasSent, at, kept_at, sent_since}
use Rattle.wb_kept_progress.proofs.Going.{Goes, kept_goes, line_goes}
use Rattle.wb_kept_progress.proofs.Lines.{IsOf, Rests, line_rests, lines_grow, lines_of, IsSmall, are_small, does_rest, rests_then}
use Rattle.wb_keeping.proofs.EachLine.{learned_each, timed_each}

-- ---- one line of a self-managing host

pub tick_rests : (now : ℕ) (k : Keeping) → Rests (ticked now k.host) (after_doing (ticks now) k).host
tick_rests now k =
    subst (λ (m : Keeping). Rests (ticked now k.host) m.host) (sym (then_after (performs (Calls (calls.Tick now))) timed k))
    (does_rest timed (timed_each IsSmall are_small) (having (Calls (calls.Tick now)) k))

pub tick_sends : (now : ℕ) (k : Keeping) (v : Datagram) → Contains (sent_by now k.host) v → Contains (sent_by_doing (ticks now) k) v
tick_sends now k v c =
    let m = having (Calls (calls.Tick now)) k in
    subst (λ (s : List Datagram). Contains s v) (sym (then_sent (performs (Calls (calls.Tick now))) timed k))
    (Contains-append_left (sent_by now k.host ++ []) (sent_by_doing timed m) v (Contains-append_left (sent_by now k.host) [] v c))

pub came_after : (now : ℕ) (v : Datagram) (k : Keeping) → after_doing (came now v) k ≡ after_doing timed (after_doing (hears v) (having (Calls (calls.Tick now)) k))
came_after now v k = then_after (performs (Calls (calls.Tick now))) (and_then (hears v) timed) k ∙ then_after (hears v) timed (having (Calls (calls.Tick now)) k)

-- it hears a request of another
abbrev done : Keeping → Doing → Keeping
done k d = record { host = after_lines d.lines k.host; policy = d.policy }

-- whose delay counts for a request
abbrev heard_source : ℕ → NameValue → Opened → ℕ
heard_source asker n host = cond (holds_by (view_of host) n) asker n.source

-- a host while the usual delay is lent to a source, where that told none
abbrev lending_host : ℕ → ℕ → Opened → Opened
lending_host source usual host = cond (nat_eq ((view_of host).delay source) UNKNOWN_DELAY) (after_line (Calls (calls.SetDelay source usual)) host) host

pub request_rests : (now asker : ℕ) (n : NameValue) (k : Keeping) → (asker ≡ k.host.is.number → ⊥)
    → let host = ticked now k.host in
    Rests (after_line (Calls (calls.Hear (Request asker n))) (lending_host (heard_source asker n host) k.policy.usual host)) (after_doing (came now (Request asker n)) k).host
request_rests now asker n k other = subst (λ (x : Keeping). Rests (after_line line (lending_host source k.policy.usual m.host)) x.host) (sym there) (by (nat_eq ((view_of m.host).delay source) UNKNOWN_DELAY)) where
  m : Keeping
  m = having (Calls (calls.Tick now)) k

  line : Line
  line = Calls (calls.Hear (Request asker n))

  source : ℕ
  source = heard_source asker n m.host

  with_it : Bool → Doing
  with_it lends = record { policy = k.policy; lines = cond lends (Calls (calls.SetDelay source k.policy.usual) ∷ line ∷ Calls (calls.SetDelay source UNKNOWN_DELAY) ∷ []) (line ∷ []) }

  heard_so : after_doing (hears (Request asker n)) m ≡ done m (with_it (nat_eq ((view_of m.host).delay source) UNKNOWN_DELAY))
  heard_so = ap (λ (b : Bool). done m (cond b (still (sees m.host) m.policy) (hears_request asker n (sees m.host) m.policy))) (false_from_ne_true (nat_eq asker k.host.is.number) (λ same. other (eqb-true asker k.host.is.number same)))

  there : after_doing (came now (Request asker n)) k ≡ after_doing timed (done m (with_it (nat_eq ((view_of m.host).delay source) UNKNOWN_DELAY)))
  there = came_after now (Request asker n) k ∙ ap (after_doing timed) heard_so

  by : (lends : Bool) → Rests (after_line line (cond lends (after_line (Calls (calls.SetDelay source k.policy.usual)) m.host) m.host)) (after_doing timed (done m (with_it lends))).host
  by true =
      let g = after_line line (after_line (Calls (calls.SetDelay source k.policy.usual)) m.host) in
      let last = done m (with_it true) in
      rests_then g last.host (after_doing timed last).host (line_rests (Calls (calls.SetDelay source UNKNOWN_DELAY)) g tt) (does_rest timed (timed_each IsSmall are_small) last)
  by false = does_rest timed (timed_each IsSmall are_small) (done m (with_it false))

-- a drawop that is not held is taken into a lt-ltb cell
fresh : (cells k : ℕ) (h : List DrawopValue) (d : DrawopValue) → holds h d.name ≡ false → k + length h < cells → (place : ℕ) × (outcome_from cells k h d ≡ New place)
fresh cells k [] d lost room = (k, ap (λ (b : Bool). cond b (New k) Left) (lt-ltb k cells (omega arith)))
fresh cells k (x ∷ h) d lost room = from (fresh cells (k + 1) h d) (same_name x.name d.name) lost where
  from : (holds h d.name ≡ false → k + 1 + length h < cells → (place : ℕ) × (outcome_from cells (k + 1) h d ≡ New place)) → (b : Bool) → (b || holds h d.name) ≡ false → (place : ℕ) × (cond b (cond (same_drawop x d) (Again k) (Clash k)) (outcome_from cells (k + 1) h d) ≡ New place)
  from rest true e = absurd (true≢false e)
  from rest false e = rest e (omega (arith, room))

pub taken_in : (host : Opened) (d : DrawopValue) → holds host.is.held d.name ≡ false → is_full host ≡ false → (after_line (Arrives d) host).is.held ≡ host.is.held ++ d ∷ []
taken_in host d lost room =
    let lt = leb-false host.is.cells (length host.is.held) room in
    let f = fresh host.is.cells 0 host.is.held d lost (omega (arith, lt)) in
    ap (history_with host.is.held d) f.1

pub drawop_held : (now : ℕ) (d : DrawopValue) (k : Keeping) → holds k.host.is.held d.name ≡ false → is_full k.host ≡ false → (after_doing (came now (Draw d)) k).host.is.held ≡ k.host.is.held ++ d ∷ []
drawop_held now d k lost room =
    let m = having (Calls (calls.Tick now)) k in
    let asked = is_asked (view_of m.host) d.name in
    let second = learned d.name asked in
    let new = and_then (performs (Arrives d)) second in
    let taken_so : after_doing (takes d) m ≡ after_doing new m =
    ap (λ (b : Bool). done m (cond (b || is_full k.host) (performs (Arrives d) (sees m.host) m.policy) (new (sees m.host) m.policy))) lost
    ∙ ap (λ (b : Bool). done m (cond b (performs (Arrives d) (sees m.host) m.policy) (new (sees m.host) m.policy))) room in
    let there : after_doing (came now (Draw d)) k ≡ after_doing timed (after_doing second (having (Arrives d) m)) = came_after now (Draw d) k ∙ ap (after_doing timed) (taken_so ∙ then_after (performs (Arrives d)) second m) in
    let g = having (Arrives d) m in
    let h = after_doing second g in
    let one = does_rest second (learned_each IsSmall are_small d.name asked) g in
    let two = does_rest timed (timed_each IsSmall are_small) h in
    ap (λ (x : Keeping). x.host.is.held) there ∙ two.held ∙ one.held ∙ taken_in m.host d lost room

-- ---- no line is refused

pub tick_in_time : (k : Keeping) (now : ℕ) → present k.host ≤ now → fault_of (Ticked now) k ≡ None
tick_in_time k now le = ap (λ (b : Bool). first_of (fault_unless b (Host BackInTime) ∷ [])) (le-leb (present k.host) now le)

request_in_time : (k : Keeping) (now asker : ℕ) (n : NameValue) → present k.host ≤ now → fault_of (Came now (Request asker n)) k ≡ None
request_in_time k now asker n le = ap (λ (b : Bool). first_of (fault_unless b (Host BackInTime) ∷ fault_unless true Ours ∷ [])) (le-leb (present k.host) now le)

pub session_in_time : (k : Keeping) (now sender sent : ℕ) (page : PageId) (marks : List MarkValue) (echoes : List Echo) → present k.host ≤ now → fault_of (Came now (Session sender sent page marks echoes)) k ≡ None
session_in_time k now sender sent page marks echoes le = ap (λ (b : Bool). first_of (fault_unless b (Host BackInTime) ∷ fault_unless true Ours ∷ [])) (le-leb (present k.host) now le)

drawop_in_time : (k : Keeping) (now : ℕ) (d : DrawopValue) → present k.host ≤ now → is_unknown d.name k.host ≡ false → fault_of (Came now (Draw d)) k ≡ None
drawop_in_time k now d le known =
    ap (λ (b : Bool). first_of (fault_unless b (Host BackInTime) ∷ fault_unless (not (is_unknown d.name k.host)) Ours ∷ [])) (le-leb (present k.host) now le)
    ∙ ap (λ (b : Bool). first_of (None ∷ fault_unless (not b) Ours ∷ [])) known

-- ---- a host after lines

pub record IsFine (k : Keeping) : Type 0 where
  pub goes : Goes k
  pub once : IsHistory k.host.is.held
  pub constants : are_constants k.host.is.constants ≡ true

pub fine_next : (line : KeptLine) (k : Keeping) → fault_of line k ≡ None → IsFine k → IsFine (after_doing (doing_of line) k)
fine_next line k none f =
    let lines = (doing_of line (sees k.host) k.policy).lines in
    record {
      goes = line_goes line k none f.goes;
      once = (lines_grow lines k.host).once f.once;
      constants = subst (λ (t : Tuning). are_constants t ≡ true) (sym (lines_of lines k.host).constants) f.constants;
    }

module _ (hosts : ℕ → Opening) where
  pub of_opening : (lines : List (At KeptLine)) (i : ℕ) → IsOf (opened_with (hosts i).constants (hosts i).number (hosts i).cells (hosts i).seed) (host_at hosts lines i)
  of_opening [] i = lines_of (ticks_at (hosts i).moments) (opened_with (hosts i).constants (hosts i).number (hosts i).cells (hosts i).seed)
  of_opening (e ∷ older) i = by (of_opening older i) (nat_eq e.place i) where
    start : Opened
    start = opened_with (hosts i).constants (hosts i).number (hosts i).cells (hosts i).seed

    k : Keeping
    k = kept_at hosts older i

    by : IsOf start k.host → (b : Bool) → IsOf start (cond b (after_doing (doing_of e.event) k) k).host
    by rest false = rest
    by rest true =
        let one = lines_of (doing_of e.event (sees k.host) k.policy).lines k.host in
        record { number = one.number ∙ rest.number; cells = one.cells ∙ rest.cells; constants = one.constants ∙ rest.constants }

  pub held_once : (lines : List (At KeptLine)) (i : ℕ) → IsHistory (host_at hosts lines i).is.held
  held_once [] i = (lines_grow (ticks_at (hosts i).moments) (opened_with (hosts i).constants (hosts i).number (hosts i).cells (hosts i).seed)).once (λ j k d jk lt. absurd (omega arith))
  held_once (e ∷ older) i = by (held_once older i) (nat_eq e.place i) where
    k : Keeping
    k = kept_at hosts older i

    by : IsHistory k.host.is.held → (b : Bool) → IsHistory (cond b (after_doing (doing_of e.event) k) k).host.is.held
    by once false = once
    by once true = (lines_grow (doing_of e.event (sees k.host) k.policy).lines k.host).once once

  pub fine_at : AreHosts hosts → (lines : List (At KeptLine)) → AreTaken hosts lines → (i : ℕ) → IsFine (kept_at hosts lines i)
  fine_at are lines taken i = record {
    goes = kept_goes hosts are lines taken i;
    once = held_once lines i;
    constants = subst (λ (t : Tuning). are_constants t ≡ true) (sym (of_opening lines i).constants) (are.in_range i);
  }

-- ---- one line of a session

pub is_itself : (n : ℕ) → nat_eq n n ≡ true
is_itself n = grind (arith, nat_tests)

-- two hosts, and the lines so far
pub record Stage (hosts : ℕ → Opening) (start newer : List (At KeptLine)) (i j : ℕ) (one other : Keeping) : Type 0 where
  pub taken : AreTaken hosts (newer ++ start)
  pub sent : AreSent hosts newer start
  pub here : kept_at hosts (newer ++ start) i ≡ one
  pub there : kept_at hosts (newer ++ start) j ≡ other

module _ (hosts : ℕ → Opening) (older : List (At KeptLine)) where
  pub idle : (e : At KeptLine) (k : ℕ) → (e.place ≡ k → ⊥) → kept_at hosts (e ∷ older) k ≡ kept_at hosts older k
  idle e k other = ap (λ (b : Bool). cond b (after_doing (doing_of e.event) (kept_at hosts older k)) (kept_at hosts older k)) (false_from_ne_true (nat_eq e.place k) (λ h. other (eqb-true e.place k h)))

  pub moved : (i : ℕ) (line : KeptLine) → kept_at hosts (at i line ∷ older) i ≡ after_doing (doing_of line) (kept_at hosts older i)
  moved i line = ap (λ (b : Bool). cond b (after_doing (doing_of line) (kept_at hosts older i)) (kept_at hosts older i)) (is_itself i)

module _ (hosts : ℕ → Opening) (newer start : List (At KeptLine)) where
  abbrev older : List (At KeptLine)
  older = newer ++ start

  pub did_send : (i : ℕ) (line : KeptLine) (k : Keeping) (v : Datagram) → kept_at hosts older i ≡ k → Contains (sent_by_doing (doing_of line) k) v → Contains (sent_since hosts (at i line ∷ newer) start) v
  did_send i line k v is c = Contains-append_left (sent_by_doing (doing_of line) (kept_at hosts older i)) (sent_since hosts newer start) v (subst (λ (m : Keeping). Contains (sent_by_doing (doing_of line) m) v) (sym is) c)

  pub still_sent : (e : At KeptLine) (v : Datagram) → Contains (sent_since hosts newer start) v → Contains (sent_since hosts (e ∷ newer) start) v
  still_sent e v c = Contains-append_right (sent_by_doing (doing_of e.event) (kept_at hosts older e.place)) (sent_since hosts newer start) v c

  module _ (i j : ℕ) (differ : i ≡ j → ⊥) (one other : Keeping) (s : Stage hosts start newer i j one other) (line : KeptLine) (was : WasSent (sent_since hosts newer start) line) where
    pub first_next : fault_of line one ≡ None → Stage hosts start (at i line ∷ newer) i j (after_doing (doing_of line) one) other
    first_next none = record {
      taken = (subst (λ (k : Keeping). fault_of line k ≡ None) (sym s.here) none, s.taken);
      sent = (was, s.sent);
      here = moved hosts older i line ∙ ap (after_doing (doing_of line)) s.here;
      there = idle hosts older (at i line) j differ ∙ s.there;
    }

    pub second_next : fault_of line other ≡ None → Stage hosts start (at j line ∷ newer) i j one (after_doing (doing_of line) other)
    second_next none = record {
      taken = (subst (λ (k : Keeping). fault_of line k ≡ None) (sym s.there) none, s.taken);
      sent = (was, s.sent);
      here = idle hosts older (at j line) i (λ e. differ (sym e)) ∙ s.here;
      there = moved hosts older j line ∙ ap (after_doing (doing_of line)) s.there;
    }

-- ---- the one that holds it

-- a drawop that it holds, and a request of another
module _ (o : Keeping) (fine : IsFine o) (d : DrawopValue) (held : Contains o.host.is.held d) (asker : ℕ) (another : asker ≡ o.host.is.number → ⊥) where
  abbrev pub first : ℕ
  first = present o.host + answering_wait

  abbrev pub second : ℕ
  second = first + quiet_wait

  abbrev pub third : ℕ
  third = second + answering_wait

  abbrev n : NameValue
  n = d.name

  abbrev pub o1 : Keeping
  o1 = after_doing (ticks first) o

  abbrev pub o2 : Keeping
  o2 = after_doing (ticks second) o1

  abbrev pub o3 : Keeping
  o3 = after_doing (came second (Request asker n)) o2

  abbrev timers : Opened → Timers
  timers host = timers_of host.is.constants (events host) n

  abbrev words : ℕ → Opened → List ℕ
  words now host = words_of host.random (due_count now host)

  has : (host : Opened) → Contains host.is.held d → holds host.is.held n ≡ true
  has host c = holds_from host.is.held n d c refl

  -- told the time once, no timer of the name stands
  r1 : Rests (ticked first o.host) o1.host
  r1 = tick_rests first o

  pub none_1 : fault_of (Ticked first) o ≡ None
  none_1 = tick_in_time o first (le-add_right (present o.host) answering_wait)

  fine_1 : IsFine o1
  fine_1 = fine_next (Ticked first) o none_1 fine

  idle_h1 : IsIdle (timers (ticked first o.host))
  idle_h1 = ticks_clear o.host.is.number o.host.is.constants o.host.is.calls o.host.is.held first (words first o.host) n (has o.host held) (answers_are_soon o.host.is.number o.host.is.constants o.host.is.calls n fine.constants fine.goes.orderly)

  idle_1 : IsIdle (timers o1.host)
  idle_1 = subst IsIdle (sym (r1.timers n (has o.host held) idle_h1.ask)) idle_h1

  held_1 : Contains o1.host.is.held d
  held_1 = subst (λ (h : List DrawopValue). Contains h d) (sym r1.held) held

  -- told it once more, it is not quiet either
  r2 : Rests (ticked second o1.host) o2.host
  r2 = tick_rests second o1

  pub none_2 : fault_of (Ticked second) o1 ≡ None
  none_2 = tick_in_time o1 second (subst (λ (x : ℕ). x ≤ second) (sym r1.now) (le-add_right first quiet_wait))

  fine_2 : IsFine o2
  fine_2 = fine_next (Ticked second) o1 none_2 fine_1

  same_h2 : timers (ticked second o1.host) ≡ timers o1.host
  same_h2 = ticks_leave o1.host.is.number o1.host.is.constants o1.host.is.calls o1.host.is.held second (words second o1.host) n idle_1

  same_2 : timers o2.host ≡ timers o1.host
  same_2 = r2.timers n (has o1.host held_1) (ap (λ (s : Timers). s.ask) same_h2 ∙ idle_1.ask) ∙ same_h2

  idle_2 : IsIdle (timers o2.host)
  idle_2 = subst IsIdle (sym same_2) idle_1

  quiet_2 : (timers o2.host).quiet ≤ second
  quiet_2 =
      let le = (keepers_are_bounded o1.host.is.number o1.host.is.constants o1.host.is.calls fine_1.constants fine_1.goes.orderly n).answers.quiet in
      let now : present o1.host ≡ first = r1.now in
      let e : (timers o2.host).quiet ≡ (timers o1.host).quiet = ap (λ (s : Timers). s.quiet) same_2 in
      omega (arith, le, now, e)

  held_2 : Contains o2.host.is.held d
  held_2 = subst (λ (h : List DrawopValue). Contains h d) (sym r2.held) held_1

  -- it hears the request, and an answer timer stands
  number_2 : o2.host.is.number ≡ o.host.is.number
  number_2 = (lines_of (ticks second (sees o1.host) o1.policy).lines o1.host).number ∙ (lines_of (ticks first (sees o.host) o.policy).lines o.host).number

  another_2 : asker ≡ o2.host.is.number → ⊥
  another_2 e = another (e ∙ number_2)

  abbrev h3 : Opened
  h3 = ticked second o2.host

  same_h3 : timers h3 ≡ timers o2.host
  same_h3 = ticks_leave o2.host.is.number o2.host.is.constants o2.host.is.calls o2.host.is.held second (words second o2.host) n idle_2

  idle_h3 : IsIdle (timers h3)
  idle_h3 = subst IsIdle (sym same_h3) idle_2

  quiet_h3 : (timers h3).quiet ≤ second
  quiet_h3 =
      let le = quiet_2 in
      let e : (timers h3).quiet ≡ (timers o2.host).quiet = ap (λ (s : Timers). s.quiet) same_h3 in
      omega (arith, le, e)

  -- what a host is once it heard the request
  record Heard (host next : Opened) : Type 0 where
    held_is : next.is.held ≡ host.is.held
    now_is : present next ≡ present host
    timer : AnswerTimer
    timers_are : timers next ≡ record { ask = None; answer = Some timer; quiet = (timers host).quiet }

  hears_it : (host : Opened) → present host ≡ second → host.is.held ≡ o2.host.is.held → (asker ≡ host.is.number → ⊥) → IsIdle (timers host) → (timers host).quiet ≤ second → Heard host (after_line (Calls (calls.Hear (Request asker n))) host)
  hears_it host now same apart idle quiet = subst (Heard host) (sym heard_so) (record {
    held_is = refl;
    now_is = refl;
    timer = new_answer (constants_at host.is.number host.is.constants host.is.calls) (present host) (delay_to host.is.number host.is.calls asker) (word_at (Request asker n) host.random);
    timers_are =
        ap (λ (b : Bool). timers_of host.is.constants (events_of host.is.number (Hear (present host) (Request asker n) (word_at (Request asker n) host.random) b ∷ host.is.calls)) n) (ap (λ (h : List DrawopValue). holds h n) same ∙ has o2.host held_2)
        ∙ requests_set host.is.number host.is.constants host.is.calls (present host) asker (word_at (Request asker n) host.random) n apart idle (subst (λ (t : ℕ). (timers host).quiet ≤ t) (sym now) quiet);
  }) where
    heard_so : after_line (Calls (calls.Hear (Request asker n))) host ≡ heard (Request asker n) host
    heard_so = ap (λ (b : Bool). cond b (heard (Request asker n) host) host) (or-true (is_own host.is.number (Request asker n)))

  abbrev g3 : Opened
  g3 = after_line (Calls (calls.Hear (Request asker n))) (lending_host (heard_source asker n h3) o2.policy.usual h3)

  heard_3 : Heard h3 g3
  heard_3 = by (nat_eq ((view_of h3).delay (heard_source asker n h3)) UNKNOWN_DELAY) where
    lent : Opened
    lent = after_line (Calls (calls.SetDelay (heard_source asker n h3) o2.policy.usual)) h3

    by : (b : Bool) → Heard h3 (after_line (Calls (calls.Hear (Request asker n))) (cond b lent h3))
    by true = let h = hears_it lent refl refl another_2 idle_h3 quiet_h3 in record { held_is = h.held_is; now_is = h.now_is; timer = h.timer; timers_are = h.timers_are }
    by false = hears_it h3 refl refl another_2 idle_h3 quiet_h3

  abbrev answer : AnswerTimer
  answer = heard_3.timer

  r3 : Rests g3 o3.host
  r3 = request_rests second asker n o2 another_2

  held_o3 : o3.host.is.held ≡ o2.host.is.held
  held_o3 = r3.held ∙ heard_3.held_is

  now_o3 : present o3.host ≡ second
  now_o3 = r3.now ∙ heard_3.now_is

  pub none_3 : fault_of (Came second (Request asker n)) o2 ≡ None
  none_3 = request_in_time o2 second asker n (subst (λ (x : ℕ). x ≤ second) (sym r2.now) (le_refl second))

  fine_3 : IsFine o3
  fine_3 = fine_next (Came second (Request asker n)) o2 none_3 fine_2

  held_3 : Contains o3.host.is.held d
  held_3 = subst (λ (h : List DrawopValue). Contains h d) (sym held_o3) held_2

  timers_3 : timers o3.host ≡ record { ask = None; answer = Some answer; quiet = (timers h3).quiet }
  timers_3 =
      let there : holds g3.is.held n ≡ true = ap (λ (h : List DrawopValue). holds h n) heard_3.held_is ∙ has o2.host held_2 in
      r3.timers n there (ap (λ (s : Timers). s.ask) heard_3.timers_are) ∙ heard_3.timers_are

  due_3 : is_answer_due third (timers o3.host).answer ≡ true
  due_3 =
      let soon = answers_are_soon o3.host.is.number o3.host.is.constants o3.host.is.calls n fine_3.constants fine_3.goes.orderly in
      let le = subst (λ (a : Option AnswerTimer). IfSome a (λ answer. answer.due ≤ present o3.host + answering_wait)) (ap (λ (s : Timers). s.answer) timers_3) soon in
      let now : present o3.host ≡ second = now_o3 in
      ap (λ (s : Timers). is_answer_due third s.answer) timers_3 ∙ le-leb answer.due third (omega (arith, le, now))

  pub none_4 : fault_of (Ticked third) o3 ≡ None
  none_4 = tick_in_time o3 third (subst (λ (x : ℕ). x ≤ third) (sym now_o3) (le-add_right second answering_wait))

  pub kept_4 : (after_doing (ticks third) o3).host.is.held ≡ o.host.is.held
  kept_4 = (tick_rests third o3).held ∙ held_o3 ∙ r2.held ∙ r1.held

  pub sends_it : Contains (sent_by_doing (ticks third) o3) (Draw d)
  sends_it = tick_sends third o3 (Draw d) (ticks_answer o3.host.is.number o3.host.is.constants o3.host.is.calls o3.host.is.held third d fine_3.once held_3 (ap (λ (s : Timers). s.ask) timers_3) due_3)

-- one that holds a drawop is not the one that lacks it
pub places_differ : (hosts : ℕ → Opening) (older : List (At KeptLine)) (i j : ℕ) (d : DrawopValue) → IsLost hosts older i j d → i ≡ j → ⊥
places_differ hosts older i j d lost e = true≢false (sym (holds_from (host_at hosts older j).is.held d.name d lost.held refl) ∙ ap (λ (p : ℕ). holds (host_at hosts older p).is.held d.name) (sym e) ∙ lost.lost)

-- ---- the six lines

module _ (hosts : ℕ → Opening) (older : List (At KeptLine)) (i j : ℕ) (d : DrawopValue) (are : AreHosts hosts) (taken : AreTaken hosts older) (lost : IsLost hosts older i j d) (asked : asks_for d.name (host_at hosts older i) ≡ true) where
  abbrev k : Keeping
  k = kept_at hosts older i

  abbrev o : Keeping
  o = kept_at hosts older j

  abbrev me : ℕ
  me = k.host.is.number

  abbrev asking : ℕ
  asking = present k.host + asking_wait

  apart : i ≡ j → ⊥
  apart = places_differ hosts older i j d lost

  numbers : me ≡ o.host.is.number → ⊥
  numbers e = apart (are.distinct i j (sym (of_opening hosts older i).number ∙ e ∙ (of_opening hosts older j).number))

  fine_k : IsFine k
  fine_k = fine_at hosts are older taken i

  fine_o : IsFine o
  fine_o = fine_at hosts are older taken j

  abbrev k1 : Keeping
  k1 = after_doing (ticks asking) k

  rests : Rests (ticked asking k.host) k1.host
  rests = tick_rests asking k

  requests : Contains (sent_by_doing (ticks asking) k) (Request me d.name)
  requests = tick_sends asking k (Request me d.name) (asker_asks me k.host.is.constants k.host.is.calls k.host.is.held d.name fine_k.constants fine_k.goes.orderly lost.lost asked)

  abbrev p1 : Keeping
  p1 = o1 o fine_o d lost.held me numbers

  abbrev p2 : Keeping
  p2 = o2 o fine_o d lost.held me numbers

  abbrev p3 : Keeping
  p3 = o3 o fine_o d lost.held me numbers

  abbrev t1 : ℕ
  t1 = present o.host + answering_wait

  abbrev t2 : ℕ
  t2 = t1 + quiet_wait

  abbrev t3 : ℕ
  t3 = t2 + answering_wait

  abbrev n1 : List (At KeptLine)
  n1 = at i (Ticked asking) ∷ []

  abbrev n2 : List (At KeptLine)
  n2 = at j (Ticked t1) ∷ n1

  abbrev n3 : List (At KeptLine)
  n3 = at j (Ticked t2) ∷ n2

  abbrev n4 : List (At KeptLine)
  n4 = at j (Came t2 (Request me d.name)) ∷ n3

  abbrev n5 : List (At KeptLine)
  n5 = at j (Ticked t3) ∷ n4

  stage_0 : Stage hosts older [] i j k o
  stage_0 = record { taken = taken; sent = tt; here = refl; there = refl }

  stage_1 : Stage hosts older n1 i j k1 o
  stage_1 = first_next hosts [] older i j apart k o stage_0 (Ticked asking) tt (tick_in_time k asking (le-add_right (present k.host) asking_wait))

  sent_1 : Contains (sent_since hosts n1 older) (Request me d.name)
  sent_1 = did_send hosts [] older i (Ticked asking) k (Request me d.name) refl requests

  stage_2 : Stage hosts older n2 i j k1 p1
  stage_2 = second_next hosts n1 older i j apart k1 o stage_1 (Ticked t1) tt (none_1 o fine_o d lost.held me numbers)

  stage_3 : Stage hosts older n3 i j k1 p2
  stage_3 = second_next hosts n2 older i j apart k1 p1 stage_2 (Ticked t2) tt (none_2 o fine_o d lost.held me numbers)

  sent_3 : Contains (sent_since hosts n3 older) (Request me d.name)
  sent_3 = still_sent hosts n2 older (at j (Ticked t2)) (Request me d.name) (still_sent hosts n1 older (at j (Ticked t1)) (Request me d.name) sent_1)

  stage_4 : Stage hosts older n4 i j k1 p3
  stage_4 = second_next hosts n3 older i j apart k1 p2 stage_3 (Came t2 (Request me d.name)) sent_3 (none_3 o fine_o d lost.held me numbers)

  stage_5 : Stage hosts older n5 i j k1 (after_doing (ticks t3) p3)
  stage_5 = second_next hosts n4 older i j apart k1 p3 stage_4 (Ticked t3) tt (none_4 o fine_o d lost.held me numbers)

  sent_5 : Contains (sent_since hosts n5 older) (Draw d)
  sent_5 = did_send hosts n4 older j (Ticked t3) p3 (Draw d) stage_4.there (sends_it o fine_o d lost.held me numbers)

  -- what it holds, and whose it is, is as before
  same_of : IsOf k.host k1.host
  same_of = lines_of (ticks asking (sees k.host) k.policy).lines k.host

  lost_1 : holds k1.host.is.held d.name ≡ false
  lost_1 = ap (λ (h : List DrawopValue). holds h d.name) rests.held ∙ lost.lost

  room_1 : is_full k1.host ≡ false
  room_1 = ap (λ (h : List DrawopValue). nat_le k1.host.is.cells (length h)) rests.held ∙ ap (λ (c : ℕ). nat_le c (length k.host.is.held)) same_of.cells ∙ lost.room

  known_1 : is_unknown d.name k1.host ≡ false
  known_1 = same ∙ lost.known where
    same : is_unknown d.name k1.host ≡ is_unknown d.name k.host
    same = ap (λ (h : List DrawopValue). is_unknown d.name (with_held h)) rests.held ∙ ap (λ (m : ℕ). is_unknown d.name (with_number m)) same_of.number where
      with_held : List DrawopValue → Opened
      with_held h = record { is = record k1.host.is { held = h }; random = k1.host.random }

      with_number : ℕ → Opened
      with_number m = record { is = record k.host.is { number = m }; random = k.host.random }

  stage_6 : Stage hosts older (at i (Came asking (Draw d)) ∷ n5) i j (after_doing (came asking (Draw d)) k1) (after_doing (ticks t3) p3)
  stage_6 = first_next hosts n5 older i j apart k1 (after_doing (ticks t3) p3) stage_5 (Came asking (Draw d)) sent_5 (drawop_in_time k1 asking d (subst (λ (x : ℕ). x ≤ asking) (sym rests.now) (le_refl asking)) known_1)

  pub brought : IsBrought hosts (repair i j (host_at hosts older i) (host_at hosts older j) d) older i j d
  brought = record {
    taken = stage_6.taken;
    sent = stage_6.sent;
    held = ap (λ (m : Keeping). m.host.is.held) stage_6.here ∙ drawop_held asking d k1 lost_1 room_1 ∙ ap (λ (h : List DrawopValue). h ++ d ∷ []) rests.held;
    kept = ap (λ (m : Keeping). m.host.is.held) stage_6.there ∙ kept_4 o fine_o d lost.held me numbers;
  }

pub asked_can_come : AskedCanCome
asked_can_come hosts older i j d are taken lost asked = brought hosts older i j d are taken lost asked
