-- Tests of a session that compute, and what they tell: it keeps to the terms, and how much its boards have.
use Rattle.std.proofs.Common.{◌≡◌, ◌≢◌, ℕ, ◌+◌, ◌*◌, ◌-◌, ◌^◌, ◌<◌, ◌≤◌, Bool, true, false, not, ◌&&◌, ◌||◌, List, [], ◌∷◌, ◌++◌, ap, arith, eqb-true, inl, is_none, length, nat_eq, nat_le, nat_lt, refl, subst, sym, true≢false, ⊎_elim}
use Rattle.std.specs.Prelude.{Contains}
use Rattle.std.proofs.lemmas.Bool.{and_parts, leb-true, ltb-true, or_cases, not-true}
use Rattle.std.proofs.lemmas.List.Elements.{Contains-append_right}
use Rattle.wb_names.specs.Values.{DrawopValue}
use Rattle.wb_names.specs.declared.name.PageId.{PageId}
use Rattle.wb_names.specs.declared.parts.Op.{Op}
use Rattle.wb_names.proofs.Listings.{Contains-here}
use Rattle.wb_codec.specs.declared.datagram.Datagram.{Datagram}
use Rattle.wb_judge.proofs.Stepping.{none_of}
use Rattle.wb_recovery.specs.declared.tuning.Tuning.{Tuning}
use Rattle.wb_gaps.specs.Holes.{holes_of}
use Rattle.wb_gaps.specs.declared.holes.Hole.{Hole}
use Rattle.wb_progress.specs.Bounds.{IsUnder}
use Rattle.wb_progress.specs.Turns.{IsNowAt, Terms, longest, settled_by}
use Rattle.wb_member.specs.Judged.{is_full}
use Rattle.wb_member.specs.Opened.{present}
use Rattle.wb_policy.specs.Fairness.{slices_of, slices_on}
use Rattle.wb_keeping.specs.Laws.{KeptLine, Came, Ticked, Added, Tuned, fault_of}
use Rattle.wb_keeping.specs.Performing.{due}
use Rattle.wb_kept_progress.specs.Sessions.{AreTaken, DoNotGoBack, Opening, opened_host}
use Rattle.wb_kept_progress.specs.Timed.{AreInOrder, At, SaysNow, TellTimes, time_of}
use Rattle.wb_kept_progress.specs.Whole.{AreWithin, IsHandedIn, IsTimelySessionBut, Sizes, WasSentBy, sends_then, there}
use Rattle.wb_kept_progress.proofs.SameDatagrams.{same_datagram, same_datagram-is}
use Rattle.wb_kept_progress.proofs.Testing.{each, each-at, parts, parts-at, some, some-at, splits, splits-at}

-- an element of a list that is split there
pub in_middle : {X : Type 0} (xs front : List X) (x : X) (back : List X) → xs ≡ front ++ x ∷ back → Contains xs x
in_middle {X = X} xs front x back same = subst (λ (ys : List X). Contains ys x) (sym same) (Contains-append_right front (x ∷ back) x (Contains-here x back))

some_is : (i : ℕ) (is : List ℕ) → some (nat_eq i) is ≡ true → Contains is i
some_is i is one =
    let p = some-at (nat_eq i) is one in
    subst (Contains is) (sym (eqb-true i p.x p.passes)) (in_middle is p.front p.x p.back p.split)

-- ---- lines

abbrev is_drawn : KeptLine → Bool
is_drawn (Added now page time op) = true
is_drawn (Came now v) = false
is_drawn (Ticked now) = false
is_drawn (Tuned constants) = false

abbrev is_tuned : KeptLine → Bool
is_tuned (Tuned constants) = true
is_tuned (Came now v) = false
is_tuned (Ticked now) = false
is_tuned (Added now page time op) = false

-- the datagram that comes by a line passes a test
abbrev is_came : (Datagram → Bool) → KeptLine → Bool
is_came test (Came now v) = test v
is_came test (Ticked now) = false
is_came test (Added now page time op) = false
is_came test (Tuned constants) = false

came_is : (v : Datagram) (line : KeptLine) → is_came (same_datagram v) line ≡ true → (now : ℕ) × (line ≡ Came now v)
came_is v (Came now w) so = let same = same_datagram-is v w so in (now, ap (Came now) (sym same))
came_is v (Ticked now) so = absurd (true≢false (sym so))
came_is v (Added now page time op) so = absurd (true≢false (sym so))
came_is v (Tuned constants) so = absurd (true≢false (sym so))

module _ (hosts : ℕ → Opening) (terms : Terms) where
  -- from `quiet` on it is so
  abbrev pub then_is : ℕ → Bool → Bool
  then_is time test = nat_le time terms.quiet || test

  then_so : (time : ℕ) (test : Bool) → then_is time test ≡ true → terms.quiet < time → test ≡ true
  then_so time test so late = ⊎_elim
      (λ (early : nat_le time terms.quiet ≡ true). let le = leb-true time terms.quiet early in absurd (omega (arith, le, late)))
      (λ (is : test ≡ true). is)
      (or_cases (nat_le time terms.quiet) test so)

  abbrev is_now : ℕ → ℕ → ℕ → Bool
  is_now time place now = nat_le (now + terms.lag place) time && nat_le time (now + terms.lag place + terms.drift)

  now_is : (time place now : ℕ) → is_now time place now ≡ true → IsNowAt terms time place now
  now_is time place now so = let p = and_parts (nat_le (now + terms.lag place) time) _ so in record { not_ahead = leb-true _ _ p.0; not_behind = leb-true _ _ p.1 }

  abbrev says : ℕ → ℕ → KeptLine → Bool
  says time place (Came now v) = is_now time place now
  says time place (Ticked now) = is_now time place now
  says time place (Added now page t op) = is_now time place now
  says time place (Tuned constants) = true

  says_so : (time place : ℕ) (line : KeptLine) → says time place line ≡ true → SaysNow terms time place line
  says_so time place (Came now v) so = now_is time place now so
  says_so time place (Ticked now) so = now_is time place now so
  says_so time place (Added now page t op) so = now_is time place now so
  says_so time place (Tuned constants) so = tt

  -- ---- tests of lines

  -- Each says a moment of its time, none is `tuning`, and from `quiet` on each is one at a live place, and none draws.
  abbrev line_keeps : At KeptLine → Bool
  line_keeps e = says e.time e.place e.event && not (is_tuned e.event) && then_is e.time (some (nat_eq e.place) terms.live) && then_is e.time (not (is_drawn e.event))

  abbrev pub lines_keep : List (At KeptLine) → Bool
  lines_keep trace = each line_keeps trace

  record Keeps (e : At KeptLine) : Type 0 where
    says : says e.time e.place e.event ≡ true
    untuned : not (is_tuned e.event) ≡ true
    live : then_is e.time (some (nat_eq e.place) terms.live) ≡ true
    undrawn : then_is e.time (not (is_drawn e.event)) ≡ true

  keeps : (e : At KeptLine) → line_keeps e ≡ true → Keeps e
  keeps e so =
      let p = and_parts (says e.time e.place e.event && not (is_tuned e.event) && then_is e.time (some (nat_eq e.place) terms.live)) _ so in
      let q = and_parts (says e.time e.place e.event && not (is_tuned e.event)) _ p.0 in
      let r = and_parts (says e.time e.place e.event) _ q.0 in
      record { says = r.0; untuned = r.1; live = q.1; undrawn = p.1 }

  tell_times : (trace : List (At KeptLine)) → lines_keep trace ≡ true → TellTimes terms trace
  tell_times [] so = tt
  tell_times (e ∷ older) so =
      let p = and_parts (line_keeps e) (lines_keep older) so in
      (λ live. says_so e.time e.place e.event (keeps e p.0).says, tell_times older p.1)

  abbrev pub in_order : List (At KeptLine) → Bool
  in_order [] = true
  in_order (e ∷ older) = nat_le (time_of older) e.time && in_order older

  order_so : (trace : List (At KeptLine)) → in_order trace ≡ true → AreInOrder trace
  order_so [] so = tt
  order_so (e ∷ older) so = let p = and_parts (nat_le (time_of older) e.time) (in_order older) so in (leb-true _ _ p.0, order_so older p.1)

  -- ---- tests of hosts

  -- no line is refused
  abbrev pub taken : List (At KeptLine) → Bool
  taken [] = true
  taken (e ∷ older) = is_none (fault_of e.event (there hosts older e.place)) && taken older

  taken_so : (trace : List (At KeptLine)) → taken trace ≡ true → AreTaken hosts trace
  taken_so [] so = tt
  taken_so (e ∷ older) so =
      let p = and_parts (is_none (fault_of e.event (there hosts older e.place))) (taken older) so in
      (none_of (fault_of e.event (there hosts older e.place)) p.0, taken_so older p.1)

  -- each live host is called in time
  abbrev is_due : List (At KeptLine) → ℕ → ℕ → Bool
  is_due older time i = nat_le time (due (there hosts older i) + (terms.lag i + terms.late))

  abbrev pub in_time : List (At KeptLine) → Bool
  in_time [] = true
  in_time (e ∷ older) = then_is e.time (each (is_due older e.time) terms.live)

  -- each has a free cell
  abbrev is_free : List (At KeptLine) → ℕ → Bool
  is_free part i = not (is_full (there hosts part i).host)

  abbrev pub has_room : List (At KeptLine) → Bool
  has_room part = then_is (time_of part) (each (is_free part) terms.live)

  -- ---- tests of what is sent

  abbrev hands_in : ℕ → ℕ → Datagram → At KeptLine → Bool
  hands_in j by v c = nat_eq c.place j && nat_le c.time by && is_came (same_datagram v) c.event

  -- a datagram is handed in to each other live host in time
  abbrev reaches_one : List (At KeptLine) → (by place : ℕ) → Datagram → ℕ → Bool
  reaches_one newer by place v j = nat_eq place j || some (hands_in j by v) newer

  abbrev reaches : List (At KeptLine) → (by place : ℕ) → Datagram → Bool
  reaches newer by place v = each (reaches_one newer by place v) terms.live

  -- so is all that is sent by a call
  abbrev pub delivers : ℕ → List (At KeptLine) → At KeptLine → List (At KeptLine) → Bool
  delivers end newer e older =
      let by = e.time + terms.delivery in
      then_is e.time (nat_le end by || each (reaches newer by e.place) (sends_then hosts older e))

  handed_so : (newer : List (At KeptLine)) (j by : ℕ) (v : Datagram) → some (hands_in j by v) newer ≡ true → IsHandedIn newer j by v
  handed_so newer j by v so =
      let p = some-at (hands_in j by v) newer so in
      let q = and_parts (nat_eq p.x.place j && nat_le p.x.time by) _ p.passes in
      let r = and_parts (nat_eq p.x.place j) _ q.0 in
      let came = came_is v p.x.event q.1 in
      record { later = p.front; call = p.x; between = p.back; split = p.split; place = eqb-true _ _ r.0; soon = leb-true _ _ r.1; now = came.0; is = came.1 }

  -- it was sent shortly before
  abbrev was_sent : List (At KeptLine) → ℕ → Datagram → Bool
  was_sent [] time v = false
  was_sent (e ∷ before) time v = (nat_le time (e.time + terms.delivery) && some (same_datagram v) (sends_then hosts before e)) || was_sent before time v

  sent_so : (older : List (At KeptLine)) (time : ℕ) (v : Datagram) → was_sent older time v ≡ true → WasSentBy hosts older time terms.delivery v
  sent_so [] time v so = absurd (true≢false (sym so))
  sent_so (e ∷ before) time v so = ⊎_elim
      (λ (here : (nat_le time (e.time + terms.delivery) && some (same_datagram v) (sends_then hosts before e)) ≡ true).
      let p = and_parts (nat_le time (e.time + terms.delivery)) _ here in
      let q = some-at (same_datagram v) (sends_then hosts before e) p.1 in
      record {
        newer = [];
        e = e;
        before = before;
        split = refl;
        soon = leb-true _ _ p.0;
        sent = subst (Contains (sends_then hosts before e)) (sym (same_datagram-is v q.x q.passes)) (in_middle (sends_then hosts before e) q.front q.x q.back q.split);
      })
      (λ (there : was_sent before time v ≡ true).
      let w = sent_so before time v there in
      record { newer = e ∷ w.newer; e = w.e; before = w.before; split = ap (λ (t : List (At KeptLine)). e ∷ t) w.split; soon = w.soon; sent = w.sent })
      (or_cases (nat_le time (e.time + terms.delivery) && some (same_datagram v) (sends_then hosts before e)) (was_sent before time v) so)

  abbrev came_fresh : List (At KeptLine) → ℕ → KeptLine → Bool
  came_fresh older time (Came now v) = was_sent older time v
  came_fresh older time (Ticked now) = true
  came_fresh older time (Added now page t op) = true
  came_fresh older time (Tuned constants) = true

  abbrev pub is_fresh : List (At KeptLine) → Bool
  is_fresh [] = true
  is_fresh (e ∷ older) = nat_le e.time (settled_by terms) || came_fresh older e.time e.event

  fresh_so : (older : List (At KeptLine)) (e : At KeptLine) (now : ℕ) (v : Datagram) → is_fresh (e ∷ older) ≡ true → settled_by terms < e.time
      → e.event ≡ Came now v → WasSentBy hosts older e.time terms.delivery v
  fresh_so older e now v so late is = ⊎_elim
      (λ (early : nat_le e.time (settled_by terms) ≡ true). let le = leb-true _ _ early in absurd (omega (arith, le, late)))
      (λ (fresh : came_fresh older e.time e.event ≡ true). sent_so older e.time v (subst (λ (line : KeptLine). came_fresh older e.time line ≡ true) is fresh))
      (or_cases (nat_le e.time (settled_by terms)) (came_fresh older e.time e.event) so)

  -- ---- a session that passes them

  abbrev pub passes : List (At KeptLine) → Bool
  passes trace =
      lines_keep trace
      && (in_order trace && (taken trace && (parts in_time trace && (parts has_room trace && (splits (delivers (time_of trace)) [] trace && parts is_fresh trace)))))

  record Passing (trace : List (At KeptLine)) : Type 0 where
    lines : lines_keep trace ≡ true
    order : in_order trace ≡ true
    taken : taken trace ≡ true
    soon : parts in_time trace ≡ true
    room : parts has_room trace ≡ true
    delivered : splits (delivers (time_of trace)) [] trace ≡ true
    fresh : parts is_fresh trace ≡ true

  passing : (trace : List (At KeptLine)) → passes trace ≡ true → Passing trace
  passing trace so =
      let a = and_parts (lines_keep trace) _ so in
      let b = and_parts (in_order trace) _ a.1 in
      let c = and_parts (taken trace) _ b.1 in
      let d = and_parts (parts in_time trace) _ c.1 in
      let e = and_parts (parts has_room trace) _ d.1 in
      let f = and_parts (splits (delivers (time_of trace)) [] trace) _ e.1 in
      record { lines = a.0; order = b.0; taken = c.0; soon = d.0; room = e.0; delivered = f.0; fresh = f.1 }

  -- what is so before the first line
  pub record Begins : Type 0 where
    pub moments : (i : ℕ) → DoNotGoBack 0 (hosts i).moments
    pub begun : (i : ℕ) → Contains terms.live i → present (opened_host (hosts i)) + terms.lag i ≤ terms.quiet
    pub distinct : (i j : ℕ) → (hosts i).number ≡ (hosts j).number → i ≡ j
    pub waits : (i : ℕ) → Contains terms.live i → IsUnder (longest terms) (hosts i).constants
    pub covered : terms.drift ≤ terms.late

  pub session_of : {Delays : Type 0} (trace : List (At KeptLine)) → Begins → Delays → passes trace ≡ true → IsTimelySessionBut Delays hosts terms trace
  session_of trace b delays so = record {
    moments = b.moments;
    begun = b.begun;
    distinct = b.distinct;
    waits = b.waits;
    tuned = λ newer older e constants split live is. absurd (not_tuned newer older e constants split is);
    taken = taken_so trace p.taken;
    order = order_so trace p.order;
    times = tell_times trace p.lines;
    covered = b.covered;
    soon = λ newer older e i split live late. leb-true _ _ (each-at (is_due older e.time) terms.live i (then_so e.time _ (parts-at in_time trace newer (e ∷ older) p.soon split) late) live);
    delays = delays;
    alone = λ newer older e split late. some_is e.place terms.live (then_so e.time _ (line newer older e split).live late);
    drawn = λ newer older e now page time op split late is. not_drawn e.event (then_so e.time _ (line newer older e split).undrawn late) now page time op is;
    room = λ newer older i split live late. not-true _ (each-at (is_free older) terms.live i (then_so (time_of older) _ (parts-at has_room trace newer older p.room split) late) live);
    delivered = λ newer older e j v split live other late sent goes_on. inl (delivered newer older e j v split live other late sent goes_on);
    fresh = λ newer older e now v split late is. fresh_so older e now v (parts-at is_fresh trace newer (e ∷ older) p.fresh split) late is;
  } where
    p : Passing trace
    p = passing trace so

    line : (newer older : List (At KeptLine)) (e : At KeptLine) → trace ≡ newer ++ e ∷ older → Keeps e
    line newer older e split = keeps e (each-at line_keeps trace e p.lines (in_middle trace newer e older split))

    not_tuned : (newer older : List (At KeptLine)) (e : At KeptLine) (constants : Tuning) → trace ≡ newer ++ e ∷ older → e.event ≡ Tuned constants → ⊥
    not_tuned newer older e constants split is = true≢false (sym (subst (λ (l : KeptLine). not (is_tuned l) ≡ true) is (line newer older e split).untuned))

    not_drawn : (l : KeptLine) → not (is_drawn l) ≡ true → (now : ℕ) (page : PageId) (time : ℕ) (op : Op) → l ≢ Added now page time op
    not_drawn l so now page time op is = true≢false (sym (subst (λ (m : KeptLine). not (is_drawn m) ≡ true) is so))

    delivered : (newer older : List (At KeptLine)) (e : At KeptLine) (j : ℕ) (v : Datagram) → trace ≡ newer ++ e ∷ older → Contains terms.live j → e.place ≢ j → terms.quiet < e.time → Contains (sends_then hosts older e) v → e.time + terms.delivery < time_of trace
        → IsHandedIn newer j (e.time + terms.delivery) v
    delivered newer older e j v split live other late sent goes_on =
        let end = time_of trace in
        let by = e.time + terms.delivery in
        let all = then_so e.time _ (splits-at (delivers end) trace newer e older p.delivered split) late in
        ⊎_elim
        (λ (last : nat_le end by ≡ true). let le = leb-true end by last in absurd (omega (arith, le, goes_on)))
        (λ (sends : each (reaches newer by e.place) (sends_then hosts older e) ≡ true).
        ⊎_elim
        (λ (itself : nat_eq e.place j ≡ true). absurd (other (eqb-true e.place j itself)))
        (λ (handed : some (hands_in j by v) newer ≡ true). handed_so newer j by v handed)
        (or_cases (nat_eq e.place j) _ (each-at (reaches_one newer by e.place v) terms.live j (each-at (reaches newer by e.place) (sends_then hosts older e) v sends sent) live)))
        (or_cases (nat_le end by) _ all)

  -- ---- sizes

  module _ (sizes : Sizes) where
    abbrev fits : List (At KeptLine) → ℕ → Bool
    fits part i =
        let k = there hosts part i in
        nat_le (slices_of k.host.is.held + slices_on k.host.is.held k.policy.told.page) sizes.slices
        && nat_le (length (holes_of k.host.is.held)) sizes.holes
        && each (λ (hole : Hole). nat_le (hole.gap.last + 1 - hole.gap.first) sizes.numbers) (holes_of k.host.is.held)
        && nat_lt (k.policy.turns.round + 2 * sizes.numbers) (2 ^ 32)
        && each (λ (d : DrawopValue). nat_le 1 d.name.seq && nat_lt d.name.seq 2147483648) k.host.is.held

    abbrev pub all_fit : List (At KeptLine) → Bool
    all_fit part = then_is (time_of part) (each (fits part) terms.live)

    pub within_of : (trace : List (At KeptLine)) → parts all_fit trace ≡ true → AreWithin hosts terms trace sizes
    within_of trace so = record {
      slices = λ newer older i split live late. leb-true _ _ (at newer older i split live late).0;
      holes = λ newer older i split live late. leb-true _ _ (at newer older i split live late).1;
      numbers = λ newer older i hole split live late has. leb-true _ _ (each-at (λ (h : Hole). nat_le (h.gap.last + 1 - h.gap.first) sizes.numbers) _ hole (at newer older i split live late).2 has);
      rounds = λ newer older i split live late. ltb-true _ _ (at newer older i split live late).3;
      named = λ newer older i d split live late has.
          let p = and_parts (nat_le 1 d.name.seq) _ (each-at (λ (x : DrawopValue). nat_le 1 x.name.seq && nat_lt x.name.seq 2147483648) _ d (at newer older i split live late).4 has) in
          (leb-true _ _ p.0, ltb-true _ _ p.1);
    } where
      at : (newer older : List (At KeptLine)) (i : ℕ) → trace ≡ newer ++ older → Contains terms.live i → terms.quiet < time_of older
          → let k = there hosts older i in
          (nat_le (slices_of k.host.is.held + slices_on k.host.is.held k.policy.told.page) sizes.slices ≡ true)
          × (nat_le (length (holes_of k.host.is.held)) sizes.holes ≡ true)
          × (each (λ (hole : Hole). nat_le (hole.gap.last + 1 - hole.gap.first) sizes.numbers) (holes_of k.host.is.held) ≡ true)
          × (nat_lt (k.policy.turns.round + 2 * sizes.numbers) (2 ^ 32) ≡ true)
          × (each (λ (d : DrawopValue). nat_le 1 d.name.seq && nat_lt d.name.seq 2147483648) k.host.is.held ≡ true)
      at newer older i split live late =
          let s = each-at (fits older) terms.live i (then_so (time_of older) _ (parts-at all_fit trace newer older so split) late) live in
          let p = and_parts _ _ s in
          let q = and_parts _ _ p.0 in
          let r = and_parts _ _ q.0 in
          let t = and_parts _ _ r.0 in
          (t.0, t.1, r.1, q.1, p.1)
