-- In each window a live host that lacks the last number of a source, as another holds it, hears of it: the number comes, or the host asks for 64 names in the window.
use Rattle.std.proofs.Common.{◌≡◌, ℕ, zero, suc, ◌+◌, ◌*◌, ◌<◌, ◌≤◌, true, false, List, [], ◌∷◌, ◌++◌, ◌∙◌, Some, ap, append_assoc, arith, eqb-true, max, refl, subst, sym, true≢false, ⊎_elim}
use Rattle.std.specs.Prelude.{◌⊎◌, Contains, nat_eq}
use Rattle.std.proofs.lemmas.Bool.{eq-eqb}
use Rattle.std.proofs.lemmas.List.{append_cancel_right}
use Rattle.wb_names.specs.Values.{DrawopValue, NameValue}
use Rattle.wb_codec.specs.declared.datagram.Datagram.{Datagram}
use Rattle.wb_codec.specs.declared.datagram.Datagram.TheVariants.{Session}
use Rattle.wb_keeper.proofs.KeptCalls.{holds_from}
use Rattle.wb_recovery.specs.declared.timers.AskTimer.{AskTimer}
use Rattle.wb_progress.specs.InTime.{known_from, repairing}
use Rattle.wb_progress.specs.Turns.{IsNowAt, Terms, settled_by}
use Rattle.wb_progress.proofs.Giving.{held_as}
use Rattle.wb_progress.proofs.Parts.{before_end, heads, in_past, nil_ends, order_of, tails}
use Rattle.wb_member.specs.Judged.{holds}
use Rattle.wb_member.specs.Opened.{asks_for, present}
use Rattle.wb_keeping.specs.Bounds.{ask_count}
use Rattle.wb_keeping.specs.Kept.{came}
use Rattle.wb_keeping.specs.Laws.{KeptLine, doing_of, Came}
use Rattle.wb_keeping.specs.Performing.{Keeping, after_doing, sees}
use Rattle.wb_kept_progress.specs.Promises.{timer_then}
use Rattle.wb_kept_progress.specs.Rounds.{coming}
use Rattle.wb_kept_progress.specs.Sessions.{AreTaken, Opening}
use Rattle.wb_kept_progress.specs.Telling.{HaveSlices, IsTold, LastNumbersAreTold}
use Rattle.wb_kept_progress.specs.Timed.{AllHoldBehind, AreInOrder, At, IsGivenUp, IsTimely, SaysNow, Start, performed, start_of, time_of}
use Rattle.wb_kept_progress.specs.Topped.{asks_since, window_span, windows_from}
use Rattle.wb_kept_progress.specs.Whole.{HolesAreHeld, IsHandedIn, IsHeldBySome, IsTimelySession, ReportWithin, WaitAtMost, request_span, there, turn_span}
use Rattle.wb_kept_progress.proofs.AskedComes.{comes_or_is_given_up}
use Rattle.wb_kept_progress.proofs.AskedInCalls.{HasAsk}
use Rattle.wb_kept_progress.proofs.AskedStays.{stood_or_calls}
use Rattle.wb_kept_progress.proofs.Becoming.{lacked_before}
use Rattle.wb_kept_progress.proofs.CallsInTime.{performed_is_timely}
use Rattle.wb_kept_progress.proofs.Coming.{named_in}
use Rattle.wb_kept_progress.proofs.CrowdAsks.{before_newest, crowd_asks}
use Rattle.wb_kept_progress.proofs.Crowds.{crowd}
use Rattle.wb_kept_progress.proofs.Handed.{asked_both, performs_in, handed}
use Rattle.wb_kept_progress.proofs.NextDue.{ordered, there_here, told_there}
use Rattle.wb_kept_progress.proofs.NothingNew.{held_was_held}
use Rattle.wb_kept_progress.proofs.OwedAndDue.{near_there, next_by_turn, now_there, taken_of}
use Rattle.wb_kept_progress.proofs.Owing.{asked_since, without_credit}
use Rattle.wb_kept_progress.proofs.Repairs.{of_opening}
use Rattle.wb_kept_progress.proofs.ReportsCome.{reports_come}
use Rattle.wb_kept_progress.proofs.RoundCounts.{IsThen, held_before, one_more, then_at}
use Rattle.wb_kept_progress.proofs.SameReports.{still_held}
use Rattle.wb_kept_progress.proofs.StillCalls.{came_now}
use Rattle.wb_kept_progress.proofs.StillEnds.{not_still}
use Rattle.wb_kept_progress.proofs.StillOne.{IsAwake, an_ask, awake_by, begins_here, one_on}
use Rattle.wb_kept_progress.proofs.Told.{told_wants}
use Rattle.wb_kept_progress.proofs.Turning.{answers_at}
use Rattle.wb_kept_progress.proofs.WantedIn.{IsAskedInCall, LacksCredit}
use Rattle.wb_kept_progress.proofs.WantingCalls.{timer_in_call}
use Rattle.wb_kept_progress.proofs.WholeParts.{does}
use Rattle.wb_kept_progress.proofs.WindowParts.{IsInWindow, in_window}
use Rattle.wb_member.specs.Lines.{Line}

-- ---- a window

-- each of its calls comes after a time if the first does
all_after : (calls : List (At KeptLine)) (next : At KeptLine) (base : List (At KeptLine)) (time : ℕ) → AreInOrder (calls ++ next ∷ base) → time < next.time → (front rest : List (At KeptLine)) (y : At KeptLine) → calls ++ next ∷ [] ≡ front ++ y ∷ rest → time < y.time
all_after [] next base time order late [] rest y is = subst (λ (x : At KeptLine). time < x.time) (heads next y [] rest is) late
all_after [] next base time order late (x ∷ front) rest y is = absurd (nil_ends front y rest (tails next x [] (front ++ y ∷ rest) is))
all_after (x ∷ calls) next base time order late [] rest y is =
    let end = before_end calls (next ∷ base) order.1 in
    let first = order.0 in
    subst (λ (c : At KeptLine). time < c.time) (heads x y (calls ++ next ∷ []) rest is) (omega (arith, end, first, late))
all_after (x ∷ calls) next base time order late (c ∷ front) rest y is = all_after calls next base time order.1 late front rest y (tails x c (calls ++ next ∷ []) (front ++ y ∷ rest) is)

-- ---- a live host, and the last number of a source

-- Windows begin at `from`, and are `span` long.
module _ (told : LastNumbersAreTold) (hosts : ℕ → Opening) (terms : Terms) (trace : List (At KeptLine)) (since wait slices pause from span i : ℕ) (n : NameValue) (late_from : windows_from terms since wait ≤ from) (long : window_span terms slices pause ≤ span) (session : IsTimelySession hosts terms trace) (waits : WaitAtMost hosts terms trace wait)
    (reports : ReportWithin hosts terms trace since pause) (have : HaveSlices hosts terms trace slices) (live : Contains terms.live i) (held : IsHeldBySome hosts terms trace n)
    (last : (x : NameValue) → IsHeldBySome hosts terms trace x → x.page ≡ n.page → x.source ≡ n.source → x.seq ≤ n.seq) (counted : 1 ≤ n.seq) (small : n.seq < 2147483648) where
  abbrev starts : ℕ → Start
  starts j = start_of (hosts j)

  timely : IsTimely starts terms (performed hosts trace)
  timely = performed_is_timely hosts terms trace session

  abbrev telling : ℕ
  telling = 4 * slices * (pause + terms.late)

  abbrev pub at_window : ℕ → ℕ
  at_window k = from + k * span

  next_window : (k : ℕ) → at_window (suc k) ≡ at_window k + span
  next_window k = one_more from k span

  -- the one that holds it
  abbrev j : ℕ
  j = held.0

  module _ (k : ℕ) (newer part : List (At KeptLine)) (e : At KeptLine) (split : trace ≡ newer ++ e ∷ part) (ends : time_of part ≤ at_window (suc k)) (goes_on : at_window (suc k) < e.time)
      (lacks : holds (there hosts (e ∷ part) i).host n ≡ false) where
    -- from then on the credit is that of the window, and a crowd is one of it
    abbrev credited : ℕ
    credited = at_window k + (16000000 + terms.drift + request_span terms)

    -- by then it has come
    abbrev come_by : ℕ
    come_by = credited + turn_span terms + telling + terms.delivery + (request_span terms + repairing terms)

    in_time : come_by ≤ at_window (suc k)
    in_time = let r = next_window k in omega (arith, r, long)

    later_then : credited + turn_span terms + telling + terms.delivery + (request_span terms + repairing terms) < e.time
    later_then = let r = in_time in omega (arith, r, goes_on)

    pub q : IsThen (e ∷ part) credited
    q = then_at (e ∷ part) credited (let l = later_then in omega (arith, l))

    pub p : IsThen (q.next ∷ q.part) (at_window k)
    p = then_at (q.next ∷ q.part) (at_window k) (let after = q.after in omega (arith, after))

    abbrev base : List (At KeptLine)
    base = q.next ∷ q.part

    split_q : trace ≡ (newer ++ q.front) ++ base
    split_q = split ∙ ap (λ (l : List (At KeptLine)). newer ++ l) q.split ∙ sym (append_assoc newer q.front base)

    pub split_p : trace ≡ ((newer ++ q.front) ++ p.front) ++ p.next ∷ p.part
    split_p = split_q ∙ ap (λ (l : List (At KeptLine)). (newer ++ q.front) ++ l) p.split ∙ sym (append_assoc (newer ++ q.front) p.front (p.next ∷ p.part))

    upto_p : trace ≡ (((newer ++ q.front) ++ p.front) ++ p.next ∷ []) ++ p.part
    upto_p = split_p ∙ sym (append_assoc ((newer ++ q.front) ++ p.front) (p.next ∷ []) p.part)

    quiet_start : terms.quiet ≤ at_window k
    quiet_start = omega (arith, late_from)

    known_start : known_from terms + wait + repairing terms ≤ at_window k
    known_start = omega (arith, late_from)

    since_start : since ≤ at_window k
    since_start = omega (arith, late_from)

    -- the first call after that comes soon
    begins : q.next.time ≤ credited + turn_span terms
    begins =
        let after = q.after in
        let by = q.by in
        let first = quiet_start in
        let soon = next_by_turn hosts terms trace (newer ++ q.front) q.part q.next i session split_q live (omega (arith, after, first)) in
        omega (arith, soon, by, first)

    -- the calls of the window
    pub more : (w : List (At KeptLine)) × (part ≡ w ++ p.next ∷ p.part)
    more = before_newest (q.front ++ p.front) e p.next part p.part
        (q.split ∙ ap (λ (l : List (At KeptLine)). q.front ++ l) p.split ∙ sym (append_assoc q.front p.front (p.next ∷ p.part)))
        (let end = first_time in let b = begins in let l = later_then in omega (arith, end, b, l)) where
          first_time : p.next.time ≤ q.next.time
          first_time = subst (λ (l : List (At KeptLine)). p.next.time ≤ time_of l) (sym p.split)
              (before_end p.front (p.next ∷ p.part) (subst AreInOrder p.split (ordered hosts terms trace session (newer ++ q.front) base split_q)))

    abbrev pub window : List (At KeptLine)
    window = more.0 ++ p.next ∷ []

    pub whole : part ≡ window ++ p.part
    whole = more.1 ∙ sym (append_assoc more.0 (p.next ∷ []) p.part)

    -- 64 names are asked for in the window
    abbrev Many : Type 0
    Many = 64 ≤ ask_count (performs_in hosts i window p.part)

    pub lacks_before : holds (there hosts (p.next ∷ p.part) i).host n ≡ false
    lacks_before = lacked_before hosts p.front (p.next ∷ p.part) i n (subst (λ (l : List (At KeptLine)). holds (there hosts l i).host n ≡ false) p.split
        (lacked_before hosts q.front base i n (subst (λ (l : List (At KeptLine)). holds (there hosts l i).host n ≡ false) q.split lacks)))

    lacks_base : holds (there hosts base i).host n ≡ false
    lacks_base = lacked_before hosts q.front base i n (subst (λ (l : List (At KeptLine)). holds (there hosts l i).host n ≡ false) q.split lacks)

    lacks_part : holds (there hosts part i).host n ≡ false
    lacks_part = lacked_before hosts (e ∷ []) part i n lacks

    -- ---- another one reports it

    settled : settled_by terms < q.next.time
    settled = let after = q.after in let known = known_start in omega (arith, after, known)

    holds_it : holds (there hosts base j).host n ≡ true
    holds_it = still_held hosts terms trace (newer ++ q.front) base session split_q settled n held

    within_q : trace ≡ newer ++ (q.front ++ base)
    within_q = split ∙ ap (λ (l : List (At KeptLine)). newer ++ l) q.split

    in_row : (d : DrawopValue) → d.name ≡ n → (front older : List (At KeptLine)) (x : DrawopValue) → q.front ++ base ≡ front ++ older → Contains (there hosts older j).host.is.held x
        → x.name.page ≡ d.name.page → x.name.source ≡ d.name.source → x.name.seq ≤ d.name.seq
    in_row d is front older x same there_x page source =
        let some = held_was_held hosts terms trace (newer ++ front) older j x.name session
        (within_q ∙ ap (λ (l : List (At KeptLine)). newer ++ l) same ∙ sym (append_assoc newer front older)) held.1
        (holds_from (there hosts older j).host.is.held x.name x there_x refl) in
        subst (λ (m : NameValue). x.name.seq ≤ m.seq) (sym is)
        (last x.name some (page ∙ ap (λ (m : NameValue). m.page) is) (source ∙ ap (λ (m : NameValue). m.source) is))

    abbrev Told : NameValue → Type 0
    Told m = IsTold hosts q.front base j (time_of base + telling) m.page (record { source = m.source; high = m.seq })

    t : Told n
    t = by (held_as (there hosts base j).host.is.held n holds_it) where
      by : (x : (d : DrawopValue) × Contains (there hosts base j).host.is.held d × (d.name ≡ n)) → Told n
      by x = subst Told x.2
          (told hosts terms trace newer q.front base slices since pause j x.0 session reports have within_q held.1
          (let after = q.after in let first = quiet_start in omega (arith, after, first))
          (let after = q.after in let first = since_start in omega (arith, after, first))
          x.1 (subst (λ (m : NameValue). 1 ≤ m.seq) (sym x.2) counted) (in_row x.0 x.2) (before_end_of begins))
        where
          before_end_of : q.next.time ≤ credited + turn_span terms → q.next.time + telling < time_of (q.front ++ base)
          before_end_of b = subst (λ (l : List (At KeptLine)). q.next.time + telling < time_of l) q.split (let l = later_then in omega (arith, b, l))

    abbrev report : Datagram
    report = Session (hosts j).number t.sent n.page t.marks t.echoes

    abbrev older_t : List (At KeptLine)
    older_t = t.between ++ base

    whole_t : trace ≡ (newer ++ t.later) ++ t.e ∷ older_t
    whole_t =
        within_q ∙ ap (λ (l : List (At KeptLine)). newer ++ (l ++ base)) t.split ∙ ap (λ (l : List (At KeptLine)). newer ++ l) (append_assoc t.later (t.e ∷ t.between) base)
        ∙ sym (append_assoc newer t.later (t.e ∷ older_t))

    differ : j ≡ i → ⊥
    differ same = true≢false (sym holds_it ∙ ap (λ (x : ℕ). holds (there hosts base x).host n) same ∙ lacks_base)

    told_by : t.e.time + terms.delivery + (request_span terms + repairing terms) < e.time
    told_by = let soon = t.soon in let b = begins in let l = later_then in omega (arith, soon, b, l)

    after_base : credited < t.e.time
    after_base = let a = t.after in let after = q.after in omega (arith, a, after)

    h : IsHandedIn (newer ++ t.later) i (t.e.time + terms.delivery) report
    h = reports_come hosts (newer ++ t.later) (t.e ∷ older_t) i (t.e.time + terms.delivery) report refl
        (session.delivered (newer ++ t.later) older_t t.e i report whole_t live (λ same. differ (sym (eqb-true t.e.place j t.place) ∙ same))
        (let a = after_base in let first = quiet_start in omega (arith, a, first)) t.report
        (let end = ends_later in let by = told_by in omega (arith, end, by))) where
          ends_later : e.time ≤ time_of trace
          ends_later = subst (λ (l : List (At KeptLine)). e.time ≤ time_of l) (sym split) (before_end newer (e ∷ part) (subst AreInOrder split session.order))

    -- ---- it is heard

    abbrev older_h : List (At KeptLine)
    older_h = h.between ++ t.e ∷ older_t

    whole_h : trace ≡ h.later ++ h.call ∷ older_h
    whole_h = whole_t ∙ ap (λ (l : List (At KeptLine)). l ++ t.e ∷ older_t) h.split ∙ append_assoc h.later (h.call ∷ h.between) (t.e ∷ older_t)

    heard_by : h.call.time + (request_span terms + repairing terms) < e.time
    heard_by = let soon = h.soon in let by = told_by in omega (arith, soon, by)

    heard_after : credited < h.call.time
    heard_after =
        let o = ordered hosts terms trace session h.later (h.call ∷ older_h) whole_h in
        let first = o.0 in
        let end = before_end h.between (t.e ∷ older_t) o.1 in
        let a = after_base in
        omega (arith, first, end, a)

    here : nat_eq h.call.place i ≡ true
    here = eq-eqb h.call.place i h.place

    -- the calls after it, and those of the window up to it
    z : (z : List (At KeptLine)) × (part ≡ z ++ h.call ∷ older_h)
    z = by (in_past newer (e ∷ part) h.later (h.call ∷ older_h) (sym split ∙ whole_h) (subst AreInOrder split session.order) earlier) where
      earlier : h.call.time < e.time
      earlier = let by = heard_by in omega (arith, by)

      by : (w : List (At KeptLine)) × (e ∷ part ≡ w ++ h.call ∷ older_h) → (z : List (At KeptLine)) × (part ≡ z ++ h.call ∷ older_h)
      by w = before_newest w.0 e h.call part older_h w.1 earlier

    upto : (middle : List (At KeptLine)) × (h.call ∷ older_h ≡ middle ++ p.part)
    upto = in_past h.later (h.call ∷ older_h) (((newer ++ q.front) ++ p.front) ++ p.next ∷ []) p.part (sym whole_h ∙ upto_p) (subst AreInOrder whole_h session.order)
        (let by = p.by in let a = heard_after in omega (arith, by, a))

    window_is : window ≡ z.0 ++ upto.0
    window_is = append_cancel_right window (z.0 ++ upto.0) p.part
        (sym whole ∙ z.1 ∙ ap (λ (l : List (At KeptLine)). z.0 ++ l) upto.1 ∙ sym (append_assoc z.0 upto.0 p.part))

    -- what is asked for up to it is asked for in the window
    many_so : 64 ≤ ask_count (performs_in hosts i upto.0 p.part) → Many
    many_so few =
        let both = asked_both hosts i z.0 upto.0 p.part in
        subst (λ (l : List (At KeptLine)). 64 ≤ ask_count (performs_in hosts i l p.part)) (sym window_is) (omega (arith, few, both))

    abbrev k_then : Keeping
    k_then = there hosts older_h i

    lacks_then : holds k_then.host n ≡ false
    lacks_then = lacked_before hosts (z.0 ++ h.call ∷ []) older_h i n
        (subst (λ (l : List (At KeptLine)). holds (there hosts l i).host n ≡ false) (z.1 ∙ sym (append_assoc z.0 (h.call ∷ []) older_h)) lacks_part)

    other : (hosts j).number ≡ k_then.host.is.number → ⊥
    other same = differ (session.distinct j i (same ∙ (of_opening hosts older_h i).number))

    wants : IsAskedInCall n (came h.now report) k_then ⊎ LacksCredit (after_doing (came h.now report) k_then)
    wants =
        told_wants k_then h.now (hosts j).number t.sent n.page t.marks t.echoes other n (named_in k_then.host.is.number n t.marks small t.among) (record {
          answers_held = answers_at hosts older_h i;
          lacks = lacks_then;
          room = session.room (h.later ++ h.call ∷ []) older_h i (whole_h ∙ sym (append_assoc h.later (h.call ∷ []) older_h)) live late_older;
        }) where
          late_older : terms.quiet < time_of older_h
          late_older =
              let o = ordered hosts terms trace session h.later (h.call ∷ older_h) whole_h in
              let end = before_end h.between (t.e ∷ older_t) o.1 in
              let a = after_base in
              let first = quiet_start in
              omega (arith, end, a, first)

    -- ---- there is no credit

    abbrev m_then : Keeping
    m_then = there hosts (h.call ∷ older_h) i

    m_is : m_then ≡ after_doing (came h.now report) k_then
    m_is = there_here hosts h.call older_h i here ∙ ap (λ (line : KeptLine). after_doing (doing_of line) k_then) h.is

    now_is : IsNowAt terms h.call.time i (present m_then.host)
    now_is = subst (IsNowAt terms h.call.time i) (sym (ap (λ (x : Keeping). present x.host) m_is ∙ came_now h.now report k_then))
        (subst (SaysNow terms h.call.time i) h.is (told_there hosts terms trace session h.later older_h h.call i whole_h live here))

    short_upto : LacksCredit (after_doing (came h.now report) k_then) → 64 ≤ ask_count (performs_in hosts i upto.0 p.part)
    short_upto without = without_credit hosts i upto.0 p.part
        (subst (λ (l : List (At KeptLine)). AreTaken hosts l) upto.1 (taken_of hosts h.later (h.call ∷ older_h) (subst (λ (l : List (At KeptLine)). AreTaken hosts l) whole_h session.taken)))
        (subst (λ (l : List (At KeptLine)). LacksCredit (there hosts l i)) upto.1 (subst LacksCredit (sym m_is) without))
        (subst (λ (l : List (At KeptLine)). (there hosts p.part i).policy.owed ≤ present (there hosts l i).host) upto.1 paid) where
          paid : (there hosts p.part i).policy.owed ≤ present m_then.host
          paid =
              let near = (near_there hosts terms trace (((newer ++ q.front) ++ p.front) ++ p.next ∷ []) p.part i session upto_p live).owed in
              let now = now_there hosts terms trace (((newer ++ q.front) ++ p.front) ++ p.next ∷ []) p.part i session upto_p live in
              let by = p.by in
              let first = quiet_start in
              let after = heard_after in
              let late = now_is.not_behind in
              omega (arith, near, now, by, first, after, late)

    short : LacksCredit (after_doing (came h.now report) k_then) → Many
    short without = many_so (short_upto without)

    -- ---- it is asked for

    -- it comes before the end of the window, or is given up in a crowd
    fate : (front back : List (At Line)) (ask : AskTimer) → performed hosts trace ≡ front ++ back → time_of back ≡ h.call.time → timer_then hosts back i n ≡ Some ask → Many
    fate front back ask is at stands = ⊎_elim
        (λ (comes : AllHoldBehind starts terms (performed hosts trace) (time_of back + request_span terms + repairing terms) n).
        absurd (true≢false (sym (held_before hosts terms trace newer part e i (time_of back + request_span terms + repairing terms) n split comes (let by = heard_by in omega (arith, by, at)) live) ∙ lacks_part)))
        (λ (g : (ask.level ≡ 0) × IsGivenUp starts (performed hosts trace) back i n ask (max (time_of back) (time_of back + terms.asking * terms.far) + terms.late)). given_up g.0 g.1)
        (comes_or_is_given_up hosts terms trace wait timely waits front back i n ask is (let a = heard_after in let first = known_start in omega (arith, a, first, at)) live held stands) where
          given_up : ask.level ≡ 0 → IsGivenUp starts (performed hosts trace) back i n ask (max (time_of back) (time_of back + terms.asking * terms.far) + terms.late) → Many
          given_up new g = crowd_asks hosts terms trace newer window p.part e i g.e.time session.order (split ∙ ap (λ (l : List (At KeptLine)). newer ++ e ∷ l) whole)
              (let by = p.by in let b = behind in let a = heard_after in omega (arith, by, b, a)) (let first = quiet_start in let b = behind in let a = heard_after in omega (arith, first, b, a))
              (let by = by_end in let r = heard_by in omega (arith, by, r))
              (crowd hosts terms trace i session timely live g.front (g.between ++ back) g.e g.split late n ask g.place g.line g.stands new) where
                behind : h.call.time ≤ g.e.time
                behind =
                    let order = order_of g.front (g.e ∷ (g.between ++ back)) (subst AreInOrder g.split timely.order) in
                    let first = order.0 in
                    let end : time_of back ≤ time_of (g.between ++ back) = before_end g.between back order.1 in
                    omega (arith, first, end, at)

                by_end : g.e.time ≤ h.call.time + request_span terms
                by_end = let soon = g.soon in omega (arith, soon, at)

                late : terms.quiet < g.e.time
                late = let f = behind in let a = heard_after in let first = quiet_start in omega (arith, f, a, first)

    asked : IsAskedInCall n (came h.now report) k_then → Many
    asked a =
        let s = timer_in_call hosts i n (h.later ++ h.call ∷ []) older_h h.later [] h.call refl here (subst (λ (line : KeptLine). IsAskedInCall n (doing_of line) k_then) (sym h.is) a) in
        fate s.1.front s.0 s.1.ask (ap (performed hosts) (whole_h ∙ sym (append_assoc h.later (h.call ∷ []) older_h)) ∙ s.1.split) s.2 s.1.stands

    pub window_asks : Many
    window_asks = ⊎_elim asked short wants

    -- 64 more than before it
    window_counts : asks_since hosts from i p.part + 64 ≤ asks_since hosts from i part
    window_counts =
        let many = window_asks in
        let counts = asked_since hosts i more.0 p.next p.part from (subst AreInOrder more.1 (ordered hosts terms trace session (newer ++ e ∷ []) part (split ∙ sym (append_assoc newer (e ∷ []) part)))) (let after = p.after in omega (arith, after)) in
        let same = ap (asks_since hosts from i) more.1 in
        omega (arith, many, counts, same)

    -- ---- something new comes in the window

    -- the host of a window is handed a report at this call
    v : IsInWindow window p.part z.0 older_h h.call
    v = in_window window p.part z.0 older_h h.call (sym whole ∙ z.1) (subst AreInOrder whole (ordered hosts terms trace session (newer ++ e ∷ []) part (split ∙ sym (append_assoc newer (e ∷ []) part))))
        (let by = p.by in let a = heard_after in omega (arith, by, a))

    in_whole : trace ≡ newer ++ e ∷ (window ++ p.part)
    in_whole = split ∙ ap (λ (l : List (At KeptLine)). newer ++ e ∷ l) whole

    upto_part : trace ≡ (newer ++ e ∷ []) ++ (window ++ p.part)
    upto_part = in_whole ∙ sym (append_assoc newer (e ∷ []) (window ++ p.part))

    settled_in : (front rest : List (At KeptLine)) (y : At KeptLine) → window ≡ front ++ y ∷ rest → settled_by terms < y.time
    settled_in front rest y is =
        let after = all_after more.0 p.next p.part (at_window k) (subst AreInOrder more.1 (ordered hosts terms trace session (newer ++ e ∷ []) part (split ∙ sym (append_assoc newer (e ∷ []) part)))) p.after front rest y is in
        let first = known_start in
        omega (arith, after, first)

    module _ (holes_held : HolesAreHeld hosts terms trace) (crowds : ℕ) (longer : window_span terms slices pause + crowds * (2 * request_span terms) + coming terms ≤ span)
        (enough : 64 * 250000 + (16000000 + terms.late) + crowds * (2 * request_span terms) < crowds * (64 * 250000)) (same : (there hosts (window ++ p.part) i).host.is.held ≡ (there hosts p.part i).host.is.held) where
      abbrev Awake : List (At KeptLine) → Type 0
      Awake calls = IsAwake hosts terms trace i session holes_held live (newer ++ e ∷ []) window p.part upto_part settled_in same calls

      awake_by_asking : HasAsk (does hosts h.call (v.part ++ p.part)) → Awake (h.call ∷ (v.part ++ p.part))
      awake_by_asking a = begins_here hosts terms trace i session holes_held live (newer ++ e ∷ []) window p.part upto_part settled_in same z.0 v.part h.call v.window_is here a

      awake_asked : IsAskedInCall n (came h.now report) k_then → Awake (h.call ∷ (v.part ++ p.part))
      awake_asked a = ⊎_elim
          (λ (stood : asks_for n k_then.host ≡ true).
          one_on hosts terms trace i session holes_held live (newer ++ e ∷ []) window p.part upto_part settled_in same z.0 v.part h.call v.window_is
          (subst Awake v.older_is (record { name = n; is = held; lacks = lacks_then; asked = stood })))
          (λ (x : HasAsk (came h.now report (sees k_then.host) k_then.policy).lines). awake_by_asking (subst (λ (l : List (At KeptLine)). HasAsk (does hosts h.call l)) v.older_is (
          subst (λ (q : ℕ). HasAsk (let m = there hosts older_h q in (doing_of h.call.event (sees m.host) m.policy).lines)) (sym (eqb-true h.call.place i here))
          (subst (λ (line : KeptLine). HasAsk (doing_of line (sees k_then.host) k_then.policy).lines) (sym h.is) x))))
          (stood_or_calls n (Came h.now report) k_then a)

      awake_short : LacksCredit (after_doing (came h.now report) k_then) → Awake (upto.0 ++ p.part)
      awake_short without =
          let many = short_upto without in
          let a = an_ask (handed i upto.0) (there hosts p.part i) (omega (arith, many)) in
          awake_by hosts terms trace i session holes_held live (newer ++ e ∷ []) window p.part upto_part settled_in same z.0 upto.0 a.0 window_is a.1

      awake_then : Awake (upto.0 ++ p.part)
      awake_then = ⊎_elim
          (λ (a : IsAskedInCall n (came h.now report) k_then). subst Awake (ap (λ (l : List (At KeptLine)). h.call ∷ l) (sym v.older_is) ∙ upto.1) (awake_asked a))
          awake_short
          wants

      time_is_so : time_of (upto.0 ++ p.part) ≡ h.call.time
      time_is_so = ap time_of (sym upto.1)

      pub not_same : ⊥
      not_same = not_still hosts terms trace wait crowds i session waits holes_held live newer window p.part e in_whole settled_in same z.0 upto.0 window_is
          (let at = time_is_so in let a = heard_after in let first = known_start in omega (arith, at, a, first)) awake_then
          (let at = time_is_so in let by = heard_in in let r = next_window k in omega (arith, at, by, r, longer, goes_on)) enough where
            heard_in : h.call.time ≤ credited + turn_span terms + telling + terms.delivery
            heard_in = let soon = h.soon in let told_soon = t.soon in let b = begins in omega (arith, soon, told_soon, b)

  -- ---- all windows

  pub many_asks : (k : ℕ) (newer part : List (At KeptLine)) (e : At KeptLine) → trace ≡ newer ++ e ∷ part → time_of part ≤ at_window k → at_window k < e.time → holds (there hosts (e ∷ part) i).host n ≡ false
      → 64 * k ≤ asks_since hosts from i part
  many_asks zero newer part e split ends goes_on lacks = omega arith
  many_asks (suc k) newer part e split ends goes_on lacks =
      let first = p k newer part e split ends goes_on lacks in
      let rest = many_asks k _ first.part first.next (split_p k newer part e split ends goes_on lacks) first.by first.after (lacks_before k newer part e split ends goes_on lacks) in
      let more = window_counts k newer part e split ends goes_on lacks in
      omega (arith, rest, more)
