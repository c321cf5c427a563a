-- Of a session that keeps to times, the lines that are performed do.
use Rattle.std.proofs.Common.{◌≡◌, ◌⊎◌, ℕ, ◌+◌, ◌<◌, ◌≤◌, Bool, true, false, cond, List, [], ◌∷◌, ◌++◌, ◌∙◌, ap, append_assoc, arith, eqb-true, inl, inr, length, refl, subst, sym, true≢false, ⊎_elim}
use Rattle.std.specs.Prelude.{◌≢◌, Contains, nat_eq, nat_le}
use Rattle.std.proofs.lemmas.List.{append_cancel_right}
use Rattle.wb_names.specs.Values.{DrawopValue, NameValue}
use Rattle.wb_codec.specs.declared.datagram.Datagram.{Datagram}
use Rattle.wb_codec.specs.declared.datagram.Datagram.TheVariants.{Draw, Request}
use Rattle.wb_recovery.specs.Events.{timers_of}
use Rattle.wb_recovery.specs.declared.tuning.Tuning.{Tuning}
use Rattle.wb_progress.specs.Bounds.{IsUnder}
use Rattle.wb_progress.specs.Turns.{AreNotOverdue, IsNowAt, Terms, longest, settled_by}
use Rattle.wb_member.specs.Judged.{holds, is_full}
use Rattle.wb_member.specs.Opened.{Opened, events, opened_with}
use Rattle.wb_member.specs.declared.calls.Call.TheVariants.{Tick, Hear, Tune}
use Rattle.wb_policy.specs.declared.limits.TheConstants.{MOST_DELAY}
use Rattle.wb_keeping.specs.Kept.{Line, Arrives, Says, Calls}
use Rattle.wb_keeping.specs.Laws.{KeptLine, doing_of}
use Rattle.wb_keeping.specs.Performing.{Keeping, after_line, after_lines, sees, sent_by_line}
use Rattle.wb_kept_progress.specs.Sessions.{Opening}
use Rattle.wb_kept_progress.specs.Timed.{At, ComesTo, DelaysAreShort, GoByShort, IsHeldBy, IsQuietLine, SaysNow, Start, TellTimes, WasSent, host_after, performed, performed_then, sends, start_of, time_of, timers_after}
use Rattle.wb_kept_progress.specs.Whole.{AlwaysShort, IsHandedIn, IsSpared, IsTimelySessionBut, WasSentBy, sends_then, there}
use Rattle.wb_kept_progress.proofs.AlwaysShort.{short_then}
use Rattle.wb_kept_progress.proofs.CallLines.{Ends, call_ends, ends_both, host_amid, host_apart, host_before, line_stands, lines_have_calls, sent_in}
use Rattle.wb_kept_progress.proofs.CallParts.{host_is, lines_order, number_is}
use Rattle.wb_kept_progress.proofs.FirstLines.{AreLinesOf, IsLineOf, drawop_begins, lines_of_call, one_of_lines, request_begins}
use Rattle.wb_kept_progress.proofs.KeptInTime.{at_place, front_of, sent_by_one, then_front, time_is}
use Rattle.wb_kept_progress.proofs.Lines.{lines_of}
use Rattle.wb_kept_progress.proofs.Begun.{ticks_keep}
use Rattle.wb_kept_progress.proofs.Moments.{IsTuned, moment_of, told_itself, told_or_tuned}
use Rattle.wb_kept_progress.proofs.Performed.{kept_keeps_moments}
use Rattle.wb_kept_progress.proofs.PerLine.{asks}
use Rattle.wb_kept_progress.proofs.Repairs.{moved}
use Rattle.wb_kept_progress.proofs.ShortDelays.{kept_go_by_short}
use Rattle.wb_kept_progress.proofs.StopCauses.{room_before}
use Rattle.wb_kept_progress.proofs.Timely.{held_later, none_held, of_start}
use Rattle.wb_kept_progress.proofs.TimersAhead.{AreAhead, ahead_amid, ahead_in_time, due_in_time, tuned_alone}
use Rattle.wb_kept_progress.proofs.Tunings.{constants_of, line_tuned}
use Rattle.wb_kept_progress.proofs.WholeParts.{IsOfCall, PerformedIsTimely, does}
use Rattle.std.proofs.lemmas.Bool.{false_from_ne_true, not-false}
use Rattle.wb_kept_progress.proofs.WindowParts.{told_in}

module _ {Delays : Type 0} (hosts : ℕ → Opening) (terms : Terms) (trace : List (At KeptLine)) (s : IsTimelySessionBut Delays hosts terms trace) where
  abbrev starts : ℕ → Start
  starts j = start_of (hosts j)

  abbrev all : List (At Line)
  all = performed hosts trace

  -- ---- a line and its call

  module _ (x : At Line) (back : List (At Line)) (c : IsOfCall hosts trace x back) where
    abbrev k : Keeping
    k = there hosts c.older c.e.place

    abbrev before : Opened
    before = host_after starts back x.place

    of_call : IsLineOf c.e.event k.host before x.event
    of_call = subst (λ (h : Opened). IsLineOf c.e.event k.host h x.event) (sym (host_before hosts trace x back c))
        (one_of_lines c.e.event k.host k.host c.before c.later x.event (subst (AreLinesOf c.e.event k.host k.host) c.lines (lines_of_call c.e.event k)))

    of_line : (line : Line) → x.event ≡ line → IsLineOf c.e.event k.host before line
    of_line line is = subst (IsLineOf c.e.event k.host before) is of_call

    late_call : (t : ℕ) → t < x.time → t < c.e.time
    late_call t lt = subst (λ (n : ℕ). t < n) c.time lt

    alone : terms.quiet < x.time → Contains terms.live x.place
    alone late = subst (Contains terms.live) (sym c.place) (s.alone c.newer c.older c.e c.split (late_call terms.quiet late))

    quiet : terms.quiet < x.time → IsQuietLine x.event
    quiet late = record {
      drawn = λ d is.
          let a = of_line (Says (Draw d)) is in
          s.drawn c.newer c.older c.e a.0 a.1 a.2 a.3 c.split (late_call terms.quiet late) a.4;
      said = λ asker m is. of_line (Says (Request asker m)) is;
    }

    room : (d : DrawopValue) → terms.quiet < x.time → x.event ≡ Arrives d → (holds before d.name ≡ true) ⊎ (is_full before ≡ false)
    room d late is =
        let a = of_line (Arrives d) is in
        let live = s.alone c.newer c.older c.e c.split (late_call terms.quiet late) in
        let behind = s.room c.newer (c.e ∷ c.older) c.e.place c.split live (late_call terms.quiet late) in
        let free = room_before (does hosts c.e c.older) k.host (there hosts (c.e ∷ c.older) c.e.place).host (ap (λ (m : Keeping). m.host) (moved hosts c.older c.e.place c.e.event)) behind in
        let cells : before.is.cells ≡ k.host.is.cells = ap (λ (h : Opened). h.is.cells) (host_before hosts trace x back c) ∙ (lines_of c.before k.host).cells in
        inr (ap (λ (n : ℕ). nat_le n (length before.is.held)) cells ∙ ap (λ (held : List DrawopValue). nat_le k.host.is.cells (length held)) a.1 ∙ free)

    -- what it sends, its call does
    sends_it : (v : Datagram) → Contains (sends starts back x) v → Contains (sends_then hosts c.older c.e) v
    sends_it v sent = sent_in (does hosts c.e c.older) c.before c.later x.event k.host v c.lines (subst (λ (h : Opened). Contains (sent_by_line x.event h) v) (host_before hosts trace x back c) sent)

    -- what is handed in by a later call comes by one of its lines
    comes : (newer : List (At Line)) → all ≡ newer ++ x ∷ back → (j : ℕ) (v : Datagram) (line : Line) (h : IsHandedIn c.newer j (c.e.time + terms.delivery) v)
        → ((before : List Line) × (rest : List Line) × (does hosts h.call (h.between ++ c.e ∷ c.older) ≡ (Calls (Tick h.now) ∷ before) ++ line ∷ rest)) → ComesTo newer j (x.time + terms.delivery) line
    comes newer split j v line h begins =
        let calls : List (At KeptLine) = h.between ++ c.e ∷ c.older in
        let handed : trace ≡ h.later ++ h.call ∷ calls = c.split ∙ ap (λ (t : List (At KeptLine)). t ++ c.e ∷ c.older) h.split ∙ append_assoc h.later (h.call ∷ h.between) (c.e ∷ c.older) in
        let base : List (At Line) = performed_then h.call.time h.call.place (Calls (Tick h.now) ∷ begins.0) (performed hosts calls) in
        let arrival : At Line = at_place h.call.time h.call.place line in
        let a : Ends all (arrival ∷ base) = line_stands hosts trace h.later calls h.call (Calls (Tick h.now) ∷ begins.0) begins.1 line handed begins.2 in
        let b : Ends base (x ∷ back) = ends_both base (performed hosts calls) (x ∷ back) (then_front h.call.time h.call.place (Calls (Tick h.now) ∷ begins.0) (performed hosts calls))
        (ends_both (performed hosts calls) (performed hosts (c.e ∷ c.older)) (x ∷ back) (front_of hosts h.between (c.e ∷ c.older)) (call_ends hosts trace x back c)) in
        let whole : all ≡ (a.0 ++ arrival ∷ b.0) ++ x ∷ back = a.1 ∙ ap (λ (t : List (At Line)). a.0 ++ arrival ∷ t) b.1 ∙ sym (append_assoc a.0 (arrival ∷ b.0) (x ∷ back)) in
        record {
          later = a.0;
          arrival = arrival;
          between = b.0;
          split = append_cancel_right newer (a.0 ++ arrival ∷ b.0) (x ∷ back) (sym split ∙ whole);
          place = h.place;
          soon = subst (λ (t : ℕ). h.call.time ≤ t + terms.delivery) (sym c.time) h.soon;
          is = refl;
        }

    -- what is performed in the calls from there on, and in those after them
    ends_there : (between : List (At KeptLine)) → Ends (performed hosts (between ++ c.e ∷ c.older)) (x ∷ back)
    ends_there between =
        ends_both (performed hosts (between ++ c.e ∷ c.older)) (performed hosts (c.e ∷ c.older)) (x ∷ back) (front_of hosts between (c.e ∷ c.older)) (call_ends hosts trace x back c)

    -- what is held before the line is held behind these calls
    held_then : (between : List (At KeptLine)) (j : ℕ) (m : NameValue) → holds (host_after starts back j) m ≡ true → holds (there hosts (between ++ c.e ∷ c.older) j).host m ≡ true
    held_then between j m held =
        let b = ends_there between in
        ap (λ (h : Opened). holds h m) (sym (host_is hosts (between ++ c.e ∷ c.older) j))
        ∙ ap (λ (t : List (At Line)). holds (host_after starts t j) m) (b.1 ∙ sym (append_assoc b.0 (x ∷ []) back))
        ∙ held_later starts (b.0 ++ x ∷ []) back j m held

    -- what a host can do without since it holds it, it holds behind the lines of these calls
    held_by : (newer : List (At Line)) → all ≡ newer ++ x ∷ back → (j : ℕ) (d : DrawopValue) → IsSpared hosts c.newer (c.e ∷ c.older) j (c.e.time + terms.delivery) (Draw d)
        → IsHeldBy starts newer (x ∷ back) j (x.time + terms.delivery) d.name
    held_by newer split j d p =
        let calls : List (At KeptLine) = p.between ++ c.e ∷ c.older in
        let f = front_of hosts p.later calls in
        let b = ends_there p.between in
        let parts : trace ≡ p.later ++ calls = c.split ∙ ap (λ (t : List (At KeptLine)). t ++ c.e ∷ c.older) p.split ∙ append_assoc p.later p.between (c.e ∷ c.older) in
        let whole : all ≡ (f.0 ++ b.0) ++ x ∷ back = ap (performed hosts) parts ∙ f.1 ∙ ap (λ (t : List (At Line)). f.0 ++ t) b.1 ∙ sym (append_assoc f.0 b.0 (x ∷ back)) in
        let at : time_of (b.0 ++ x ∷ back) ≡ time_of calls = ap time_of (sym b.1) ∙ time_is hosts calls in
        let time = c.time in
        let soon = p.soon in
        record {
          later = f.0;
          between = b.0;
          split = append_cancel_right newer (f.0 ++ b.0) (x ∷ back) (sym split ∙ whole);
          soon = omega (arith, at, time, soon);
          held = ap (λ (t : List (At Line)). holds (host_after starts t j) d.name) (sym b.1) ∙ ap (λ (h : Opened). holds h d.name) (host_is hosts calls j) ∙ not-false (holds (there hosts calls j).host d.name) p.spared;
        }

    module _ (newer : List (At Line)) (split : all ≡ newer ++ x ∷ back) (j : ℕ) (live : Contains terms.live j) (other : x.place ≢ j) (late : terms.quiet < x.time) (soon : x.time + terms.delivery < time_of all) where
      delivered : (v : Datagram) → Contains (sends starts back x) v → IsHandedIn c.newer j (c.e.time + terms.delivery) v ⊎ IsSpared hosts c.newer (c.e ∷ c.older) j (c.e.time + terms.delivery) v
      delivered v sent =
          s.delivered c.newer c.older c.e j v c.split live (λ same. other (c.place ∙ same)) (late_call terms.quiet late) (sends_it v sent)
          (subst (λ (t : ℕ). c.e.time + terms.delivery < t) (time_is hosts trace) (subst (λ (t : ℕ). t + terms.delivery < time_of all) c.time soon))

      drawops : (d : DrawopValue) → Contains (sends starts back x) (Draw d) → ComesTo newer j (x.time + terms.delivery) (Arrives d) ⊎ IsHeldBy starts newer (x ∷ back) j (x.time + terms.delivery) d.name
      drawops d sent = ⊎_elim
          (λ (h : IsHandedIn c.newer j (c.e.time + terms.delivery) (Draw d)).
          let there_j = there hosts (h.between ++ c.e ∷ c.older) h.call.place in
          let begins = drawop_begins h.now d there_j in
          inl (comes newer split j (Draw d) (Arrives d) h ([], begins.0, ap (λ (line : KeptLine). (doing_of line (sees there_j.host) there_j.policy).lines) h.is ∙ begins.1)))
          (λ (p : IsSpared hosts c.newer (c.e ∷ c.older) j (c.e.time + terms.delivery) (Draw d)). inr (held_by newer split j d p))
          (delivered (Draw d) sent)

      module _ (asker : ℕ) (m : NameValue) (sent : Contains (sends starts back x) (Request asker m)) where
        own : asker ≡ (hosts x.place).number
        own = ⊎_elim
            (λ (g : (asker ≡ before.is.number) × (holds before m ≡ false)). g.0 ∙ (of_start starts back x.place).number)
            (λ (t : (a : ℕ) × (n : NameValue) × (x.event ≡ Says (Request a n))). absurd ((quiet late).said t.0 t.1 t.2))
            (asks before (none_held starts back x.place) asker m x.event sent)

        apart : (calls : List (At KeptLine)) (place : ℕ) → place ≡ j → nat_eq asker (there hosts calls place).host.is.number ≡ false
        apart calls place here = false_from_ne_true (nat_eq asker (there hosts calls place).host.is.number) (λ same.
            other (s.distinct x.place j (sym own ∙ eqb-true asker (there hosts calls place).host.is.number same ∙ number_is hosts calls place ∙ ap (λ (i : ℕ). (hosts i).number) here)))

        requests : holds (host_after starts back j) m ≡ true → ComesTo newer j (x.time + terms.delivery) (Calls (Hear (Request asker m)))
        requests held = ⊎_elim
            (λ (h : IsHandedIn c.newer j (c.e.time + terms.delivery) (Request asker m)).
            let there_j = there hosts (h.between ++ c.e ∷ c.older) h.call.place in
            let begins = request_begins h.now asker m there_j (apart (h.between ++ c.e ∷ c.older) h.call.place h.place) in
            comes newer split j (Request asker m) (Calls (Hear (Request asker m))) h (begins.0, begins.1, ap (λ (line : KeptLine). (doing_of line (sees there_j.host) there_j.policy).lines) h.is ∙ begins.2))
            (λ (p : IsSpared hosts c.newer (c.e ∷ c.older) j (c.e.time + terms.delivery) (Request asker m)). absurd (true≢false (sym (held_then p.between j m held) ∙ p.spared)))
            (delivered (Request asker m) sent)

    -- ---- what comes was sent

    was_sent : (v : Datagram) → WasSentBy hosts c.older c.e.time terms.delivery v → WasSent starts back x.time terms.delivery v
    was_sent v w =
        let sender = there hosts w.before w.e.place in
        let l = sent_by_one (does hosts w.e w.before) sender.host v w.sent in
        let y = at_place w.e.time w.e.place l.line in
        let base : List (At Line) = performed_then w.e.time w.e.place l.before (performed hosts w.before) in
        let a : Ends (performed hosts c.older) (y ∷ base) = line_stands hosts c.older w.newer w.before w.e l.before l.later l.line w.split l.split in
        let f : Ends (performed_then c.e.time c.e.place c.before (performed hosts c.older)) (y ∷ base) = ends_both (performed_then c.e.time c.e.place c.before (performed hosts c.older)) (performed hosts c.older) (y ∷ base) (then_front c.e.time c.e.place c.before (performed hosts c.older)) a in
        record {
          newer = f.0;
          e = y;
          before = base;
          split = c.back_is ∙ f.1;
          soon = subst (λ (t : ℕ). t ≤ w.e.time + terms.delivery) (sym c.time) w.soon;
          sent = subst (λ (h : Opened). Contains (sent_by_line l.line h) v) (sym (host_amid hosts w.e.time w.e.place l.before w.before)) l.sent;
        }

    fresh_drawops : (d : DrawopValue) → settled_by terms < x.time → x.event ≡ Arrives d → WasSent starts back x.time terms.delivery (Draw d)
    fresh_drawops d late is =
        let a = of_line (Arrives d) is in
        was_sent (Draw d) (s.fresh c.newer c.older c.e a.0.0 (Draw d) c.split (late_call (settled_by terms) late) a.0.1)

    fresh_requests : (asker : ℕ) (m : NameValue) → settled_by terms < x.time → x.event ≡ Calls (Hear (Request asker m)) → WasSent starts back x.time terms.delivery (Request asker m)
    fresh_requests asker m late is =
        let a = of_line (Calls (Hear (Request asker m))) is in
        was_sent (Request asker m) (s.fresh c.newer c.older c.e a.0 (Request asker m) c.split (late_call (settled_by terms) late) a.1)

    -- ---- what is due

    soon : (i : ℕ) (m : NameValue) → Contains terms.live i → terms.quiet < x.time → AreNotOverdue (timers_after starts back i m) x.time (terms.lag i + terms.late)
    soon i m live late = subst (λ (t : List (At Line)). AreNotOverdue (timers_after starts t i m) x.time (terms.lag i + terms.late)) (sym c.back_is)
        (subst (λ (t : ℕ). AreNotOverdue (timers_after starts base i m) t (terms.lag i + terms.late)) (sym c.time) (by (nat_eq c.e.place i) refl)) where
          base : List (At Line)
          base = performed_then c.e.time c.e.place c.before (performed hosts c.older)

          -- as it was before the call
          at_first : (host : Opened) → host ≡ (there hosts c.older i).host → AreNotOverdue (timers_of host.is.constants (events host) m) c.e.time (terms.lag i + terms.late)
          at_first host same = subst (λ (h : Opened). AreNotOverdue (timers_of h.is.constants (events h) m) c.e.time (terms.lag i + terms.late)) (sym same)
              (due_in_time (there hosts c.older i) m c.e.time (terms.lag i + terms.late) (s.soon c.newer c.older c.e i c.split live (late_call terms.quiet late)))

          told : Contains terms.live c.e.place → SaysNow terms c.e.time c.e.place c.e.event
          told = told_in terms c.newer c.older c.e (subst (TellTimes terms) c.split s.times)

          amid : Contains terms.live c.e.place → (lines : List Line) → does hosts c.e c.older ≡ lines ++ x.event ∷ c.later
              → (let host = after_lines lines k.host in AreNotOverdue (timers_of host.is.constants (events host) m) c.e.time (terms.lag c.e.place + terms.late))
          amid here [] split = due_in_time k m c.e.time (terms.lag c.e.place + terms.late) (s.soon c.newer c.older c.e c.e.place c.split here (late_call terms.quiet late))
          amid here (first ∷ lines) split = ⊎_elim
              (λ (t : IsTuned c.e.event). absurd (tuned_alone c.e.event k first lines c.later x.event t split))
              (λ (at : IsNowAt terms c.e.time c.e.place (moment_of c.e.event)).
              let h = ahead_amid c.e.event k (moment_of c.e.event) first lines c.later x.event (told_itself c.e.event) split in
              let host = after_lines (first ∷ lines) k.host in
              let timers = timers_of host.is.constants (events host) m in
              let near = at.not_behind in
              let drift = s.covered in
              ahead_in_time timers (moment_of c.e.event) c.e.time (terms.lag c.e.place + terms.late) (omega (arith, near, drift)) (subst (λ (t : ℕ). AreAhead t timers) h.now (h.ahead m)))
              (told_or_tuned terms c.e.time c.e.place c.e.event (told here))

          by : (b : Bool) → nat_eq c.e.place i ≡ b → AreNotOverdue (timers_after starts base i m) c.e.time (terms.lag i + terms.late)
          by false apart = at_first (host_after starts base i) (host_apart hosts c.e.time c.e.place c.before c.older i apart)
          by true here =
              let same = eqb-true c.e.place i here in
              subst (λ (j : ℕ). AreNotOverdue (timers_after starts base j m) c.e.time (terms.lag j + terms.late)) same
              (subst (λ (h : Opened). AreNotOverdue (timers_of h.is.constants (events h) m) c.e.time (terms.lag c.e.place + terms.late)) (sym (host_amid hosts c.e.time c.e.place c.before c.older))
              (amid (subst (Contains terms.live) (sym same) live) c.before c.lines))

  -- ---- constants

  tuned : (newer older : List (At Line)) (i : ℕ) → all ≡ newer ++ older → Contains terms.live i → IsUnder (longest terms) (constants_of (host_after starts older i))
  tuned newer [] i split live = ticks_keep (λ host. IsUnder (longest terms) (constants_of host)) (λ now host under. line_tuned (IsUnder (longest terms)) (Calls (Tick now)) host (other now) under) (hosts i).moments
      (opened_with (hosts i).constants (hosts i).number (hosts i).cells (hosts i).seed) (s.waits i live) where
        other : (now : ℕ) (constants : Tuning) → Calls (Tick now) ≡ Calls (Tune constants) → IsUnder (longest terms) constants
        other now constants same = absurd cc
  tuned newer (x ∷ older) i split live = by (nat_eq x.place i) refl (tuned (newer ++ x ∷ []) older i (split ∙ sym (append_assoc newer (x ∷ []) older)) live) where
    tunes : x.place ≡ i → (constants : Tuning) → x.event ≡ Calls (Tune constants) → IsUnder (longest terms) constants
    tunes here constants is =
        let c = lines_have_calls hosts trace newer x older split in
        s.tuned c.newer c.older c.e constants c.split (subst (Contains terms.live) (sym here ∙ c.place) live) (of_line x older c (Calls (Tune constants)) is)

    by : (b : Bool) → nat_eq x.place i ≡ b → IsUnder (longest terms) (constants_of (host_after starts older i)) → IsUnder (longest terms) (constants_of (cond b (after_line x.event (host_after starts older i)) (host_after starts older i)))
    by true here rest = line_tuned (IsUnder (longest terms)) x.event (host_after starts older i) (tunes (eqb-true x.place i here)) rest
    by false apart rest = rest

-- so it is with delays if none is above `far` from the openings on
pub short_from : {Delays : Type 0} (hosts : ℕ → Opening) (terms : Terms) (trace : List (At KeptLine)) → IsTimelySessionBut Delays hosts terms trace → GoByShort (λ j. start_of (hosts j)) terms (performed hosts trace)
    → DelaysAreShort (λ j. start_of (hosts j)) terms (performed hosts trace)
short_from hosts terms trace s short = short_then hosts terms trace
    (record { order = lines_order hosts trace s.order; begun = s.begun; times = (kept_keeps_moments hosts terms trace s.times).times })
    (λ newer older i split live. tuned hosts terms trace s newer older i split live) short

pub always_short : AlwaysShort
always_short hosts terms trace s = record {
  moments = s.moments;
  begun = s.begun;
  distinct = s.distinct;
  waits = s.waits;
  tuned = s.tuned;
  taken = s.taken;
  order = s.order;
  times = s.times;
  covered = s.covered;
  soon = s.soon;
  delays = inr (short_from hosts terms trace s s.delays);
  alone = s.alone;
  drawn = s.drawn;
  room = s.room;
  delivered = s.delivered;
  fresh = s.fresh;
}

pub performed_is_timely : PerformedIsTimely
performed_is_timely hosts terms trace s = record {
  distinct = s.distinct;
  waits = s.waits;
  tuned = λ newer older i split live. tuned hosts terms trace s newer older i split live;
  order = lines_order hosts trace s.order;
  begun = s.begun;
  times = (kept_keeps_moments hosts terms trace s.times).times;
  behind = (kept_keeps_moments hosts terms trace s.times).behind;
  soon = λ newer older e i m split live late. soon hosts terms trace s e older (of newer older e split) i m live late;
  delays = ⊎_elim
      (λ (second : MOST_DELAY ≤ terms.far). short_from hosts terms trace s (kept_go_by_short hosts terms trace s.taken second))
      (λ (short : DelaysAreShort (λ j. start_of (hosts j)) terms (performed hosts trace)). short)
      s.delays;
  alone = λ newer older e split late. alone hosts terms trace s e older (of newer older e split) late;
  quiet = λ newer older e split late. quiet hosts terms trace s e older (of newer older e split) late;
  room = λ newer older e d split late is. room hosts terms trace s e older (of newer older e split) d late is;
  drawops = λ newer older e j d split live other late sent soon. drawops hosts terms trace s e older (of newer older e split) newer split j live other late soon d sent;
  requests = λ newer older e j asker m split live other late sent held soon. requests hosts terms trace s e older (of newer older e split) newer split j live other late soon asker m sent held;
  fresh_drawops = λ newer older e d split late is. fresh_drawops hosts terms trace s e older (of newer older e split) d late is;
  fresh_requests = λ newer older e asker m split late is. fresh_requests hosts terms trace s e older (of newer older e split) asker m late is;
} where
  of : (newer older : List (At Line)) (e : At Line) → performed hosts trace ≡ newer ++ e ∷ older → IsOfCall hosts trace e older
  of newer older e split = lines_have_calls hosts trace newer e older split
