-- Whatever comes by a call, the telling of a host stays as it was, or the call reports, from the board that the host has then.
use Rattle.std.proofs.Common.{◌≡◌, ℕ, ◌+◌, ◌<◌, ◌≤◌, Bool, true, false, cond, List, [], ◌∷◌, ◌++◌, ◌∙◌, ap, append_assoc, arith, inl, inr, refl, subst, sym, true≢false, ⊎_elim}
use Rattle.std.specs.Prelude.{◌⊎◌, Contains, nat_eq}
use Rattle.std.proofs.lemmas.Bool.Decides.{leb_tells}
use Rattle.std.proofs.lemmas.List.Elements.{Contains-append_right}
use Rattle.wb_names.specs.Values.{DrawopValue}
use Rattle.wb_names.specs.declared.echo.Echo.{Echo}
use Rattle.wb_codec.specs.declared.datagram.Datagram.{Datagram}
use Rattle.wb_codec.specs.declared.datagram.Datagram.TheVariants.{Session}
use Rattle.wb_progress.specs.Turns.{Terms}
use Rattle.wb_member.specs.Opened.{present}
use Rattle.wb_member.specs.declared.calls.Call.TheVariants.{Tick}
use Rattle.wb_policy.specs.Fairness.{after_reporting, marks_reported, page_reported}
use Rattle.wb_policy.specs.Policy.{Policy, after_drawing}
use Rattle.wb_keeping.specs.Kept.{Calls, Doing, Line, Transition, and_then, drawing, draws_it, drew, end, ends_full, hears, performs, still, timed}
use Rattle.wb_keeping.specs.Laws.{KeptLine, Came, Ticked, Added, Tuned, doing_of}
use Rattle.wb_keeping.specs.Performing.{Keeping, after_doing, sees, sent_by_doing}
use Rattle.wb_keeping.specs.Views.{View, is_asked, is_full}
use Rattle.wb_keeping.proofs.EachLine.{timed_each}
use Rattle.wb_keeping.proofs.Performed.{then_after, then_sent}
use Rattle.wb_kept_progress.specs.Sessions.{Opening}
use Rattle.wb_kept_progress.specs.Telling.{EndsAtMark}
use Rattle.wb_kept_progress.specs.Timed.{At, time_of}
use Rattle.wb_kept_progress.specs.Whole.{IsTimelySession, there}
use Rattle.wb_kept_progress.proofs.Beats.{ByReport}
use Rattle.wb_kept_progress.proofs.InTurn.{due_sends, due_tells, silent_due, silent_told}
use Rattle.wb_kept_progress.proofs.Leaving.{hears_tells, told_of}
use Rattle.wb_kept_progress.proofs.Lines.{IsSmall, are_small, does_rest, lines_grow, lines_of}
use Rattle.wb_kept_progress.proofs.NextDue.{quiet_behind, soon_there, there_here, there_other}
use Rattle.wb_kept_progress.proofs.TellingGrows.{GrowsTo, ends_still, ends_later}

-- ---- a call

-- it ends with what is due: where the host stands before that
record EndsTimed (does : Transition) (k : Keeping) : Type 0 where
  m : Keeping
  behind : after_doing does k ≡ after_doing timed m
  due : m.policy.reports.due ≡ k.policy.reports.due
  told : told_of m.policy ≡ told_of k.policy
  number : m.host.is.number ≡ k.host.is.number
  sends : (v : Datagram) → Contains (sent_by_doing timed m) v → Contains (sent_by_doing does k) v

ends_so : (k : Keeping) → EndsTimed timed k
ends_so k = record { m = k; behind = refl; due = refl; told = refl; number = refl; sends = λ v c. c }

-- behind what neither reports nor puts a report off
then_ends : (first second : Transition) (k : Keeping) → (after_doing first k).policy.reports.due ≡ k.policy.reports.due → told_of (after_doing first k).policy ≡ told_of k.policy
    → EndsTimed second (after_doing first k) → EndsTimed (and_then first second) k
then_ends first second k due told e = record {
  m = e.m;
  behind = then_after first second k ∙ e.behind;
  due = e.due ∙ due;
  told = e.told ∙ told;
  number = e.number ∙ (lines_of (first (sees k.host) k.policy).lines k.host).number;
  sends = λ v c. subst (λ (s : List Datagram). Contains s v) (sym (then_sent first second k)) (Contains-append_right (sent_by_doing first k) (sent_by_doing second (after_doing first k)) v (e.sends v c));
}

full_same : (see : List Line → View) (p : Policy) → (ends_full see p).policy ≡ p
full_same see p = by (is_full (see [])) where
  by : (b : Bool) → (let d : Doing = cond b (end see p) (still see p) in d.policy) ≡ p
  by true = refl
  by false = refl

-- no report is due
record IsQuiet (does : Transition) (k : Keeping) : Type 0 where
  due : (after_doing does k).policy.reports.due ≡ k.policy.reports.due
  told : told_of (after_doing does k).policy ≡ told_of k.policy

-- one is due, and is made of what is held then
pub record Reports (does : Transition) (k : Keeping) : Type 0 where
  pub told : told_of (after_doing does k).policy ≡ after_reporting (after_doing does k).host.is.held (told_of k.policy)
  pub moment : ℕ
  pub echoes : List Echo
  pub sends :
      let held = (after_doing does k).host.is.held in
      Contains (sent_by_doing does k) (Session k.host.is.number moment (page_reported held (told_of k.policy)) (marks_reported held (told_of k.policy)) echoes)

ends_call : (does : Transition) (k : Keeping) → EndsTimed does k → IsQuiet does k ⊎ Reports does k
ends_call does k e = ⊎_elim
    (λ is.
    let late = is.1 in
    let held : (after_doing does k).host.is.held ≡ e.m.host.is.held = ap (λ (x : Keeping). x.host.is.held) e.behind ∙ (does_rest timed (timed_each IsSmall are_small) e.m).held in
    let sent = due_sends e.m late (after_doing does k).host.is.held k.host.is.number (told_of k.policy) (sym held) e.number e.told in
    inr (record {
      told =
          ap (λ (x : Keeping). told_of x.policy) e.behind ∙ due_tells e.m late ∙ ap (after_reporting e.m.host.is.held) e.told
          ∙ ap (λ (h : List DrawopValue). after_reporting h (told_of k.policy)) (sym held);
      moment = sent.0;
      echoes = sent.1;
      sends = e.sends _ sent.2;
    }))
    (λ is.
    let early = is.1 in
    inl (record {
      due = ap (λ (x : Keeping). x.policy.reports.due) e.behind ∙ silent_due e.m early ∙ e.due;
      told = ap (λ (x : Keeping). told_of x.policy) e.behind ∙ silent_told e.m early ∙ e.told;
    }))
    (leb_tells e.m.policy.reports.due (present e.m.host))

-- what its user draws may pay, and changes no telling
drew_same : {A : Type 0} (of : Policy → A) → ((p : Policy) → of (after_drawing p) ≡ of p) → (d : DrawopValue) (v : View) (p : Policy) → of (drew d v p) ≡ of p
drew_same of same d v p = by (is_asked v d.name) where
  by : (b : Bool) → of (cond b (after_drawing p) p) ≡ of p
  by true = same p
  by false = refl

each_call : (line : KeptLine) (k : Keeping) → IsQuiet (doing_of line) k ⊎ Reports (doing_of line) k
each_call (Came now v) k =
    let first = performs (Calls (Tick now)) in
    let t = after_doing first k in
    let hears_so = hears_tells v (sees t.host) t.policy in
    ends_call (doing_of (Came now v)) k (then_ends first (and_then (hears v) timed) k refl refl (then_ends (hears v) timed t hears_so.due hears_so.told (ends_so (after_doing (hears v) t))))
each_call (Ticked now) k =
    let first = performs (Calls (Tick now)) in
    ends_call (doing_of (Ticked now)) k (then_ends first timed k refl refl (ends_so (after_doing first k)))
each_call (Added now page time op) k =
    let first = performs (Calls (Tick now)) in
    let second = draws_it page time op in
    let t = after_doing first k in
    let drawing_then = drawing (sees t.host []) page time op in
    let d = after_doing second t in
    let same = full_same (sees d.host) d.policy in
    ends_call (doing_of (Added now page time op)) k
    (then_ends first (and_then second (and_then ends_full timed)) k refl refl
    (then_ends second (and_then ends_full timed) t (drew_same (λ p. p.reports.due) (λ p. refl) drawing_then (sees t.host []) t.policy) (drew_same told_of (λ p. refl) drawing_then (sees t.host []) t.policy)
    (then_ends ends_full timed d (ap (λ (p : Policy). p.reports.due) same) (ap told_of same) (ends_so (after_doing ends_full d)))))
each_call (Tuned constants) k = inl (record { due = refl; told = refl })

-- ---- calls one after the other

-- what a host holds stays
call_grows : (hosts : ℕ → Opening) (e : At KeptLine) (older : List (At KeptLine)) (i : ℕ) → GrowsTo (there hosts older i).host.is.held (there hosts (e ∷ older) i).host.is.held
call_grows hosts e older i d c = by (nat_eq e.place i) where
  k : Keeping
  k = there hosts older i

  by : (b : Bool) → Contains (cond b (after_doing (doing_of e.event) k) k).host.is.held d
  by true = (lines_grow (doing_of e.event (sees k.host) k.policy).lines k.host).kept d c
  by false = c

pub calls_grow : (hosts : ℕ → Opening) (front part : List (At KeptLine)) (i : ℕ) → GrowsTo (there hosts part i).host.is.held (there hosts (front ++ part) i).host.is.held
calls_grow hosts [] part i d c = c
calls_grow hosts (e ∷ front) part i d c = call_grows hosts e (front ++ part) i d (calls_grow hosts front part i d c)

-- a telling that goes on ends at a source that its page has
pub ends_there_at : (hosts : ℕ → Opening) (calls : List (At KeptLine)) (i : ℕ) → EndsAtMark (there hosts calls i).host.is.held (told_of (there hosts calls i).policy)
ends_there_at hosts [] i = λ is. absurd (true≢false (sym is))
ends_there_at hosts (e ∷ older) i = by (nat_eq e.place i) (ends_there_at hosts older i) where
  k : Keeping
  k = there hosts older i

  n : Keeping
  n = after_doing (doing_of e.event) k

  grows : GrowsTo k.host.is.held n.host.is.held
  grows d c = (lines_grow (doing_of e.event (sees k.host) k.policy).lines k.host).kept d c

  by : (b : Bool) → EndsAtMark k.host.is.held (told_of k.policy) → (let x : Keeping = cond b n k in EndsAtMark x.host.is.held (told_of x.policy))
  by false ends = ends
  by true ends =
      let more = ends_later k.host.is.held n.host.is.held (told_of k.policy) grows ends in
      ⊎_elim
      (λ (q : IsQuiet (doing_of e.event) k). subst (EndsAtMark n.host.is.held) (sym q.told) more)
      (λ (r : Reports (doing_of e.event) k). subst (EndsAtMark n.host.is.held) (sym r.told) (ends_still n.host.is.held (told_of k.policy) more))
      (each_call e.event k)

-- ---- the next report of a host

module _ (hosts : ℕ → Opening) (j : ℕ) where
  -- by one of some calls it comes
  pub record FirstReport (front part : List (At KeptLine)) : Type 0 where
    pub later : List (At KeptLine)
    pub e : At KeptLine
    pub between : List (At KeptLine)
    pub split : front ≡ later ++ e ∷ between
    pub place : nat_eq e.place j ≡ true
    pub due : (there hosts (between ++ part) j).policy.reports.due ≡ (there hosts part j).policy.reports.due
    pub told : told_of (there hosts (between ++ part) j).policy ≡ told_of (there hosts part j).policy
    pub reports : Reports (doing_of e.event) (there hosts (between ++ part) j)

  record NoReport (front part : List (At KeptLine)) : Type 0 where
    due : (there hosts (front ++ part) j).policy.reports.due ≡ (there hosts part j).policy.reports.due
    told : told_of (there hosts (front ++ part) j).policy ≡ told_of (there hosts part j).policy

  first_report : (front part : List (At KeptLine)) → FirstReport front part ⊎ NoReport front part
  first_report [] part = inr (record { due = refl; told = refl })
  first_report (e ∷ front) part = ⊎_elim
      (λ (r : FirstReport front part). inl (record { later = e ∷ r.later; e = r.e; between = r.between; split = ap (λ (t : List (At KeptLine)). e ∷ t) r.split; place = r.place; due = r.due; told = r.told; reports = r.reports }))
      (λ (same : NoReport front part). by same (nat_eq e.place j) refl)
      (first_report front part) where
        k : Keeping
        k = there hosts (front ++ part) j

        by : NoReport front part → (b : Bool) → nat_eq e.place j ≡ b → FirstReport (e ∷ front) part ⊎ NoReport (e ∷ front) part
        by same false other =
            let is = there_other hosts e (front ++ part) j other in
            inr (record { due = ap (λ (x : Keeping). x.policy.reports.due) is ∙ same.due; told = ap (λ (x : Keeping). told_of x.policy) is ∙ same.told })
        by same true here =
            let is = there_here hosts e (front ++ part) j here in
            ⊎_elim
            (λ (q : IsQuiet (doing_of e.event) k). inr (record { due = ap (λ (x : Keeping). x.policy.reports.due) is ∙ q.due ∙ same.due; told = ap (λ (x : Keeping). told_of x.policy) is ∙ q.told ∙ same.told }))
            (λ (r : Reports (doing_of e.event) k). inl (record { later = []; e = e; between = front; split = refl; place = here; due = same.due; told = same.told; reports = r }))
            (each_call e.event k)

  -- it comes in time
  module _ (terms : Terms) (trace : List (At KeptLine)) (s : IsTimelySession hosts terms trace) (live : Contains terms.live j) where
    pub next_report : (newest front part : List (At KeptLine)) (x pause : ℕ) → trace ≡ newest ++ (front ++ part) → terms.quiet < time_of part → time_of part ≤ x
        → (there hosts part j).policy.reports.due + terms.lag j ≤ x + pause → x + (pause + terms.late) < time_of (front ++ part) → (r : FirstReport front part) × (r.e.time ≤ x + (pause + terms.late))
    next_report newest [] part x pause split late from due_by lt = absurd (omega (arith, from, lt))
    next_report newest (e ∷ front) part x pause split late from due_by lt = ⊎_elim
        (λ (r : FirstReport front part).
        let d = r.due in
        let split_r : trace ≡ (newest ++ e ∷ r.later) ++ r.e ∷ (r.between ++ part) =
        split ∙ ap (λ (t : List (At KeptLine)). newest ++ e ∷ (t ++ part)) r.split
        ∙ ap (λ (t : List (At KeptLine)). newest ++ e ∷ t) (append_assoc r.later (r.e ∷ r.between) part)
        ∙ sym (append_assoc newest (e ∷ r.later) (r.e ∷ (r.between ++ part))) in
        let soon = soon_there hosts terms trace s ByReport (newest ++ e ∷ r.later) (r.between ++ part) r.e j (x + pause) split_r live (quiet_behind hosts terms trace s (newest ++ e ∷ r.later) (r.e ∷ r.between) part split_r late) (omega (arith, d, due_by)) in (
          record { later = e ∷ r.later; e = r.e; between = r.between; split = ap (λ (t : List (At KeptLine)). e ∷ t) r.split; place = r.place; due = r.due; told = r.told; reports = r.reports },
          omega (arith, soon),
        ))
        (λ (same : NoReport front part).
        let d = same.due in
        let soon = soon_there hosts terms trace s ByReport newest (front ++ part) e j (x + pause) split live (quiet_behind hosts terms trace s newest (e ∷ front) part split late) (omega (arith, d, due_by)) in
        absurd (omega (arith, soon, lt)))
        (first_report front part)
