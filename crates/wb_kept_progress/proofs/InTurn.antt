-- A call of a host whose board stays as it is: where a report is due it is made, and else tellings stay; where a turn is due a name has it, and else turns stay.
use Rattle.std.proofs.Common.{◌≡◌, ℕ, ◌+◌, ◌<◌, ◌≤◌, Bool, true, false, cond, List, [], ◌∙◌, Some, ap, arith, inl, inr, length, refl, subst, sym, true≢false, ⊎_elim, ◌-◌, ◌*◌}
use Rattle.std.specs.Prelude.{◌⊎◌, Contains, max, nat_le}
use Rattle.std.proofs.lemmas.Bool.Decides.{leb_tells}
use Rattle.std.proofs.lemmas.List.Elements.{Contains-append_left, Contains-append_right}
use Rattle.wb_names.specs.Values.{DrawopValue, NameValue}
use Rattle.wb_names.specs.declared.echo.Echo.{Echo}
use Rattle.wb_names.proofs.Listings.{Contains-here}
use Rattle.wb_codec.specs.declared.datagram.Datagram.{Datagram}
use Rattle.wb_codec.specs.declared.datagram.Datagram.TheVariants.{Session}
use Rattle.wb_keeper.specs.Keeper.{holds}
use Rattle.wb_member.specs.Judged.{is_full}
use Rattle.wb_member.specs.Opened.{present, asks_for}
use Rattle.wb_policy.specs.Fairness.{after_reporting, after_turn, marks_reported, name_in_turn, page_reported}
use Rattle.wb_policy.specs.declared.reports.Told.{Told}
use Rattle.wb_keeping.specs.Fairness.{AnswersWhatIsHeld}
use Rattle.wb_keeping.specs.Kept.{Doing, Line, Transition, and_then, answers, asks_pages, reports, reports_due, still, timed, turn, turn_by_clock, turns_due, report_echoes}
use Rattle.wb_keeping.specs.Performing.{Keeping, after_doing, after_lines, sees, sent_by_doing, sent_by_lines, view_of}
use Rattle.wb_policy.specs.Pace.{gap_within}
use Rattle.wb_policy.specs.Policy.{Policy, after_beat}
use Rattle.wb_keeping.proofs.EachStep.{with_policy}
use Rattle.wb_keeping.proofs.TakenTurns.{turns_are_taken}
use Rattle.wb_keeping.proofs.Performed.{then_after, then_sent}
use Rattle.wb_keeping.proofs.ToldReports.{reports_tell}
use Rattle.wb_kept_progress.proofs.Lines.{IsOf, Rests, lines_of, IsSmall, are_small, does_rest}
use Rattle.wb_kept_progress.proofs.WantedIn.{IsAskedIn, IsAskedInCall, LacksCredit, IsWantedIn, MayBeWanted, turn_wants, wanted_later, IsAskedThen, asked_at_end, turn_owed, same_may}
use Rattle.wb_keeping.proofs.EachLine.{answers_each, asks_pages_each, due_each, timed_each, turn_each}
use Rattle.wb_kept_progress.proofs.Leaving.{Leaves, LeavesTurns, answers_leave, asks_leave, reports_late, reports_leave, reports_soon, told_of, turn_tells, turns_tell}
use Rattle.wb_policy.specs.Credit.{has_credit}
use Rattle.wb_policy.specs.declared.limits.TheConstants.{COST}
use Rattle.wb_policy.proofs.Gaps.{gap_least, gap_most}
use Rattle.std.proofs.lemmas.Bool.{le-leb, lt-leb}

-- ---- what a policy tells and whose turn it is

-- turns, tellings, the next report and the next turn are the same
pub record SamePolicy (p q : Policy) : Type 0 where
  pub turns : q.turns ≡ p.turns
  pub due : q.reports.due ≡ p.reports.due
  pub beat : q.pace.due ≡ p.pace.due
  pub told : told_of q ≡ told_of p

pub same_policy : (p : Policy) → SamePolicy p p
same_policy p = record { turns = refl; due = refl; beat = refl; told = refl }

-- a call that names the moment, and ends with what is due at it: where a host stands before that
pub record IsTimedCall (does : Transition) (k : Keeping) (now : ℕ) : Type 0 where
  pub m : Keeping
  pub behind : after_doing does k ≡ after_doing timed m
  pub sends : (v : Datagram) → Contains (sent_by_doing timed m) v → Contains (sent_by_doing does k) v
  pub wants : (n : NameValue) → IsWantedIn n timed m → IsAskedInCall n does k ⊎ LacksCredit (after_doing does k)
  pub policy : SamePolicy k.policy m.policy
  pub held : m.host.is.held ≡ k.host.is.held
  pub now_is : present m.host ≡ now
  pub of : IsOf k.host m.host
  pub answers_held : AnswersWhatIsHeld m.host

-- no report is due
pub record IsSilent (does : Transition) (k : Keeping) (now : ℕ) : Type 0 where
  pub early : now < k.policy.reports.due
  pub due : (after_doing does k).policy.reports.due ≡ k.policy.reports.due
  pub told : told_of (after_doing does k).policy ≡ told_of k.policy

-- a report is due and is made
pub record IsReporting (does : Transition) (k : Keeping) (now : ℕ) : Type 0 where
  pub late : k.policy.reports.due ≤ now
  pub told : told_of (after_doing does k).policy ≡ after_reporting k.host.is.held (told_of k.policy)
  pub least : now + 1000000 ≤ (after_doing does k).policy.reports.due
  pub most : (after_doing does k).policy.reports.due ≤ now + 96000000
  pub moment : ℕ
  pub echoes : List Echo
  pub sends : Contains (sent_by_doing does k) (Session k.host.is.number moment (page_reported k.host.is.held (told_of k.policy)) (marks_reported k.host.is.held (told_of k.policy)) echoes)

-- no turn is due
pub record IsIdle (does : Transition) (k : Keeping) (now : ℕ) : Type 0 where
  pub early : now < k.policy.pace.due
  pub due : (after_doing does k).policy.pace.due ≡ k.policy.pace.due
  pub turns : (after_doing does k).policy.turns ≡ k.policy.turns

-- a turn is due, and a name has it
pub record IsTurning (does : Transition) (k : Keeping) (now : ℕ) : Type 0 where
  pub late : k.policy.pace.due ≤ now
  pub turns : (after_doing does k).policy.turns ≡ after_turn k.host.is.held k.policy.turns
  pub least : now + 1000000 ≤ (after_doing does k).policy.pace.due
  pub most : (after_doing does k).policy.pace.due ≤ now + 16000000
  pub now_is : present (after_doing does k).host ≡ now
  pub wants : (n : NameValue) → holds k.host.is.held n ≡ false → is_full k.host ≡ false → name_in_turn k.host.is.held k.policy.turns ≡ Some n
      → IsAskedInCall n does k ⊎ LacksCredit (after_doing does k)

-- ---- what is due

abbrev done : Keeping → Doing → Keeping
done k d = record { host = after_lines d.lines k.host; policy = d.policy }

module _ (m : Keeping) where
  abbrev a : Keeping
  a = after_doing answers m

  abbrev q : Keeping
  q = after_doing asks_pages a

  abbrev r : Keeping
  r = after_doing reports q

  -- behind the report, if one is due
  abbrev pub reported : Keeping
  reported = after_doing reports_due q

  -- where the clock gives a turn
  abbrev begun : Keeping
  begun = with_policy (after_beat (present reported.host) reported.policy) reported

  abbrev two : Transition
  two = and_then reports_due turns_due

  rests_a : Rests m.host a.host
  rests_a = does_rest answers (answers_each IsSmall are_small) m

  rests_q : Rests a.host q.host
  rests_q = does_rest asks_pages (asks_pages_each IsSmall are_small) a

  rests_r : Rests q.host reported.host
  rests_r = does_rest reports_due (due_each IsSmall are_small) q

  leaves_a : Leaves m.policy a.policy
  leaves_a = answers_leave (sees m.host) m.policy

  leaves_q : Leaves a.policy q.policy
  leaves_q = asks_leave (sees a.host) a.policy

  leaves_r : LeavesTurns q.policy reported.policy
  leaves_r = reports_leave (sees q.host) q.policy

  now_q : present q.host ≡ present m.host
  now_q = rests_q.now ∙ rests_a.now

  held_q : q.host.is.held ≡ m.host.is.held
  held_q = rests_q.held ∙ rests_a.held

  due_q : q.policy.reports.due ≡ m.policy.reports.due
  due_q = leaves_q.due ∙ leaves_a.due

  told_q : told_of q.policy ≡ told_of m.policy
  told_q = leaves_q.told ∙ leaves_a.told

  number_q : q.host.is.number ≡ m.host.is.number
  number_q = (lines_of (asks_pages (sees a.host) a.policy).lines a.host).number ∙ (lines_of (answers (sees m.host) m.policy).lines m.host).number

  now_r : present reported.host ≡ present m.host
  now_r = rests_r.now ∙ now_q

  held_r : reported.host.is.held ≡ m.host.is.held
  held_r = rests_r.held ∙ held_q

  turns_r : reported.policy.turns ≡ m.policy.turns
  turns_r = leaves_r.turns ∙ leaves_q.turns ∙ leaves_a.turns

  beat_r : reported.policy.pace.due ≡ m.policy.pace.due
  beat_r = leaves_r.beat ∙ leaves_q.beat ∙ leaves_a.beat

  pub owed_r : reported.policy.owed ≡ m.policy.owed
  owed_r = leaves_r.owed ∙ leaves_q.owed ∙ leaves_a.owed

  pub to_turn : after_doing timed m ≡ after_doing turns_due reported
  to_turn = then_after answers (and_then asks_pages two) m ∙ then_after asks_pages two a ∙ then_after reports_due turns_due q

  pub timed_now : present (after_doing timed m).host ≡ present m.host
  timed_now = (does_rest timed (timed_each IsSmall are_small) m).now

  abbrev by_report : Bool → Keeping
  by_report b = done q (cond b (reports (sees q.host) q.policy) (still (sees q.host) q.policy))

  abbrev by_turn : Bool → Keeping
  by_turn b = done reported (cond b (turn_by_clock (sees reported.host) reported.policy) (still (sees reported.host) reported.policy))

  -- what a report tells stays told
  timed_due : (after_doing timed m).policy.reports.due ≡ reported.policy.reports.due
  timed_due = ap (λ (x : Keeping). x.policy.reports.due) to_turn ∙ (turns_tell (sees reported.host) reported.policy).0

  timed_told : told_of (after_doing timed m).policy ≡ told_of reported.policy
  timed_told = ap (λ (x : Keeping). told_of x.policy) to_turn ∙ (turns_tell (sees reported.host) reported.policy).1

  -- no report is due
  module _ (early : present m.host < m.policy.reports.due) where
    not_due : nat_le q.policy.reports.due (present q.host) ≡ false
    not_due = lt-leb q.policy.reports.due (present q.host) (let d = due_q in let n = now_q in omega (arith, early, d, n))

    silent_there : reported ≡ q
    silent_there = ap by_report not_due

    pub silent_due : (after_doing timed m).policy.reports.due ≡ m.policy.reports.due
    silent_due = timed_due ∙ ap (λ (x : Keeping). x.policy.reports.due) silent_there ∙ due_q

    pub silent_told : told_of (after_doing timed m).policy ≡ told_of m.policy
    silent_told = timed_told ∙ ap (λ (x : Keeping). told_of x.policy) silent_there ∙ told_q

  -- a report is due
  module _ (late : m.policy.reports.due ≤ present m.host) where
    is_due_now : nat_le q.policy.reports.due (present q.host) ≡ true
    is_due_now = le-leb q.policy.reports.due (present q.host) (let d = due_q in let n = now_q in omega (arith, late, d, n))

    pub there : reported ≡ r
    there = ap by_report is_due_now

    pub due_tells : told_of (after_doing timed m).policy ≡ after_reporting m.host.is.held (told_of m.policy)
    due_tells =
        let tells = reports_tell (sees q.host) q.policy in
        timed_told ∙ ap (λ (x : Keeping). told_of x.policy) there ∙ tells.1
        ∙ ap (λ (h : List DrawopValue). after_reporting h (told_of q.policy)) held_q ∙ ap (after_reporting m.host.is.held) told_q

    pub due_is : (after_doing timed m).policy.reports.due ≡ r.policy.reports.due
    due_is = timed_due ∙ ap (λ (x : Keeping). x.policy.reports.due) there

    pub due_soon : (after_doing timed m).policy.reports.due ≤ present m.host + 96000000
    due_soon =
        let soon = reports_soon (sees q.host) q.policy in
        let n = now_q in
        let e = due_is in
        omega (arith, soon, n, e)

    pub due_later : present m.host + 1000000 ≤ (after_doing timed m).policy.reports.due
    due_later =
        let later = reports_late (sees q.host) q.policy in
        let n = now_q in
        let e = due_is in
        omega (arith, later, n, e)

    abbrev report : Datagram
    report =
        Session q.host.is.number (present q.host) (page_reported q.host.is.held (told_of q.policy)) (marks_reported q.host.is.held (told_of q.policy))
        (report_echoes (view_of q.host) q.policy)

    report_sent : Contains (sent_by_doing reports q) report
    report_sent =
        let tells = reports_tell (sees q.host) q.policy in
        subst (λ (lines : List Line). Contains (sent_by_lines lines q.host) report) (sym tells.0) (Contains-here report [])

    all_sent : Contains (sent_by_doing timed m) report
    all_sent =
        let due : Contains (sent_by_doing reports_due q) report =
        subst (λ (b : Bool). Contains (sent_by_lines (cond b (reports (sees q.host) q.policy) (still (sees q.host) q.policy)).lines q.host) report) (sym is_due_now) report_sent in
        let both : Contains (sent_by_doing two q) report =
        subst (λ (s : List Datagram). Contains s report) (sym (then_sent reports_due turns_due q))
        (Contains-append_left (sent_by_doing reports_due q) (sent_by_doing turns_due reported) report due) in
        let three : Contains (sent_by_doing (and_then asks_pages two) a) report =
        subst (λ (s : List Datagram). Contains s report) (sym (then_sent asks_pages two a))
        (Contains-append_right (sent_by_doing asks_pages a) (sent_by_doing two q) report both) in
        subst (λ (s : List Datagram). Contains s report) (sym (then_sent answers (and_then asks_pages two) m))
        (Contains-append_right (sent_by_doing answers m) (sent_by_doing (and_then asks_pages two) a) report three)

    pub due_sends : (held : List DrawopValue) (number : ℕ) (t : Told) → m.host.is.held ≡ held → m.host.is.number ≡ number → told_of m.policy ≡ t
        → (moment : ℕ) × (echoes : List Echo) × Contains (sent_by_doing timed m) (Session number moment (page_reported held t) (marks_reported held t) echoes)
    due_sends held number t same_held same_number same_told =
        (present q.host, report_echoes (view_of q.host) q.policy, subst (λ (v : Datagram). Contains (sent_by_doing timed m) v) same all_sent) where
          echoes : List Echo
          echoes = report_echoes (view_of q.host) q.policy

          same : report ≡ Session number (present q.host) (page_reported held t) (marks_reported held t) echoes
          same =
              ap (λ (me : ℕ). Session me (present q.host) (page_reported q.host.is.held (told_of q.policy)) (marks_reported q.host.is.held (told_of q.policy)) echoes)
              (number_q ∙ same_number)
              ∙ ap (λ (h : List DrawopValue). Session number (present q.host) (page_reported h (told_of q.policy)) (marks_reported h (told_of q.policy)) echoes)
              (held_q ∙ same_held)
              ∙ ap (λ (u : Told). Session number (present q.host) (page_reported held u) (marks_reported held u) echoes) (told_q ∙ same_told)

  -- no turn is due
  module _ (early : present m.host < m.policy.pace.due) where
    no_turn : nat_le reported.policy.pace.due (present reported.host) ≡ false
    no_turn = lt-leb reported.policy.pace.due (present reported.host) (let d = beat_r in let n = now_r in omega (arith, early, d, n))

    idle_there : after_doing timed m ≡ reported
    idle_there = to_turn ∙ ap by_turn no_turn

    pub idle_due : (after_doing timed m).policy.pace.due ≡ m.policy.pace.due
    idle_due = ap (λ (x : Keeping). x.policy.pace.due) idle_there ∙ beat_r

    pub idle_turns : (after_doing timed m).policy.turns ≡ m.policy.turns
    idle_turns = ap (λ (x : Keeping). x.policy.turns) idle_there ∙ turns_r

  -- a turn is due
  module _ (late : m.policy.pace.due ≤ present m.host) where
    is_turn_now : nat_le reported.policy.pace.due (present reported.host) ≡ true
    is_turn_now = le-leb reported.policy.pace.due (present reported.host) (let d = beat_r in let n = now_r in omega (arith, late, d, n))

    pub turned_there : after_doing timed m ≡ after_doing turn begun
    turned_there = to_turn ∙ ap by_turn is_turn_now

    pub turned_turns : (after_doing timed m).policy.turns ≡ after_turn m.host.is.held m.policy.turns
    turned_turns =
        ap (λ (x : Keeping). x.policy.turns) turned_there ∙ turns_are_taken (sees begun.host) begun.policy
        ∙ ap (λ (h : List DrawopValue). after_turn h reported.policy.turns) held_r ∙ ap (after_turn m.host.is.held) turns_r

    turned_due : (after_doing timed m).policy.pace.due ≡ present reported.host + gap_within reported.policy.pace.gap
    turned_due = ap (λ (x : Keeping). x.policy.pace.due) turned_there ∙ (turn_tells (sees begun.host) begun.policy).beat

    pub turned_later : present m.host + 1000000 ≤ (after_doing timed m).policy.pace.due
    turned_later =
        let e = turned_due in
        let n = now_r in
        let least = gap_least reported.policy.pace.gap in
        later _ _ _ _ e n least where
          later : (due now then gap : ℕ) → due ≡ now + gap → now ≡ then → 1000000 ≤ gap → then + 1000000 ≤ due
          later due now then gap e n least = omega (arith, e, n, least)

    pub turned_soon : (after_doing timed m).policy.pace.due ≤ present m.host + 16000000
    turned_soon =
        let e = turned_due in
        let n = now_r in
        let most = gap_most reported.policy.pace.gap in
        sooner _ _ _ _ e n most where
          sooner : (due now then gap : ℕ) → due ≡ now + gap → now ≡ then → gap ≤ 16000000 → due ≤ then + 16000000
          sooner due now then gap e n most = omega (arith, e, n, most)

    when_due : (n : NameValue) → IsWantedIn n turn begun → IsWantedIn n turns_due reported
    when_due n is = ⊎_elim
        (λ (x : IsAskedIn n turn begun). inl (record {
          before = x.before;
          later = x.later;
          lines = ap (λ (b : Bool). (cond b (turn_by_clock (sees reported.host) reported.policy) (still (sees reported.host) reported.policy)).lines) is_turn_now ∙ x.lines;
          stands = x.stands;
        }))
        (λ (without : LacksCredit (after_doing turn begun)). inr (subst LacksCredit (sym (ap by_turn is_turn_now)) without))
        is

    asked_r : (n : NameValue) → MayBeWanted m n → name_in_turn m.host.is.held m.policy.turns ≡ Some n → IsAskedThen n (after_doing turn begun)
    asked_r n may in_turn = turn_wants n begun (other_policy (same_may n reports_due q rests_r.held (same_may n asks_pages a rests_q.held (same_may n answers m rests_a.held may))))
        (ap (λ (h : List DrawopValue). name_in_turn h reported.policy.turns) held_r ∙ ap (name_in_turn m.host.is.held) turns_r ∙ in_turn) where
          other_policy : MayBeWanted reported n → MayBeWanted begun n
          other_policy may = record { answers_held = may.answers_held; lacks = may.lacks; room = may.room }

    pub due_wants : (n : NameValue) → MayBeWanted m n → name_in_turn m.host.is.held m.policy.turns ≡ Some n → IsWantedIn n timed m
    due_wants n may in_turn =
        wanted_later n answers (and_then asks_pages two) m
        (wanted_later n asks_pages two a (wanted_later n reports_due turns_due q (when_due n (asked_at_end n turn begun (asked_r n may in_turn)))))

    -- all names are paid for
    module _ (paid : m.policy.owed ≤ present m.host) where
      owed_turn : (after_doing turn begun).policy.owed ≤ present m.host + 250000
      owed_turn =
          let e = owed_r in
          let n = now_r in
          let owed : begun.policy.owed ≤ present begun.host = omega (arith, paid, e, n) in
          let le : (after_doing turn begun).policy.owed ≤ present begun.host + 250000 = turn_owed (sees begun.host) begun.policy owed in
          omega (arith, le, n)

      pub due_owed : (after_doing timed m).policy.owed ≤ present m.host + 250000
      due_owed = let e = ap (λ (x : Keeping). x.policy.owed) turned_there in let le = owed_turn in omega (arith, e, le)

      pub due_asks : (n : NameValue) → MayBeWanted m n → name_in_turn m.host.is.held m.policy.turns ≡ Some n → asks_for n (after_doing timed m).host ≡ true
      due_asks n may in_turn =
          let x = after_doing turn begun in
          let now = (does_rest turn (turn_each IsSmall are_small) begun).now ∙ now_r in
          ap (λ (k : Keeping). asks_for n k.host) turned_there
          ∙ ⊎_elim
          (λ (stands : asks_for n x.host ≡ true). stands)
          (λ (without : LacksCredit x). absurd (true≢false (sym (has_credit_then x.policy.owed (present x.host) (present m.host) owed_turn now) ∙ without)))
          (asked_r n may in_turn) where
            has_credit_then : (owed now then : ℕ) → owed ≤ then + 250000 → now ≡ then → has_credit owed now ≡ true
            has_credit_then owed now then le e = le-leb (max owed now - now) (63 * COST) (omega (arith, le, e))

-- ---- the whole call

module _ (does : Transition) (k : Keeping) (now : ℕ) (call : IsTimedCall does k now) where
  abbrev here : Keeping
  here = call.m

  pub call_is_now : present (after_doing does k).host ≡ now
  call_is_now = ap (λ (x : Keeping). present x.host) call.behind ∙ timed_now here ∙ call.now_is

  pub is_silent : now < k.policy.reports.due → IsSilent does k now
  is_silent early =
      let due = call.policy.due in
      let n = call.now_is in
      let early_m : present here.host < here.policy.reports.due = omega (arith, early, due, n) in
      record {
        early = early;
        due = ap (λ (x : Keeping). x.policy.reports.due) call.behind ∙ silent_due here early_m ∙ due;
        told = ap (λ (x : Keeping). told_of x.policy) call.behind ∙ silent_told here early_m ∙ call.policy.told;
      }

  pub is_reporting : k.policy.reports.due ≤ now → IsReporting does k now
  is_reporting late =
      let due = call.policy.due in
      let n = call.now_is in
      let late_m : here.policy.reports.due ≤ present here.host = omega (arith, late, due, n) in
      let sent = due_sends here late_m k.host.is.held k.host.is.number (told_of k.policy) call.held call.of.number call.policy.told in
      let soon = due_soon here late_m in
      let later = due_later here late_m in
      let e = ap (λ (x : Keeping). x.policy.reports.due) call.behind in
      record {
        late = late;
        told =
            ap (λ (x : Keeping). told_of x.policy) call.behind ∙ due_tells here late_m
            ∙ ap (λ (h : List DrawopValue). after_reporting h (told_of here.policy)) call.held ∙ ap (after_reporting k.host.is.held) call.policy.told;
        least = omega (arith, later, e, n);
        most = omega (arith, soon, e, n);
        moment = sent.0;
        echoes = sent.1;
        sends = call.sends _ sent.2;
      }

  pub is_idle : now < k.policy.pace.due → IsIdle does k now
  is_idle early =
      let due = call.policy.beat in
      let n = call.now_is in
      let early_m : present here.host < here.policy.pace.due = omega (arith, early, due, n) in
      record {
        early = early;
        due = ap (λ (x : Keeping). x.policy.pace.due) call.behind ∙ idle_due here early_m ∙ due;
        turns = ap (λ (x : Keeping). x.policy.turns) call.behind ∙ idle_turns here early_m ∙ call.policy.turns;
      }

  pub is_turning : k.policy.pace.due ≤ now → IsTurning does k now
  is_turning late =
      let due = call.policy.beat in
      let n = call.now_is in
      let late_m : here.policy.pace.due ≤ present here.host = omega (arith, late, due, n) in
      let soon = turned_soon here late_m in
      let later = turned_later here late_m in
      let e = ap (λ (x : Keeping). x.policy.pace.due) call.behind in
      record {
        late = late;
        turns =
            ap (λ (x : Keeping). x.policy.turns) call.behind ∙ turned_turns here late_m ∙ ap (λ (h : List DrawopValue). after_turn h here.policy.turns) call.held
            ∙ ap (after_turn k.host.is.held) call.policy.turns;
        least = omega (arith, later, e, n);
        most = omega (arith, soon, e, n);
        now_is = call_is_now;
        wants = λ n lacks room in_turn. call.wants n (due_wants here late_m n (record {
          answers_held = call.answers_held;
          lacks = ap (λ (h : List DrawopValue). holds h n) call.held ∙ lacks;
          room =
              ap (λ (h : List DrawopValue). nat_le here.host.is.cells (length h)) call.held ∙ ap (λ (c : ℕ). nat_le c (length k.host.is.held)) call.of.cells
              ∙ room;
        }) (ap (λ (h : List DrawopValue). name_in_turn h here.policy.turns) call.held ∙ ap (name_in_turn k.host.is.held) call.policy.turns ∙ in_turn));
      }

  pub silent_or_reporting : IsSilent does k now ⊎ IsReporting does k now
  silent_or_reporting = ⊎_elim
      (λ (yes : (nat_le k.policy.reports.due now ≡ true) × (k.policy.reports.due ≤ now)). inr (is_reporting yes.1))
      (λ (no : (nat_le k.policy.reports.due now ≡ false) × (now < k.policy.reports.due)). inl (is_silent no.1))
      (leb_tells k.policy.reports.due now)

  pub idle_or_turning : IsIdle does k now ⊎ IsTurning does k now
  idle_or_turning = ⊎_elim
      (λ (yes : (nat_le k.policy.pace.due now ≡ true) × (k.policy.pace.due ≤ now)). inr (is_turning yes.1))
      (λ (no : (nat_le k.policy.pace.due now ≡ false) × (now < k.policy.pace.due)). inl (is_idle no.1))
      (leb_tells k.policy.pace.due now)
