-- When the next report of a host is due: by its rate, and by how many members it counts.
use Rattle.std.proofs.Common.{◌≡◌, ℕ, ◌+◌, ◌*◌, ◌/◌, ◌<◌, ◌≤◌, Bool, true, false, cond, List, [], ◌∷◌, ◌++◌, ◌∙◌, Option, Some, None, ap, append_assoc, arith, eqb-true, get_or, inl, inr, length, max, mul-le-mul, refl, subst, sym, ⊎_elim}
use Rattle.std.specs.Prelude.{◌⊎◌, ◌%◌, Contains, map, min, nat_eq, nat_le, take}
use Rattle.std.specs.List.{cons_option, filter_map}
use Rattle.std.specs.List.Sorted.{IsStrictlySortedBy}
use Rattle.std.specs.Ordering.{match_ordering}
use Rattle.std.specs.declared.cmp.Ordering.{Ordering}
use Rattle.std.specs.declared.cmp.Ordering.TheVariants.{Less, Equal, Greater}
use Rattle.std.proofs.Math.Nat.{div-mul-le_self, le_refl}
use Rattle.std.proofs.lemmas.Bool.Decides.{leb_tells}
use Rattle.std.proofs.lemmas.Map.Keys.{Less-from_sorted}
use Rattle.std.proofs.lemmas.Nat.{le-div}
use Rattle.std.proofs.lemmas.Cmp.{ranked}
use Rattle.wb_names.specs.Ascending.{AreEchoes}
use Rattle.wb_names.specs.Values.{MarkValue, NameValue}
use Rattle.wb_names.specs.declared.echo.Echo.{Echo}
use Rattle.wb_names.specs.declared.name.PageId.{PageId}
use Rattle.wb_codec.specs.declared.datagram.Datagram.TheVariants.{Draw, AskPages}
use Rattle.wb_gaps.specs.Answers.{pages_of, report_of}
use Rattle.wb_gaps.specs.Sorting.{inserted, sorted}
use Rattle.wb_keeper.specs.Keeper.{KeeperCall, senders_of}
use Rattle.wb_keeper.specs.Sessions.{echo_cmp, echo_to, echoes_of}
use Rattle.wb_keeper.proofs.FirstSenders.{senders_few}
use Rattle.wb_progress.specs.Turns.{IsNowAt, Terms, settled_by}
use Rattle.wb_member.specs.Judged.{echoes}
use Rattle.wb_member.specs.Members.{Misses}
use Rattle.wb_member.specs.Opened.{Opened, doing as does_act, may_ask, present}
use Rattle.wb_member.specs.Random.{word_of as member_word}
use Rattle.wb_member.specs.declared.calls.Call.TheVariants.{Tick, SetDelay, Ask, Stop}
use Rattle.wb_policy.specs.Policy.{Policy, after_answer, after_question, after_wanting}
use Rattle.wb_policy.specs.Choices.{last_source}
use Rattle.wb_policy.specs.Questions.{is_due}
use Rattle.wb_policy.specs.Reports.{from_source, is_telling, is_untold, mean_time, members_in, newest_now, next_report, page_after, report_bytes, rest_after, slice_after}
use Rattle.wb_policy.specs.Words.{word_of}
use Rattle.wb_policy.specs.declared.limits.TheConstants.{HEARD}
use Rattle.wb_policy.proofs.Latest.{reports_are_small}
use Rattle.wb_keeping.specs.Kept.{Calls, Doing, Line, Says, Transition, answers, asks_pages, hears, performs, reports, reports_due, reports_either, reports_rest, state_of, still, timed, turns_due, want, report_echoes}
use Rattle.wb_keeping.specs.Laws.{KeptLine, Came, Ticked, Added, Tuned, doing_of, fault_of}
use Rattle.wb_keeping.specs.Performing.{Keeping, after_doing, after_line, after_lines, sees}
use Rattle.wb_keeping.specs.Views.{View, is_known}
use Rattle.wb_keeping.proofs.EachLine.{DoesEach, answers_each, asks_pages_each, due_each, turns_each}
use Rattle.wb_keeping.proofs.EachStep.{HoldsOfSteps, having, line_holds, timed_holds}
use Rattle.wb_keeping.proofs.Performed.{then_after}
use Rattle.wb_keeping.proofs.Wanted.{is_wanted_here, lines_wanted}
use Rattle.wb_kept_progress.specs.Sessions.{AreTaken, At, Opening, kept_at}
use Rattle.wb_kept_progress.specs.Timed.{AreInOrder, SaysNow, TellTimes, time_of}
use Rattle.wb_kept_progress.specs.Whole.{AreNoSlower, IsTimelySession, ReportsGoByRates, pause_of, there}
use Rattle.wb_kept_progress.proofs.Counted.{echoes_listed, members_are_live}
use Rattle.wb_kept_progress.proofs.InTurn.{due_is, silent_due, timed_now, to_turn}
use Rattle.wb_kept_progress.proofs.Leaving.{hears_tells}
use Rattle.wb_kept_progress.proofs.Moments.{IsTuned, moment_of, told_itself, told_or_tuned}
use Rattle.wb_kept_progress.proofs.StillCalls.{IsTuning, call_now, tuned_only}
use Rattle.wb_kept_progress.proofs.WindowParts.{told_in}
use Rattle.wb_kept_progress.proofs.Lines.{AreSmall, IsSmall, are_small, does_rest}
use Rattle.wb_kept_progress.proofs.NextDue.{there_here, there_other}
use Rattle.wb_kept_progress.proofs.OwedAndDue.{due_there, now_there, taken_of}
use Rattle.wb_kept_progress.proofs.Repairs.{came_after}
use Rattle.wb_kept_progress.proofs.TurnsApart.{DrawsNothing}
use Rattle.wb_progress.proofs.Parts.{order_of}

-- ---- the echoes of a host ascend, and are at most 65,535

inserted_longer : (e : Echo) (es : List Echo) → length (inserted echo_cmp e es) ≤ length es + 1
inserted_longer e [] = omega arith
inserted_longer e (y ∷ ys) = by (echo_cmp e y) (inserted_longer e ys) where
  by : (o : Ordering) → length (inserted echo_cmp e ys) ≤ length ys + 1
      → length (match_ordering o (e ∷ y ∷ ys) (y ∷ ys) (y ∷ inserted echo_cmp e ys)) ≤ length (y ∷ ys) + 1
  by Less rest = omega arith
  by Equal rest = omega arith
  by Greater rest = omega (arith, rest)

pub sorted_few : (es : List Echo) → length (sorted echo_cmp es) ≤ length es
sorted_few [] = omega arith
sorted_few (e ∷ es) = let one = inserted_longer e (sorted echo_cmp es) in let rest = sorted_few es in omega (arith, one, rest)

pub mapped_few : (f : ℕ → Option Echo) (sources : List ℕ) → length (filter_map f sources) ≤ length sources
mapped_few f [] = omega arith
mapped_few f (s ∷ sources) = by (f s) (mapped_few f sources) where
  by : (o : Option Echo) → length (filter_map f sources) ≤ length sources → length (cons_option o (filter_map f sources)) ≤ length (s ∷ sources)
  by None rest = omega (arith, rest)
  by (Some e) rest = omega (arith, rest)

module _ (me : ℕ) (calls : List KeeperCall) (now : ℕ) where
  rising : IsStrictlySortedBy echo_cmp (echoes_of me calls now)
  rising = (echoes_listed me calls now).rising

  pub lawful_echoes : AreEchoes (echoes_of me calls now)
  lawful_echoes = record {
    ascending = λ i j d lt within. ranked (get_or (echoes_of me calls now) i d).source (get_or (echoes_of me calls now) j d).source Less (sym (Less-from_sorted echo_cmp (echoes_of me calls now) i j d rising lt within));
    positive = λ i d lt. tt;
    few = let a = sorted_few (filter_map (echo_to me calls now) (senders_of me calls)) in let b = mapped_few (echo_to me calls now) (senders_of me calls) in let c = senders_few me calls in omega (arith, a, b, c);
  }

-- what is left of a telling fits into a report
rest_small : (until : ℕ) (told : Option ℕ) (marks : List MarkValue) (v : View) (p : Policy) → AreEchoes v.echoes → report_bytes (rest_after until told marks) (report_echoes v p) ≤ 1184
rest_small until told marks v p lawful = by (is_telling until told) where
  by : (b : Bool) → report_bytes (cond b (slice_after told marks) []) (report_echoes v p) ≤ 1184
  by true = reports_are_small told marks (is_known v) p.echoed v.echoes lawful
  by false = reports_are_small told [] (is_known v) p.echoed v.echoes lawful

-- ---- the mean time

less_quotient : (a b rate least : ℕ) → a ≤ b → 1 ≤ least → least ≤ rate → a / rate ≤ b / least
less_quotient a b rate least le some more = le-div (a / rate) b least (omega (arith, some)) (chain (a / rate * least) (a / rate * rate) a b (mul-le-mul (le_refl (a / rate)) more) (div-mul-le_self a rate) le) where
  chain : (x y a b : ℕ) → x ≤ y → y ≤ a → a ≤ b → x ≤ b
  chain x y a b one two three = omega (arith, one, two, three)

sooner_mean : (rate members bytes least most : ℕ) → 1 ≤ least → least ≤ rate → members ≤ most → bytes ≤ 1184 → mean_time rate members bytes ≤ mean_time least most 1184
sooner_mean rate members bytes least most some more few small =
    clamped _ _ (less_quotient (members * bytes * 1000000) (most * 1184 * 1000000) rate least (millions _ _ (mul-le-mul few small)) some more) where
      millions : (a b : ℕ) → a ≤ b → a * 1000000 ≤ b * 1000000
      millions a b le = omega (arith, le)

      clamped : (a b : ℕ) → a ≤ b → min (max a 2000000) 64000000 ≤ min (max b 2000000) 64000000
      clamped a b le = omega (arith, le)

next_by : (now mean longest word : ℕ) → mean ≤ longest → next_report now mean (word % (mean + 1)) ≤ now + 3 * longest / 2
next_by now mean longest word le = let few = under word mean in omega (arith, few, le) where
  under : (a b : ℕ) → a % (b + 1) ≤ b
  under a b = omega arith

-- ---- a report

module _ (least most : ℕ) (some : 1 ≤ least) where
  rest_pause : (marks : List MarkValue) (see : List Line → View) (p : Policy) → least ≤ p.reports.rate → members_in (see []).echoes ≤ most
      → AreEchoes (see []).echoes → report_bytes marks (report_echoes (see []) p) ≤ 1184
      → (reports_rest marks see p).policy.reports.due ≤ (see []).now + pause_of least most
  rest_pause [] see p more few lawful small =
      let marks = report_of (see []).held (page_after p.told.page (pages_of (see []).held)) in
      next_by (see []).now _ _ (word_of p.words)
      (sooner_mean p.reports.rate (members_in (see []).echoes) (report_bytes (slice_after None marks) (report_echoes (see []) p)) least most some more few (reports_are_small None marks (is_known (see [])) p.echoed (see []).echoes lawful))
  rest_pause (m ∷ marks) see p more few lawful small =
      next_by (see []).now _ _ (word_of p.words)
      (sooner_mean p.reports.rate (members_in (see []).echoes) (report_bytes (m ∷ marks) (report_echoes (see []) p)) least most some more few small)

  report_pause : (name : Option NameValue) (see : List Line → View) (p : Policy) → least ≤ p.reports.rate → members_in (see []).echoes ≤ most → AreEchoes (see []).echoes
      → (reports_either name see p).policy.reports.due ≤ (see []).now + pause_of least most
  report_pause None see p more few lawful =
      let t = p.told in
      let marks = report_of (see []).held t.page in
      rest_pause (rest_after t.until t.last marks) see p more few lawful (rest_small t.until t.last marks (see []) p lawful)
  report_pause (Some name) see p more few lawful =
      let marks = report_of (see []).held name.page in
      let told = cond (is_untold (last_source None (slice_after None marks)) name.source) (from_source name.source) None in
      next_by (see []).now _ _ (word_of p.words)
      (sooner_mean p.reports.rate (members_in (see []).echoes) (report_bytes (slice_after told marks) (report_echoes (see []) p)) least most some more few (reports_are_small told marks (is_known (see [])) p.echoed (see []).echoes lawful))

-- ---- what a policy asks and tells leaves the echoes

same_echoes : (line : Line) (host : Opened) → IsSmall line → echoes (after_line line host) ≡ echoes host
same_echoes (Calls (Ask name)) host small = by (may_ask name host) where
  by : (b : Bool) → echoes (cond b (does_act (Misses (present host) (name ∷ []) (member_word host.random ∷ [])) 1 host) host) ≡ echoes host
  by true = refl
  by false = refl
same_echoes (Calls (Stop name)) host small = refl
same_echoes (Calls (SetDelay source micros)) host small = refl
same_echoes (Says (Draw d)) host small = absurd small
same_echoes (Says v) host small = refl
same_echoes line host small = absurd small

lines_same : (lines : List Line) (host : Opened) → AreSmall lines → echoes (after_lines lines host) ≡ echoes host
lines_same [] host small = refl
lines_same (line ∷ lines) host small = lines_same lines (after_line line host) small.1 ∙ same_echoes line host small.0

does_same : (does : Transition) → DoesEach IsSmall does → (k : Keeping) → echoes (after_doing does k).host ≡ echoes k.host
does_same does small k = lines_same (does (sees k.host) k.policy).lines k.host (small (sees k.host) k.policy)

-- ---- the rate stays

abbrev KeepsRate : Keeping → List Line → Keeping → Type 0
KeepsRate k lines m = m.policy.reports.rate ≡ k.policy.reports.rate

wants_keep : (name : NameValue) (anew : Bool) (k : Keeping) → (after_doing (want name anew) k).policy.reports.rate ≡ k.policy.reports.rate
wants_keep name anew k = by (is_wanted_here name anew (sees k.host) k.policy) where
  by : (b : Bool) → (let d : Doing = cond b (record { policy = after_wanting (present k.host) k.policy; lines = lines_wanted name anew (sees k.host) k.policy }) (still (sees k.host) k.policy) in d.policy.reports.rate) ≡ k.policy.reports.rate
  by true = refl
  by false = refl

rates_stay : HoldsOfSteps KeepsRate
rates_stay = record {
  due = record {
    nothing = λ k. refl;
    both = λ k m n one other a b. b ∙ a;
    wants = wants_keep;
    turned = λ t l k. refl;
    beats = λ k due. refl;
    answers = λ k is. refl;
    asks_pages = λ k is. refl;
    reports = λ page then told k is. refl;
  };
  ticks = λ now k later. refl;
  arrives = λ d k free. refl;
  answered = λ d k lacks asked. refl;
  hears = λ v k. refl;
  stops = λ name k full. refl;
  sets = λ source micros k. refl;
  lends = λ source k. refl;
  takes_back = λ source k. refl;
  tunes = λ constants k within. refl;
  draws = λ d k unasked. refl;
  drawn = λ d k asked. refl;
  measured = λ micros k. refl;
  told = λ k. refl;
  takes_up = λ k is. refl;
}

rate_at : (hosts : ℕ → Opening) (lines : List (At KeptLine)) (i : ℕ) → AreTaken hosts lines → (kept_at hosts lines i).policy.reports.rate ≡ (hosts i).rate
rate_at hosts [] i taken = refl
rate_at hosts (e ∷ older) i taken = by (rate_at hosts older i taken.1) (nat_eq e.place i) refl where
  by : (kept_at hosts older i).policy.reports.rate ≡ (hosts i).rate → (b : Bool) → nat_eq e.place i ≡ b
      → (let k : Keeping = cond b (after_doing (doing_of e.event) (kept_at hosts older i)) (kept_at hosts older i) in k.policy.reports.rate) ≡ (hosts i).rate
  by old false other = old
  by old true same =
      let none = subst (λ (p : ℕ). fault_of e.event (kept_at hosts older p) ≡ None) (eqb-true e.place i same) taken.0 in
      line_holds KeepsRate rates_stay e.event (kept_at hosts older i) none ∙ old

either_rate : (p : Policy) (b : Bool) (x y : Doing) → x.policy.reports.rate ≡ p.reports.rate → y.policy.reports.rate ≡ p.reports.rate → (let d : Doing = cond b x y in d.policy.reports.rate) ≡ p.reports.rate
either_rate p true x y one other = one
either_rate p false x y one other = other

answers_rate : (see : List Line → View) (p : Policy) → (answers see p).policy.reports.rate ≡ p.reports.rate
answers_rate see p =
    let v = see [] in
    either_rate p (is_due v.now p.questions.answer) (record { policy = after_answer v.now (length (take 64 (pages_of v.held))) p; lines = map (λ (page : PageId). Says (state_of v page)) (take 64 (pages_of v.held)) }) (still see p) refl refl

asks_rate : (see : List Line → View) (p : Policy) → (asks_pages see p).policy.reports.rate ≡ p.reports.rate
asks_rate see p =
    let v = see [] in
    either_rate p (is_due v.now p.questions.ask) (record { policy = after_question v.now p; lines = Says (AskPages v.me) ∷ [] }) (still see p) refl refl

-- ---- a call

-- The next report is due as it was, or so soon after this moment.
abbrev IsPaced : (least most due : ℕ) → Keeping → Type 0
IsPaced least most due m = (m.policy.reports.due ≡ due) ⊎ (m.policy.reports.due ≤ present m.host + pause_of least most)

module _ (least most : ℕ) (some : 1 ≤ least) where
  -- what is due at the moment of a host
  module _ (m : Keeping) (more : least ≤ (after_doing timed m).policy.reports.rate) (few : members_in (echoes (after_doing timed m).host) ≤ most) where
    abbrev a : Keeping
    a = after_doing answers m

    abbrev q : Keeping
    q = after_doing asks_pages a

    abbrev r : Keeping
    r = after_doing reports q

    reported : m.policy.reports.due ≤ present m.host → (after_doing timed m).policy.reports.due ≤ present (after_doing timed m).host + pause_of least most
    reported late =
        let as_before : echoes (after_doing timed m).host ≡ echoes q.host =
        ap (λ (x : Keeping). echoes x.host) (to_turn m) ∙ does_same turns_due (turns_each IsSmall are_small) (after_doing reports_due q) ∙ does_same reports_due (due_each IsSmall are_small) q in
        let rate : (after_doing timed m).policy.reports.rate ≡ q.policy.reports.rate =
        timed_holds KeepsRate rates_stay.due m ∙ sym (asks_rate (sees a.host) a.policy ∙ answers_rate (sees m.host) m.policy) in
        let counted : members_in (echoes q.host) ≤ most = subst (λ (es : List Echo). members_in es ≤ most) as_before few in
        let lawful = lawful_echoes q.host.is.number q.host.is.calls (present q.host) in
        let soon : r.policy.reports.due ≤ present q.host + pause_of least most =
        report_pause least most some (newest_now q.host.is.held q.policy.told) (sees q.host) q.policy (subst (λ (x : ℕ). least ≤ x) rate more) counted lawful in
        let due = due_is m late in
        let now = timed_now m in
        let now_q : present q.host ≡ present m.host = (does_rest asks_pages (asks_pages_each IsSmall are_small) a).now ∙ (does_rest answers (answers_each IsSmall are_small) m).now in
        last _ _ _ _ _ (pause_of least most) due soon now now_q where
          last : (due due_r then q m pause : ℕ) → due ≡ due_r → due_r ≤ q + pause → then ≡ m → q ≡ m → due ≤ then + pause
          last due due_r then q m pause same le now now_q = omega (arith, same, le, now, now_q)

    timed_pause : IsPaced least most m.policy.reports.due (after_doing timed m)
    timed_pause = ⊎_elim
        (λ (yes : (nat_le m.policy.reports.due (present m.host) ≡ true) × (m.policy.reports.due ≤ present m.host)). inr (reported yes.1))
        (λ (no : (nat_le m.policy.reports.due (present m.host) ≡ false) × (present m.host < m.policy.reports.due)). inl (silent_due m no.1))
        (leb_tells m.policy.reports.due (present m.host))

  abbrev IsPacedIfFew : ℕ → Keeping → Type 0
  IsPacedIfFew due m = least ≤ m.policy.reports.rate → members_in (echoes m.host) ≤ most → IsPaced least most due m

  call_pause : (line : KeptLine) (k : Keeping) → DrawsNothing line → IsPacedIfFew k.policy.reports.due (after_doing (doing_of line) k)
  call_pause (Came now v) k draws =
      let t = having (Calls (Tick now)) k in
      let m = after_doing (hears v) t in
      let due : m.policy.reports.due ≡ k.policy.reports.due = (hears_tells v (sees t.host) t.policy).due in
      subst (λ (n : Keeping). IsPacedIfFew k.policy.reports.due n) (sym (came_after now v k))
      (subst (λ (d : ℕ). IsPacedIfFew d (after_doing timed m)) due (timed_pause m))
  call_pause (Ticked now) k draws =
      subst (λ (n : Keeping). IsPacedIfFew k.policy.reports.due n) (sym (then_after (performs (Calls (Tick now))) timed k)) (timed_pause (having (Calls (Tick now)) k))
  call_pause (Added now page time op) k draws = absurd (draws now page time op refl)
  call_pause (Tuned constants) k draws = λ more few. inl refl

-- ---- a session

module _ (hosts : ℕ → Opening) (terms : Terms) (trace : List (At KeptLine)) (rate : ℕ) (s : IsTimelySession hosts terms trace) (some : 1 ≤ rate)
    (slower : AreNoSlower hosts terms rate) (i : ℕ) (live : Contains terms.live i) where
  abbrev members : ℕ
  members = length terms.live

  abbrev from : ℕ
  from = settled_by terms + HEARD + terms.drift

  abbrev IsSoon : List (At KeptLine) → Type 0
  IsSoon older = (there hosts older i).policy.reports.due + terms.lag i ≤ max (time_of older) (from + 96000000) + pause_of rate members

  -- a call of it after that time
  here : (newer older : List (At KeptLine)) (e : At KeptLine) → trace ≡ newer ++ e ∷ older → from < e.time → nat_eq e.place i ≡ true → time_of older ≤ e.time
      → IsSoon older → IsSoon (e ∷ older)
  here newer older e split after same order soon = ⊎_elim
      (λ (t : IsTuned e.event). tuning (tuned_only e.event k t))
      (λ (at : IsNowAt terms e.time i (moment_of e.event)). ⊎_elim tuning (λ (now_is : present done.host ≡ moment_of e.event). in_time at now_is) (call_now e.event k (moment_of e.event) (told_itself e.event)))
      (told_or_tuned terms e.time i e.event told) where
        k : Keeping
        k = there hosts older i

        done : Keeping
        done = after_doing (doing_of e.event) k

        is : there hosts (e ∷ older) i ≡ done
        is = there_here hosts e older i same

        told : SaysNow terms e.time i e.event
        told =
            let place = eqb-true e.place i same in
            subst (λ (p : ℕ). SaysNow terms e.time p e.event) place (told_in terms newer older e (subst (TellTimes terms) split s.times) (subst (Contains terms.live) (sym place) live))

        as_it_was : (due old lag before time since pause : ℕ) → due ≡ old → old + lag ≤ max before since + pause → before ≤ time → due + lag ≤ max time since + pause
        as_it_was due old lag before time since pause e le order = omega (arith, e, le, order)

        from_now : (due now lag time quiet since pause : ℕ) → due ≤ now + pause → now + lag ≤ max time quiet → quiet ≤ time → due + lag ≤ max time since + pause
        from_now due now lag time quiet since pause le now_is past = omega (arith, le, now_is, past)

        as_before : done.policy.reports.due ≡ k.policy.reports.due → IsSoon (e ∷ older)
        as_before same_due = as_it_was _ _ _ _ _ _ (pause_of rate members) (ap (λ (n : Keeping). n.policy.reports.due) is ∙ same_due) soon order

        tuning : IsTuning (doing_of e.event) k → IsSoon (e ∷ older)
        tuning t = as_before (ap (λ (p : Policy). p.reports.due) t.policy)

        late : (now moment lag time : ℕ) → now ≡ moment → time ≤ moment + lag + terms.drift → from < time → settled_by terms + HEARD ≤ now + lag
        late now moment lag time same behind after = omega (arith, same, behind, after)

        in_time : IsNowAt terms e.time i (moment_of e.event) → present done.host ≡ moment_of e.event → IsSoon (e ∷ older)
        in_time at now_is =
            let taken = taken_of hosts newer (e ∷ older) (subst (λ (t : List (At KeptLine)). AreTaken hosts t) split s.taken) in
            let rate_is : done.policy.reports.rate ≡ (hosts i).rate = ap (λ (n : Keeping). n.policy.reports.rate) (sym is) ∙ rate_at hosts (e ∷ older) i taken in
            let least = slower i live in
            let behind = at.not_behind in
            let few = subst (λ (n : Keeping). settled_by terms + HEARD ≤ present n.host + terms.lag i → members_in (echoes n.host) ≤ members) is (members_are_live hosts terms trace newer (e ∷ older) i s split live) in
            let now = subst (λ (n : Keeping). present n.host + terms.lag i ≤ max e.time terms.quiet) is (now_there hosts terms trace newer (e ∷ older) i s split live) in
            ⊎_elim
            as_before
            (λ (next : done.policy.reports.due ≤ present done.host + pause_of rate members).
            subst (λ (n : Keeping). n.policy.reports.due + terms.lag i ≤ max e.time (from + 96000000) + pause_of rate members) (sym is)
            (from_now _ _ _ _ _ _ (pause_of rate members) next now (omega (arith, after))))
            (call_pause rate members some e.event k (λ now page time op. s.drawn newer older e now page time op split (omega (arith, after))) (omega (arith, rate_is, least)) (few (late _ _ _ _ now_is behind after)))

  within : (older newer : List (At KeptLine)) → trace ≡ newer ++ older → IsSoon older
  within [] newer split = let d = due_there hosts terms trace newer [] i s split live in early _ _ (pause_of rate members) d where
    early : (due lag pause : ℕ) → due + lag ≤ max 0 terms.quiet + 96000000 → due + lag ≤ max 0 (from + 96000000) + pause
    early due lag pause le = omega (arith, le)
  within (e ∷ older) newer split = ⊎_elim
      (λ (yes : (nat_le e.time from ≡ true) × (e.time ≤ from)). let d = due_there hosts terms trace newer (e ∷ older) i s split live in before _ _ _ (pause_of rate members) d yes.1)
      (λ (no : (nat_le e.time from ≡ false) × (from < e.time)). by (nat_eq e.place i) refl no.1 (within older (newer ++ e ∷ []) (split ∙ sym (append_assoc newer (e ∷ []) older))))
      (leb_tells e.time from) where
        order : time_of older ≤ e.time
        order = (order_of newer (e ∷ older) (subst AreInOrder split s.order)).0

        before : (due lag time pause : ℕ) → due + lag ≤ max time terms.quiet + 96000000 → time ≤ from → due + lag ≤ max time (from + 96000000) + pause
        before due lag time pause le first = omega (arith, le, first)

        by : (b : Bool) → nat_eq e.place i ≡ b → from < e.time → IsSoon older → IsSoon (e ∷ older)
        by true same after soon = here newer older e split after same order soon
        by false other after soon =
            subst (λ (k : Keeping). k.policy.reports.due + terms.lag i ≤ max e.time (from + 96000000) + pause_of rate members) (sym (there_other hosts e older i other))
            (later _ _ _ _ (pause_of rate members) soon order) where
              later : (due lag before time pause : ℕ) → due + lag ≤ max before (from + 96000000) + pause → before ≤ time → due + lag ≤ max time (from + 96000000) + pause
              later due lag before time pause le o = omega (arith, le, o)

pub reports_go_by_rates : ReportsGoByRates
reports_go_by_rates hosts terms trace rate s some slower newer older i split live = within hosts terms trace rate s some slower i live older newer split
