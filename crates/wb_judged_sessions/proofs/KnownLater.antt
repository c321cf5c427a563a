-- Members that know each other when nothing is lost any more know each other whenever something of one comes to another.
use Rattle.std.proofs.Common.{◌≡◌, ◌⊎◌, ◌≤◌, ◌<◌, ◌+◌, ◌-◌, ◌∙◌, ℕ, Bool, true, false, cond, List, [], ◌∷◌, ◌++◌, ap, append_assoc, arith, eqb-true, inl, inr, refl, subst, sym, ⊎_elim}
use Rattle.std.specs.Prelude.{◌≢◌, Contains, Some, nat_eq, nat_le}
use Rattle.std.proofs.lemmas.Bool.{eq-eqb, false_from_ne_true, leb-true}
use Rattle.std.proofs.lemmas.Bool.Decides.{leb_tells, nat_tests}
use Rattle.std.proofs.lemmas.List.Elements.{Contains-append_cases, Contains-append_left, Contains-append_right}
use Rattle.wb_names.proofs.Listings.{Contains-cases, Contains-here, Contains-map, Contains-none, Contains-there}
use Rattle.wb_codec.specs.declared.datagram.Datagram.{Datagram}
use Rattle.wb_codec.specs.declared.datagram.Datagram.TheVariants.{AskPages, Draw, PageState, Request, Session}
use Rattle.wb_judge.specs.Adding.{own_echo}
use Rattle.wb_judge.specs.Judge.{knows}
use Rattle.wb_judge.specs.Laws.{is_answer, speaker_in}
use Rattle.wb_judge.specs.Members.{IsSpoken, Speaks}
use Rattle.wb_judge.specs.Origins.{same_origin}
use Rattle.wb_judge.specs.declared.limits.TheConstants.{PATIENCE, SILENCE}
use Rattle.wb_judge.specs.declared.origin.Origin.{Origin}
use Rattle.wb_judge.proofs.Sameness.{same_itself, same_origins}
use Rattle.wb_policy.specs.declared.limits.TheConstants.{LONGEST_PAUSE}
use Rattle.wb_progress.specs.Turns.{IsNowAt, Terms}
use Rattle.wb_member.specs.Opened.{present}
use Rattle.wb_keeping.specs.Laws.{doing_of}
use Rattle.wb_keeping.specs.Performing.{after_doing, due, sent_by_doing}
use Rattle.wb_judging.specs.Echoing.{echoing, with_echo}
use Rattle.wb_judging.specs.Handing.{handed}
use Rattle.wb_judging.specs.Judged.{Judged, moment_of}
use Rattle.wb_judging.specs.declared.call.Call.{Call}
use Rattle.wb_judging.specs.declared.call.Call.TheVariants.{CameFrom, Held, Passed, UserDrew}
use Rattle.wb_judging.specs.declared.news.News.{News}
use Rattle.wb_judging.specs.declared.news.News.TheVariants.{Gone}
use Rattle.wb_judging.specs.Laws.{sends_in}
use Rattle.wb_judging.specs.Performing.{after_judged, after_kept_line, events_of, judging, sent_by_kept_line}
use Rattle.wb_judging.proofs.AsKept.{sends_as_kept}
use Rattle.wb_judging.proofs.NewsTold.{leaves_others}
use Rattle.wb_kept_progress.proofs.CallParts.{due_by_report}
use Rattle.wb_judged_sessions.specs.Known.{ComeInTime, Comes, JudgedStayKnown, KnowEachOther, KnownBecomeWhole, moment_by, until}
use Rattle.wb_judged_sessions.specs.Knowing.{HasRoom, IsKnownSince, LeavesKnown}
use Rattle.wb_judged_sessions.specs.Calls.{after_call, IsLineTaken, JudgedCall, Starts, Takes, Tunes}
use Rattle.wb_judged_sessions.specs.Sessions.{At, judged_at}
use Rattle.wb_laws_machines.specs.Maps.{plain}
use Rattle.wb_judged_sessions.specs.Terms.{AreTaken}
use Rattle.wb_judged_sessions.specs.Timely.{AreFittingSince, Arrives, IsFittingSince, IsNoStart, IsTimely}
use Rattle.wb_judged_sessions.proofs.Clocks.{due_at, present_at}
use Rattle.wb_judged_sessions.proofs.Echoes.{IsOfMember as IsUnder, call_sends}
use Rattle.wb_judged_sessions.proofs.Records.{number_at}
use Rattle.wb_judged_sessions.proofs.Reporting.{IsReported, call_reports, report_due}
use Rattle.wb_judged_sessions.proofs.Sent.{line_sends}
use Rattle.wb_judged_sessions.proofs.Staying.{known_for, known_since_earlier, report_makes_known, speaks_since, stays_known}
use Rattle.wb_judged_sessions.proofs.Terms.{IsOwn, fault_none, own_at}
use Rattle.wb_judged_sessions.proofs.Timely.{later_calls, taken_at}
use Rattle.wb_judged_sessions.proofs.Whole.{judged_become_whole}
use Rattle.wb_kept_progress.specs.Timed.{AreInOrder, time_of}
use Rattle.wb_progress.proofs.Parts.{before_end, no_later, order_of}

-- ---- parts of calls

-- an earlier call is one of the older ones
record IsOlder (older : List (At JudgedCall)) (a : At JudgedCall) (rest : List (At JudgedCall)) : Type 0 where
  mid : List (At JudgedCall)
  split : older ≡ mid ++ a ∷ rest

is_older : (newer later older rest : List (At JudgedCall)) (e a : At JudgedCall) → newer ++ e ∷ older ≡ later ++ a ∷ rest → AreInOrder (later ++ a ∷ rest) → a.time < e.time → IsOlder older a rest
is_older [] [] older rest e a same order lt = absurd (let time : e.time ≡ a.time = ap time_of same in omega (arith, lt, time))
is_older [] (x ∷ later) older rest e a same order lt = let tails : older ≡ later ++ a ∷ rest = cc in record { mid = later; split = tails }
is_older (y ∷ newer) [] older rest e a same order lt =
    let tail : rest ≡ newer ++ e ∷ older = sym cc in
    let le = before_end newer (e ∷ older) (subst AreInOrder tail order.1) in
    let first = order.0 in
    let time : time_of rest ≡ time_of (newer ++ e ∷ older) = ap time_of tail in
    absurd (omega (arith, lt, le, first, time))
is_older (y ∷ newer) (x ∷ later) older rest e a same order lt = let tails : newer ++ e ∷ older ≡ later ++ a ∷ rest = cc in is_older newer later older rest e a tails order.1 lt

-- the calls after a time, and those until then
record Cut (s : ℕ) (older base : List (At JudgedCall)) : Type 0 where
  window : List (At JudgedCall)
  split : older ≡ window ++ base
  after : (c : At JudgedCall) → Contains window c → s < c.time
  by : time_of base ≤ s

cut : (s : ℕ) (older : List (At JudgedCall)) → Cut s older (until s older)
cut s [] = record { window = []; split = refl; after = λ c among. absurd (Contains-none c among); by = omega arith }
cut s (e ∷ older) = choose (nat_le e.time s) refl (cut s older) where
  choose : (b : Bool) → nat_le e.time s ≡ b → Cut s older (until s older) → Cut s (e ∷ older) (cond b (e ∷ older) (until s older))
  choose true is rest = record { window = []; split = refl; after = λ c among. absurd (Contains-none c among); by = leb-true e.time s is }
  choose false is rest = record {
    window = e ∷ rest.window;
    split = ap (λ (cs : List (At JudgedCall)). e ∷ cs) rest.split;
    after = λ c among. ⊎_elim
        (λ (now : e ≡ c). subst (λ (x : At JudgedCall). s < x.time) now (later is))
        (λ (before : Contains rest.window c). rest.after c before)
        (Contains-cases e c rest.window among);
    by = rest.by;
  } where
    later : nat_le e.time s ≡ false → s < e.time
    later is = grind (arith, nat_tests)

until_later : (s : ℕ) (newer older : List (At JudgedCall)) → ((c : At JudgedCall) → Contains newer c → s < c.time) → until s (newer ++ older) ≡ until s older
until_later s [] older late = refl
until_later s (e ∷ newer) older late =
    ap (λ (b : Bool). cond b (e ∷ (newer ++ older)) (until s (newer ++ older))) (not_by (late e (Contains-here e newer)))
    ∙ until_later s newer older (λ c among. late c (Contains-there e c newer among)) where
      not_by : s < e.time → nat_le e.time s ≡ false
      not_by lt = grind (arith, nat_tests)

-- ---- who sends

-- what says who sends it says the number of its sender
says_own : (line : Call) (h : Judged) → IsOwn h → IsLineTaken line h → (v : Datagram) → Contains (sends_in (events_of line h)) v → IsUnder h.kept.host.is.number (plain v)
says_own line h own taken v sent = call_sends (handed line h) h.kept (fault_none line h own taken) (plain v) (line_sends line h own taken v sent)

spoken_by : (o : Origin) (number at : ℕ) (v : Datagram) (h : Judged) → ¬ (number ≡ h.judge.me) → IsKnownSince o number at h.judge → IsUnder number (plain v) → IsSpoken o v h.judge
spoken_by o number at (Draw d) h another m under = tt
spoken_by o number at (Session s sent page marks echoes) h another m under = subst (λ (n : ℕ). Speaks o n h.judge) (sym under.0) (speaks_since o number at h.judge another m)
spoken_by o number at (Request asker name) h another m under = subst (λ (n : ℕ). Speaks o n h.judge) (sym under) (speaks_since o number at h.judge another m)
spoken_by o number at (AskPages asker) h another m under = subst (λ (n : ℕ). Speaks o n h.judge) (sym under) (speaks_since o number at h.judge another m)
spoken_by o number at (PageState s page marks) h another m under = subst (λ (n : ℕ). Speaks o n h.judge) (sym under) (speaks_since o number at h.judge another m)

-- what a self-managing member reports the judged one does
reported : (line : Call) (h : Judged) → IsReported (sent_by_doing (doing_of (handed line h)) h.kept) → IsReported (sends_in (events_of line h))
unfolding sent_by_kept_line
reported line h r =
    let j = judging line h in
    let echo = own_echo (moment_of line h) j in
    let v = Session r.sender r.moment r.page r.marks r.echoes in
    record {
      sender = r.sender;
      moment = r.moment;
      page = r.page;
      marks = r.marks;
      echoes = with_echo echo r.echoes;
      among = subst (λ (vs : List Datagram). Contains vs (echoing echo v)) (sym (sends_as_kept line h))
          (Contains-map (echoing echo) (sent_by_doing (doing_of (handed line h)) h.kept) (echoing echo v) (r.among.0, v, r.among.1, r.among.2, refl));
    }

patience_less : PATIENCE ≤ SILENCE
patience_less = less where
  less : 192000000 ≤ 600000000
  less = omega arith

-- ---- a session

module _ (numbers : ℕ → ℕ) (origins : ℕ → ℕ → Origin) (terms : Terms) (heard : ℕ) (calls : List (At JudgedCall)) (s : ComeInTime numbers origins terms calls) (k : KnowEachOther numbers origins terms heard calls) where
  abbrev AllLate : ℕ → List (At JudgedCall) → Type 0
  AllLate time cs = (c : At JudgedCall) → Contains cs c → time < c.time

  abbrev Since : (time i j : ℕ) → List (At JudgedCall) → Type 0
  Since time i j older = IsKnownSince (origins j i) (numbers i) (moment_by terms time j) (judged_at numbers older j).judge

  another_me : (i j : ℕ) (older : List (At JudgedCall)) → i ≢ j → ¬ (numbers i ≡ (judged_at numbers older j).judge.me)
  another_me i j older apart same = apart (s.apart i j (same ∙ own_at numbers older j ∙ number_at numbers older j))

  -- the part up to a call keeps to the terms
  order_there : (newer older : List (At JudgedCall)) → calls ≡ newer ++ older → AreInOrder older
  order_there newer older split = order_of newer older (subst AreInOrder split s.order)

  taken_of : (newer older : List (At JudgedCall)) → calls ≡ newer ++ older → AreTaken numbers older
  taken_of newer older split = part newer (subst (AreTaken numbers) split s.taken) where
    part : (newer : List (At JudgedCall)) → AreTaken numbers (newer ++ older) → AreTaken numbers older
    part [] taken = taken
    part (x ∷ newer) taken = part newer taken.1

  end_of : (newer older : List (At JudgedCall)) → calls ≡ newer ++ older → time_of older ≤ time_of calls
  end_of newer older split = subst (λ (cs : List (At JudgedCall)). time_of older ≤ time_of cs) (sym split) (before_end newer older (subst AreInOrder split s.order))

  abbrev FitsAs : (i : ℕ) → At JudgedCall → List (At JudgedCall) → Bool → JudgedCall → Type 0
  FitsAs i x older b call = IsFittingSince terms (numbers i) i b x.time call (judged_at numbers older x.place) (AreFittingSince terms numbers i older)

  fit_tail : (i : ℕ) (x : At JudgedCall) (older : List (At JudgedCall)) → IsNoStart x.event → AreFittingSince terms numbers i (x ∷ older) → AreFittingSince terms numbers i older
  fit_tail i x older steady fits = by (nat_eq x.place i) x.event steady fits where
    by : (b : Bool) (call : JudgedCall) → IsNoStart call → FitsAs i x older b call → AreFittingSince terms numbers i older
    by false call steady fits = fits
    by true (Starts start given) steady fits = absurd steady
    by true (Takes line) steady fits = fits.1
    by true (Tunes constants) steady fits = fits.1

  fit_now : (i : ℕ) (x : At JudgedCall) (older : List (At JudgedCall)) (line : Call) → x.event ≡ Takes line → x.place ≡ i → AreFittingSince terms numbers i (x ∷ older)
      → IsNowAt terms x.time i (moment_of line (judged_at numbers older i))
  fit_now i x older line takes here fits =
      let now : FitsAs i x older true (Takes line) =
      subst (λ (b : Bool). FitsAs i x older b (Takes line)) (eq-eqb x.place i here) (subst (λ (call : JudgedCall). FitsAs i x older (nat_eq x.place i) call) takes fits) in
      subst (λ (p : ℕ). IsNowAt terms x.time i (moment_of line (judged_at numbers older p))) here now.0

  fits : (newer front base : List (At JudgedCall)) (i : ℕ) → calls ≡ newer ++ (front ++ base) → AllLate terms.quiet front → AreFittingSince terms numbers i (front ++ base) → AreFittingSince terms numbers i base
  fits newer [] base i split late f = f
  fits newer (x ∷ front) base i split late f =
      let t = (s.alone newer (front ++ base) x split (late x (Contains-here x front))).1 in
      fits (newer ++ x ∷ []) front base i (split ∙ sym (append_assoc newer (x ∷ []) (front ++ base))) (λ c among. late c (Contains-there x c front among)) (fit_tail i x (front ++ base) t f)

  fitting_of : (newer base : List (At JudgedCall)) (i : ℕ) → calls ≡ newer ++ base → AllLate terms.quiet newer → Contains terms.live i → AreFittingSince terms numbers i base
  fitting_of newer base i split late live = fits [] newer base i split late (subst (AreFittingSince terms numbers i) split (s.fitting i live))

  late_of : (newer older : List (At JudgedCall)) (e : At JudgedCall) → calls ≡ newer ++ e ∷ older → terms.quiet < e.time → AllLate terms.quiet newer
  late_of newer older e split late c among = let le = later_calls newer (e ∷ older) (subst AreInOrder split s.order) c among in omega (arith, le, late)

  -- ---- it stays known

  module _ (i j time : ℕ) (live_i : Contains terms.live i) (live_j : Contains terms.live j) (apart : i ≢ j) where
    -- calls after `quiet` that are late enough, and soon enough
    abbrev AreSoon : List (At JudgedCall) → Type 0
    AreSoon cs = (c : At JudgedCall) → Contains cs c → (terms.quiet < c.time) × (time ≤ c.time) × (c.time + terms.drift ≤ time + PATIENCE)

    leaves : (newer older : List (At JudgedCall)) (x : At JudgedCall) (line : Call) → calls ≡ newer ++ x ∷ older → (terms.quiet < x.time) × (time ≤ x.time) × (x.time + terms.drift ≤ time + PATIENCE)
        → x.place ≡ j → x.event ≡ Takes line → LeavesKnown (origins j i) (numbers i) (moment_by terms time j) line (judged_at numbers older j)
    leaves newer older x (CameFrom now p v) split soon here takes =
        let fits = fitting_of newer (x ∷ older) j split (late_of newer older x split soon.0) live_j in
        let now_at : IsNowAt terms x.time j now = fit_now j x older (CameFrom now p v) takes here fits in
        let ahead = now_at.not_ahead in
        let behind = now_at.not_behind in
        let first = soon.1 in
        let last = soon.2 in
        (omega (arith, behind, first), omega (arith, ahead, last), λ speaks answers. there speaks answers) where
          there : speaker_in v ≡ Some (numbers i) → is_answer v now (judged_at numbers older j).judge ≡ true → same_origin p (origins j i) ≡ true
          there speaks answers =
              let is : p ≡ origins x.place i = k.fixed newer older x now p v i split soon.0 takes live_i (λ e. apart (e ∙ here)) speaks
              (subst (λ (q : ℕ). is_answer v now (judged_at numbers older q).judge ≡ true) (sym here) answers) in
              ap (λ (q : Origin). same_origin q (origins j i)) (is ∙ ap (λ (q : ℕ). origins q i) here) ∙ same_itself (origins j i)
    leaves newer older x (Passed now news) split soon here takes = leaves_others (origins j i) news gone where
      gone : (p : Origin) → news ≡ Gone p → same_origin p (origins j i) ≡ false
      gone p is = false_from_ne_true (same_origin p (origins j i)) (λ same.
          k.stay newer older x now p i split soon.0 (takes ∙ ap (λ (n : News). Takes (Passed now n)) is) live_i (λ e. apart (e ∙ here)) (same_origins p (origins j i) same ∙ ap (λ (q : ℕ). origins q i) (sym here)))
    leaves newer older x (UserDrew now page op) split soon here takes = tt
    leaves newer older x (Held line) split soon here takes = tt

    step : (newer older : List (At JudgedCall)) (x : At JudgedCall) → calls ≡ newer ++ x ∷ older → (terms.quiet < x.time) × (time ≤ x.time) × (x.time + terms.drift ≤ time + PATIENCE)
        → Since time i j older → Since time i j (x ∷ older)
    step newer older x split soon m = by (nat_eq x.place j) refl where
      h : Judged
      h = judged_at numbers older j

      by : (b : Bool) → nat_eq x.place j ≡ b → IsKnownSince (origins j i) (numbers i) (moment_by terms time j) (let after : Judged = cond b (after_call x.event h) h in after.judge)
      by false other = m
      by true same =
          let here = eqb-true x.place j same in
          called x.event refl (s.alone newer older x split soon.0).1 here (subst (λ (q : ℕ). HasRoom (judged_at numbers older q).judge) here (k.room newer older x split soon.0)) where
            called : (call : JudgedCall) → x.event ≡ call → IsNoStart call → x.place ≡ j → HasRoom h.judge → IsKnownSince (origins j i) (numbers i) (moment_by terms time j) (after_call call h).judge
            called (Starts start given) is steady here room = absurd steady
            called (Takes line) is steady here room = stays_known line h (origins j i) (numbers i) (moment_by terms time j) room (leaves newer older x line split soon here is) m
            called (Tunes constants) is steady here room = m

    persists : (newer front base : List (At JudgedCall)) → calls ≡ newer ++ (front ++ base) → AreSoon front → Since time i j base → Since time i j (front ++ base)
    persists newer [] base split soon m = m
    persists newer (x ∷ front) base split soon m =
        step newer (front ++ base) x split (soon x (Contains-here x front))
        (persists (newer ++ x ∷ []) front base (split ∙ sym (append_assoc newer (x ∷ []) (front ++ base))) (λ c among. soon c (Contains-there x c front among)) m)

  -- ---- a report follows

  record SaidIn (window base : List (At JudgedCall)) (i : ℕ) : Type 0 where
    later : List (At JudgedCall)
    call : At JudgedCall
    between : List (At JudgedCall)
    split : window ≡ later ++ call ∷ between
    place : call.place ≡ i
    line : Call
    takes : call.event ≡ Takes line
    report : IsReported (sends_in (events_of line (judged_at numbers (between ++ base) call.place)))
    due : report_due (judged_at numbers (between ++ base) i).kept ≡ report_due (judged_at numbers base i).kept

  later_said : (x : At JudgedCall) (window base : List (At JudgedCall)) (i : ℕ) → SaidIn window base i → SaidIn (x ∷ window) base i
  later_said x window base i r = record {
    later = x ∷ r.later;
    call = r.call;
    between = r.between;
    split = ap (λ (cs : List (At JudgedCall)). x ∷ cs) r.split;
    place = r.place;
    line = r.line;
    takes = r.takes;
    report = r.report;
    due = r.due;
  }

  -- after some calls its report is due as before, or one of them sent it
  abbrev IsStillOrSaid : List (At JudgedCall) → List (At JudgedCall) → ℕ → Type 0
  IsStillOrSaid window base i = (report_due (judged_at numbers (window ++ base) i).kept ≡ report_due (judged_at numbers base i).kept) ⊎ SaidIn window base i

  said_in : (newer window base : List (At JudgedCall)) (i : ℕ) → calls ≡ newer ++ (window ++ base) → AllLate terms.quiet window → IsStillOrSaid window base i
  unfolding after_kept_line
  said_in newer [] base i split late = inl refl
  said_in newer (x ∷ window) base i split late =
      from (said_in (newer ++ x ∷ []) window base i (split ∙ sym (append_assoc newer (x ∷ []) (window ++ base))) (λ c among. late c (Contains-there x c window among))) where
        older : List (At JudgedCall)
        older = window ++ base

        h : Judged
        h = judged_at numbers older i

        by : report_due h.kept ≡ report_due (judged_at numbers base i).kept → (b : Bool) → nat_eq x.place i ≡ b
            → (report_due (let after : Judged = cond b (after_call x.event h) h in after.kept) ≡ report_due (judged_at numbers base i).kept) ⊎ SaidIn (x ∷ window) base i
        by same false other = inl same
        by same true is =
            called x.event refl (s.alone newer older x split (late x (Contains-here x window))).1 (eqb-true x.place i is) where
              called : (call : JudgedCall) → x.event ≡ call → IsNoStart call → x.place ≡ i → (report_due (after_call call h).kept ≡ report_due (judged_at numbers base i).kept) ⊎ SaidIn (x ∷ window) base i
              called (Starts start given) is_call steady here = absurd steady
              called (Tunes constants) is_call steady here = inl same
              called (Takes line) is_call steady here =
                  let taken : IsLineTaken line h = subst (λ (q : ℕ). IsLineTaken line (judged_at numbers older q)) here (taken_at numbers newer older x line (subst (AreTaken numbers) split s.taken) is_call) in
                  ⊎_elim
                  (λ (still : report_due (after_doing (doing_of (handed line h)) h.kept) ≡ report_due h.kept). inl (still ∙ same))
                  (λ (said : IsReported (sent_by_doing (doing_of (handed line h)) h.kept) × (report_due (after_doing (doing_of (handed line h)) h.kept) ≤ present (after_doing (doing_of (handed line h)) h.kept).host + 96000000)).
                  inr (record {
                    later = [];
                    call = x;
                    between = window;
                    split = refl;
                    place = here;
                    line = line;
                    takes = is_call;
                    report = subst (λ (q : ℕ). IsReported (sends_in (events_of line (judged_at numbers older q)))) (sym here) (reported line h said.0);
                    due = same;
                  }))
                  (call_reports (handed line h) h.kept (fault_none line h (own_at numbers older i) taken)).due

        from : IsStillOrSaid window base i → IsStillOrSaid (x ∷ window) base i
        from (inr said) = inr (later_said x window base i said)
        from (inl same) = by same (nat_eq x.place i) refl

  -- ---- so each is known

  record IsKnownAt (time i j : ℕ) (older : List (At JudgedCall)) : Type 0 where
    from : ℕ
    no_later : from ≤ time
    soon : time + terms.drift ≤ from + PATIENCE
    is : Since from i j older

  abbrev AreKnown : List (At JudgedCall) → Type 0
  AreKnown older = (newer : List (At JudgedCall)) (e : At JudgedCall) (i j : ℕ) → calls ≡ newer ++ e ∷ older → terms.quiet < e.time → Contains terms.live i → Contains terms.live j → i ≢ j → IsKnownAt e.time i j older

  -- it is known at a moment of the time
  knows_then : (time i j now : ℕ) (older : List (At JudgedCall)) → IsNowAt terms time j now → (m : IsKnownAt time i j older) → knows (origins j i) now (judged_at numbers older j).judge ≡ true
  knows_then time i j now older at m =
      let ahead = at.not_ahead in
      let soon = m.soon in
      let less = patience_less in
      known_for (origins j i) (numbers i) (moment_by terms m.from j) now (judged_at numbers older j).judge (omega (arith, ahead, soon, less)) m.is

  module _ (newer older : List (At JudgedCall)) (e : At JudgedCall) (i j : ℕ) (split : calls ≡ newer ++ e ∷ older) (late : terms.quiet < e.time) (live_i : Contains terms.live i) (live_j : Contains terms.live j) (apart : i ≢ j) where
    -- soon after `quiet` it is known as it was then
    since_quiet : e.time + terms.drift ≤ heard + PATIENCE → IsKnownAt e.time i j older
    since_quiet soon =
        let c = cut terms.quiet older in
        let before = k.before in
        let same : until terms.quiet calls ≡ until terms.quiet older =
        ap (until terms.quiet) (split ∙ sym (append_assoc newer (e ∷ []) older)) ∙ until_later terms.quiet (newer ++ e ∷ []) older late_all in
        let first : Since heard i j (until terms.quiet older) = subst (λ (cs : List (At JudgedCall)). Since heard i j cs) same (k.known i j live_i live_j apart) in
        let order : AreInOrder older = (order_there newer (e ∷ older) split).1 in
        let last = (order_there newer (e ∷ older) split).0 in
        let kept = persists i j heard live_i live_j apart (newer ++ e ∷ []) c.window (until terms.quiet older)
        (split ∙ sym (append_assoc newer (e ∷ []) older) ∙ ap (λ (cs : List (At JudgedCall)). (newer ++ e ∷ []) ++ cs) c.split)
        (λ x among.
        let after = c.after x among in
        let le = no_later older x order (subst (λ (cs : List (At JudgedCall)). Contains cs x) (sym c.split) (Contains-append_left c.window (until terms.quiet older) x among)) in
        (after, omega (arith, after, before), omega (arith, le, last, soon))) first in
        record { from = heard; no_later = omega (arith, before, late); soon = soon; is = subst (λ (cs : List (At JudgedCall)). Since heard i j cs) (sym c.split) kept } where
          late_all : AllLate terms.quiet (newer ++ e ∷ [])
          late_all x among = ⊎_elim
              (λ (in_newer : Contains newer x). late_of newer older e split late x in_newer)
              (λ (it : Contains (e ∷ []) x). ⊎_elim (λ (same : e ≡ x). subst (λ (y : At JudgedCall). terms.quiet < y.time) same late) (λ (no : Contains [] x). absurd (Contains-none x no)) (Contains-cases e x [] it))
              (Contains-append_cases newer (e ∷ []) x among)

    -- and later since a report came
    module _ (start : ℕ) (is_start : e.time ≡ start + (LONGEST_PAUSE + terms.late + terms.delivery) + 1) (after_quiet : terms.quiet ≤ start)
        (known_before : (mid rest : List (At JudgedCall)) (a : At JudgedCall) → older ≡ mid ++ a ∷ rest → AreKnown rest) where
      abbrev base : List (At JudgedCall)
      base = until start older

      c : Cut start older base
      c = cut start older

      all_late : AllLate terms.quiet c.window
      all_late x among = let lt = c.after x among in omega (arith, lt, after_quiet)

      over : calls ≡ (newer ++ e ∷ []) ++ (c.window ++ base)
      over = split ∙ sym (append_assoc newer (e ∷ []) older) ∙ ap (λ (cs : List (At JudgedCall)). (newer ++ e ∷ []) ++ cs) c.split

      over_base : calls ≡ ((newer ++ e ∷ []) ++ c.window) ++ base
      over_base = over ∙ sym (append_assoc (newer ++ e ∷ []) c.window base)

      late_base : AllLate terms.quiet ((newer ++ e ∷ []) ++ c.window)
      late_base x among = ⊎_elim
          (λ (new : Contains (newer ++ e ∷ []) x). ⊎_elim
          (λ (in_newer : Contains newer x). late_of newer older e split late x in_newer)
          (λ (it : Contains (e ∷ []) x). ⊎_elim (λ (same : e ≡ x). subst (λ (y : At JudgedCall). terms.quiet < y.time) same late) (λ (no : Contains [] x). absurd (Contains-none x no)) (Contains-cases e x [] it))
          (Contains-append_cases newer (e ∷ []) x new))
          (λ (in_window : Contains c.window x). all_late x in_window)
          (Contains-append_cases (newer ++ e ∷ []) c.window x among)

      due_base : report_due (judged_at numbers base i).kept + terms.lag i ≤ start + LONGEST_PAUSE
      due_base =
          let fits = fitting_of ((newer ++ e ∷ []) ++ c.window) base i over_base late_base live_i in
          let soon : report_due (judged_at numbers base i).kept ≤ present (judged_at numbers base i).kept.host + LONGEST_PAUSE = due_at numbers terms base i fits (taken_of ((newer ++ e ∷ []) ++ c.window) base over_base) in
          let now = present_at numbers terms base i fits (order_there ((newer ++ e ∷ []) ++ c.window) base over_base) in
          let by = c.by in
          omega (arith, soon, now, by)

      -- a call is at most so long after the moment at which the report is due
      in_time : (front rest : List (At JudgedCall)) (x : At JudgedCall) → calls ≡ front ++ x ∷ rest → terms.quiet < x.time → report_due (judged_at numbers rest i).kept ≡ report_due (judged_at numbers base i).kept
          → x.time ≤ start + LONGEST_PAUSE + terms.late
      in_time front rest x at after same =
          let soon = s.soon front rest x i at live_i after in
          let least : due (judged_at numbers rest i).kept ≤ report_due (judged_at numbers rest i).kept = due_by_report (judged_at numbers rest i).kept in
          let due = due_base in
          omega (arith, soon, least, same, due)

      module _ (said : SaidIn c.window base i) where
        abbrev back : List (At JudgedCall)
        back = said.between ++ base

        abbrev front : List (At JudgedCall)
        front = (newer ++ e ∷ []) ++ said.later

        at_said : calls ≡ front ++ said.call ∷ back
        at_said =
            over ∙ ap (λ (cs : List (At JudgedCall)). (newer ++ e ∷ []) ++ cs) (ap (λ (cs : List (At JudgedCall)). cs ++ base) said.split ∙ append_assoc said.later (said.call ∷ said.between) base)
            ∙ sym (append_assoc (newer ++ e ∷ []) said.later (said.call ∷ back))

        after_start : start < said.call.time
        after_start = c.after said.call (subst (λ (cs : List (At JudgedCall)). Contains cs said.call) (sym said.split) (Contains-append_right said.later (said.call ∷ said.between) said.call (Contains-here said.call said.between)))

        said_late : terms.quiet < said.call.time
        said_late = let lt = after_start in omega (arith, lt, after_quiet)

        said_soon : said.call.time ≤ start + LONGEST_PAUSE + terms.late
        said_soon = in_time front back said.call at_said said_late said.due

        abbrev report : Datagram
        report = Session said.report.sender said.report.moment said.report.page said.report.marks said.report.echoes

        comes : Comes numbers (origins j i) front (said.call ∷ back) j (said.call.time + terms.delivery) report
        comes =
            let end = end_of newer (e ∷ older) split in
            let soon = said_soon in
            subst (λ (p : ℕ). Comes numbers (origins j p) front (said.call ∷ back) j (said.call.time + terms.delivery) report) said.place
            (s.delivered front back said.call said.line j report at_said said.takes live_j (λ here. apart (sym said.place ∙ here)) said_late said.report.among (omega (arith, end, soon, is_start)))

        abbrev a : At JudgedCall
        a = comes.call

        abbrev rest : List (At JudgedCall)
        rest = comes.between ++ said.call ∷ back

        at_arrival : calls ≡ comes.later ++ a ∷ rest
        at_arrival = at_said ∙ ap (λ (cs : List (At JudgedCall)). cs ++ said.call ∷ back) comes.split ∙ append_assoc comes.later (a ∷ comes.between) (said.call ∷ back)

        arrives_soon : a.time ≤ start + LONGEST_PAUSE + terms.late + terms.delivery
        arrives_soon = let by = comes.soon in let soon = said_soon in omega (arith, by, soon)

        arrives_after : start < a.time
        arrives_after =
            let order = order_there comes.later (a ∷ rest) at_arrival in
            let le = order.0 in
            let first = before_end comes.between (said.call ∷ back) order.1 in
            let lt = after_start in
            omega (arith, le, first, lt)

        arrives_late : terms.quiet < a.time
        arrives_late = let lt = arrives_after in omega (arith, lt, after_quiet)

        place : IsOlder older a rest
        place = let soon = arrives_soon in is_older newer comes.later older rest e a (sym split ∙ at_arrival) (subst AreInOrder at_arrival s.order) (omega (arith, soon, is_start))

        m : IsKnownAt a.time i j rest
        m = known_before place.mid rest a place.split comes.later a i j at_arrival arrives_late live_i live_j apart

        abbrev h : Judged
        h = judged_at numbers rest j

        now_at : IsNowAt terms a.time j comes.now
        now_at = fit_now j a rest (CameFrom comes.now (origins j i) report) comes.is comes.place (fitting_of comes.later (a ∷ rest) j at_arrival (late_of comes.later rest a at_arrival arrives_late) live_j)

        sender_is : said.report.sender ≡ numbers i
        sender_is =
            let there = judged_at numbers back said.call.place in
            let taken = taken_at numbers front back said.call said.line (subst (AreTaken numbers) at_said s.taken) said.takes in
            let own = says_own said.line there (own_at numbers back said.call.place) taken report said.report.among in
            own.0 ∙ number_at numbers back said.call.place ∙ ap numbers said.place

        unlike : nat_eq said.report.sender h.judge.me ≡ false
        unlike = by (nat_eq said.report.sender h.judge.me) refl where
          by : (b : Bool) → nat_eq said.report.sender h.judge.me ≡ b → b ≡ false
          by false is = refl
          by true is = absurd (another_me i j rest apart (sym sender_is ∙ eqb-true said.report.sender h.judge.me is))

        -- it is known since the report has come
        known_by_it : Since a.time i j (a ∷ rest)
        known_by_it =
            let line = CameFrom comes.now (origins j i) report in
            let there : IsKnownSince (origins j i) said.report.sender (moment_by terms m.from j) h.judge = subst (λ (n : ℕ). IsKnownSince (origins j i) n (moment_by terms m.from j) h.judge) (sym sender_is) m.is in
            let now : IsKnownSince (origins j i) said.report.sender comes.now (after_judged line h).judge =
            report_makes_known comes.now (origins j i) said.report.sender said.report.moment said.report.page said.report.marks said.report.echoes h (moment_by terms m.from j) unlike (knows_then a.time i j comes.now rest now_at m) comes.fit there in
            let behind = now_at.not_behind in
            let earlier = known_since_earlier (origins j i) said.report.sender comes.now (moment_by terms a.time j) (after_judged line h).judge (omega (arith, behind)) now in
            let under : IsKnownSince (origins j i) (numbers i) (moment_by terms a.time j) (after_judged line h).judge = subst (λ (n : ℕ). IsKnownSince (origins j i) n (moment_by terms a.time j) (after_judged line h).judge) sender_is earlier in
            subst (λ (b : Bool). IsKnownSince (origins j i) (numbers i) (moment_by terms a.time j) (let after : Judged = cond b (after_call a.event h) h in after.judge)) (sym (eq-eqb a.place j comes.place))
            (subst (λ (call : JudgedCall). IsKnownSince (origins j i) (numbers i) (moment_by terms a.time j) (after_call call h).judge) (sym comes.is) under)

        since_report : IsKnownAt e.time i j older
        since_report =
            let after = arrives_after in
            let soon = arrives_soon in
            let before = k.before in
            let lately = k.lately in
            let order = order_there newer (e ∷ older) split in
            let last = order.0 in
            let order_mid : AreInOrder (place.mid ++ a ∷ rest) = subst AreInOrder place.split order.1 in
            let kept = persists i j a.time live_i live_j apart (newer ++ e ∷ []) place.mid (a ∷ rest)
            (split ∙ sym (append_assoc newer (e ∷ []) older) ∙ ap (λ (cs : List (At JudgedCall)). (newer ++ e ∷ []) ++ cs) place.split)
            (λ x among.
            let first = later_calls place.mid (a ∷ rest) order_mid x among in
            let le = no_later older x order.1 (subst (λ (cs : List (At JudgedCall)). Contains cs x) (sym place.split) (Contains-append_left place.mid (a ∷ rest) x among)) in
            (omega (arith, first, after, after_quiet), first, omega (arith, le, last, is_start, after, before, lately))) known_by_it in
            record { from = a.time; no_later = omega (arith, soon, is_start); soon = omega (arith, is_start, after, before, lately); is = subst (λ (cs : List (At JudgedCall)). Since a.time i j cs) (sym place.split) kept }

      since_some : IsKnownAt e.time i j older
      since_some = ⊎_elim
          (λ (still : report_due (judged_at numbers (c.window ++ base) i).kept ≡ report_due (judged_at numbers base i).kept).
          let none = in_time newer older e split late (ap (λ (cs : List (At JudgedCall)). report_due (judged_at numbers cs i).kept) c.split ∙ still) in
          absurd (omega (arith, none, is_start)))
          since_report
          (said_in (newer ++ e ∷ []) c.window base i over all_late)

    known_there : ((mid rest : List (At JudgedCall)) (a : At JudgedCall) → older ≡ mid ++ a ∷ rest → AreKnown rest) → IsKnownAt e.time i j older
    known_there known_before = ⊎_elim
        (λ soon. since_quiet soon.1)
        (λ later.
        let lately = k.lately in
        let lt = later.1 in
        since_some (e.time - (LONGEST_PAUSE + terms.late + terms.delivery + 1)) (omega (arith, lt, lately)) (omega (arith, lt, lately)) known_before)
        (leb_tells (e.time + terms.drift) (heard + PATIENCE))

  -- by the calls, one after the other
  abbrev AllKnown : List (At JudgedCall) → Type 0
  AllKnown [] = AreKnown []
  AllKnown (x ∷ older) = AreKnown (x ∷ older) × AllKnown older

  newest_known : (older : List (At JudgedCall)) → AllKnown older → AreKnown older
  newest_known [] all = all
  newest_known (x ∷ older) all = all.0

  part_known : (newer older : List (At JudgedCall)) → AllKnown (newer ++ older) → AllKnown older
  part_known [] older all = all
  part_known (x ∷ newer) older all = part_known newer older all.1

  all_known : (older : List (At JudgedCall)) → AllKnown older
  all_known [] = λ newer e i j split late live_i live_j apart. known_there newer [] e i j split late live_i live_j apart (λ mid rest a is. absurd (none mid rest a is)) where
    none : (mid rest : List (At JudgedCall)) (a : At JudgedCall) → [] ≡ mid ++ a ∷ rest → ⊥
    none [] rest a is = absurd cc
    none (x ∷ mid) rest a is = absurd cc
  all_known (x ∷ older) = from (all_known older) where
    from : AllKnown older → AllKnown (x ∷ older)
    from all = ((λ newer e i j split late live_i live_j apart. known_there newer (x ∷ older) e i j split late live_i live_j apart before), all) where
      before : (mid rest : List (At JudgedCall)) (a : At JudgedCall) → x ∷ older ≡ mid ++ a ∷ rest → AreKnown rest
      before [] rest a is = let tail : older ≡ rest = cc in subst AreKnown tail (newest_known older all)
      before (y ∷ mid) rest a is =
          let tail : older ≡ (mid ++ a ∷ []) ++ rest = the_tail ∙ sym (append_assoc mid (a ∷ []) rest) in
          newest_known rest (part_known (mid ++ a ∷ []) rest (subst AllKnown tail all)) where
            the_tail : older ≡ mid ++ a ∷ rest
            the_tail = cc

  -- ---- what is sent comes as a member's

  arrives : (newer older : List (At JudgedCall)) (e : At JudgedCall) (line : Call) (j : ℕ) (v : Datagram) → calls ≡ newer ++ e ∷ older → e.event ≡ Takes line → Contains terms.live j → e.place ≢ j → terms.quiet < e.time
      → Contains (sends_in (events_of line (judged_at numbers older e.place))) v → e.time + terms.delivery < time_of calls → Arrives numbers newer (e ∷ older) j (e.time + terms.delivery) v
  arrives newer older e line j v split takes live apart late sent long =
      record { later = c.later; call = c.call; between = c.between; split = c.split; place = c.place; soon = c.soon; now = c.now; origin = origins j i; is = c.is; member = record { known = knows_then c.call.time i j c.now rest now_at m; spoken = spoken; fit = c.fit } } where
        i : ℕ
        i = e.place

        c : Comes numbers (origins j i) newer (e ∷ older) j (e.time + terms.delivery) v
        c = s.delivered newer older e line j v split takes live apart late sent long

        rest : List (At JudgedCall)
        rest = c.between ++ e ∷ older

        there : calls ≡ c.later ++ c.call ∷ rest
        there = split ∙ ap (λ (cs : List (At JudgedCall)). cs ++ e ∷ older) c.split ∙ append_assoc c.later (c.call ∷ c.between) (e ∷ older)

        late_there : terms.quiet < c.call.time
        late_there =
            let order = order_there c.later (c.call ∷ rest) there in
            let le = order.0 in
            let first = before_end c.between (e ∷ older) order.1 in
            omega (arith, le, first, late)

        m : IsKnownAt c.call.time i j rest
        m = newest_known rest (all_known rest) c.later c.call i j there late_there (s.alone newer older e split late).0 live apart

        now_at : IsNowAt terms c.call.time j c.now
        now_at = fit_now j c.call rest (CameFrom c.now (origins j i) v) c.is c.place (fitting_of c.later (c.call ∷ rest) j there (late_of c.later rest c.call there late_there) live)

        spoken : IsSpoken (origins j i) v (judged_at numbers rest j).judge
        spoken =
            let h = judged_at numbers older i in
            let taken = taken_at numbers newer older e line (subst (AreTaken numbers) split s.taken) takes in
            let under : IsUnder (numbers i) (plain v) = subst (λ (n : ℕ). IsUnder n (plain v)) (number_at numbers older i) (says_own line h (own_at numbers older i) taken v sent) in
            spoken_by (origins j i) (numbers i) (moment_by terms m.from j) v (judged_at numbers rest j) (another_me i j rest apart) m.is under

  stay_known : IsTimely numbers terms calls
  stay_known = record {
    apart = s.apart;
    taken = s.taken;
    order = s.order;
    covered = s.covered;
    delays = s.delays;
    fitting = s.fitting;
    alone = s.alone;
    drawn = s.drawn;
    recalled = s.recalled;
    soon = s.soon;
    room = s.room;
    delivered = arrives;
    fresh = s.fresh;
  }

pub judged_stay_known : JudgedStayKnown
judged_stay_known numbers origins terms heard calls s k = stay_known numbers origins terms heard calls s k

pub known_become_whole : KnownBecomeWhole
known_become_whole numbers origins terms heard calls newer later sizes wait most i n s k within soon waits lack short some split late live =
    judged_become_whole numbers terms calls newer later sizes wait most i n (stay_known numbers origins terms heard calls s k) within soon waits lack short some split late live
