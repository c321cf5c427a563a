-- Whoever answers becomes known, and stays so from report to report.
use Rattle.std.proofs.Common.{◌≡◌, ◌∙◌, ◌≤◌, ◌+◌, ℕ, Bool, true, false, cond, List, [], ◌∷◌, ◌++◌, ap, arith, eqb-true, refl, subst, sym, true≢false}
use Rattle.std.specs.Prelude.{◌≢◌, ◌&&◌, ◌||◌, Option, None, Some, is_none, nat_eq, not}
use Rattle.std.proofs.lemmas.Bool.{and_parts, eq-eqb, false_from_ne_true}
use Rattle.std.proofs.lemmas.Option.{none-some, same_Some}
use Rattle.std.proofs.Math.Nat.{le_refl}
use Rattle.wb_names.specs.Values.{MarkValue}
use Rattle.wb_names.specs.declared.echo.Echo.{Echo}
use Rattle.wb_names.specs.declared.name.PageId.{PageId}
use Rattle.wb_codec.specs.declared.datagram.Datagram.{Datagram}
use Rattle.wb_codec.specs.declared.datagram.Datagram.TheVariants.{AskPages, Draw, PageState, Request, Session}
use Rattle.wb_keeper.specs.Keeper.{sender_of}
use Rattle.wb_judge.specs.Answers.{answers}
use Rattle.wb_judge.specs.Judge.{Judge, is_forged}
use Rattle.wb_judge.specs.Judging.{admitted_verdict, after_admitted, after_admitting, after_answer, after_coming, after_fetching, after_hearing, after_of, after_own, after_report, after_telling, answering_at, fetching_at, is_admitted, is_elsewhere, is_fetched, is_forged_mark, own_verdict, report_verdict, speaking, verdict_of}
use Rattle.wb_judge.specs.Members.{IsSpoken, Speaks}
use Rattle.wb_judge.specs.Origins.{same_origin}
use Rattle.wb_judge.specs.Others as numbers
use Rattle.wb_judge.specs.Others.{heard_again, heard_first, is_bound_elsewhere, other_of}
use Rattle.wb_judge.specs.Reports.{echo_to, report_of}
use Rattle.wb_judge.specs.Verdicts.{dropped, warned}
use Rattle.wb_judge.specs.declared.facts.Facts.{Facts}
use Rattle.wb_judge.specs.declared.limits.TheConstants.{PATIENCE, SILENCE}
use Rattle.wb_judge.specs.declared.origin.Origin.{Origin}
use Rattle.wb_judge.specs.declared.others.Other.{Other}
use Rattle.wb_judge.specs.declared.report.Report.{Report}
use Rattle.wb_judge.specs.declared.verdict.Verdict.{Verdict}
use Rattle.wb_judge.specs.declared.verdict.Warning.TheVariants.{ForgedMark, Impostor, Twin}
use Rattle.wb_judge.specs.declared.verdict.Why.{Why}
use Rattle.wb_judge.specs.declared.verdict.Why.TheVariants.{Crowd, Mark, Own, Speaks as Elsewhere}
use Rattle.wb_judge.proofs.Found.{other_new}
use Rattle.wb_judge.proofs.Outcome.{said_number}
use Rattle.wb_judge.proofs.Sameness.{same_itself, same_origins}
use Rattle.wb_keeping.specs.Laws.{Came}
use Rattle.wb_judging.specs.Handing.{facts_of, handed_for, judge_after, verdict_on}
use Rattle.wb_judging.specs.Judged.{Judged}
use Rattle.wb_judging.specs.declared.call.Call.{Call}
use Rattle.wb_judging.specs.declared.call.Call.TheVariants.{CameFrom, Held, Passed, UserDrew}
use Rattle.wb_judging.specs.Performing.{after_judged}
use Rattle.wb_judging.proofs.MembersIn.{each_kind_is_handed_in}
use Rattle.wb_judged_sessions.specs.Answering.{AnswersAreHandedIn, AnswersMakeKnown, HasRoomFor, IsLeftKnown, KnownAreHandedIn, KnownGoOn, heard_at, heard_by_call, heard_by_line, is_report_of}
use Rattle.wb_judged_sessions.specs.Knowing.{IsKnownSince, is_heard_since, is_known_since}
use Rattle.wb_judged_sessions.specs.Calls.{after_call, JudgedCall, Starts, Takes, Tunes}
use Rattle.wb_judged_sessions.specs.Sessions.{judged_at}
use Rattle.wb_judged_sessions.proofs.Numbers.{hear_others, of_entry, said_now}
use Rattle.wb_judged_sessions.proofs.Origins.{from_there}
use Rattle.wb_judged_sessions.proofs.Records.{number_at}
use Rattle.wb_judged_sessions.proofs.Staying.{came, known_for, report_makes_known, speaks_since, stays_known}
use Rattle.wb_judged_sessions.proofs.Terms.{own_at}

-- ---- why a report is handed in

-- what is so of a report that is handed in
record IsLetIn (o : Origin) (r : Report) (answer : Bool) (f : Facts) (j : Judge) : Type 0 where
  owned : is_forged r.speaker o j ≡ false
  another : nat_eq r.speaker j.me ≡ false
  here : is_elsewhere o r answer f.at j ≡ false
  admitted : is_admitted o r.speaker answer f.at j ≡ true
  fine : is_forged_mark r f ≡ false

some_why : {X : Type 0} (why : Why) → Some why ≡ None → X
some_why why e = absurd (none-some why (sym e))

own_dropped : (sent : ℕ) (r : Report) (now : ℕ) (j : Judge) → (own_verdict sent r now j).why ≡ Some Own
unfolding own_verdict
own_dropped sent r now j = by _ where
  by : (b : Bool) → (cond b (warned Own Twin) (dropped Own)).why ≡ Some Own
  by true = refl
  by false = refl

let_in : (o : Origin) (s sent : ℕ) (page : PageId) (marks : List MarkValue) (echoes : List Echo) (f : Facts) (j : Judge) → (verdict_of o (Session s sent page marks echoes) f j).why ≡ None
    → IsLetIn o (report_of j.me s marks echoes) (answers j.own (echo_to j.me echoes) f.at) f j
unfolding report_verdict admitted_verdict
let_in o s sent page marks echoes f j none = owned (is_forged s o j) refl none where
  r : Report
  r = report_of j.me s marks echoes

  answer : Bool
  answer = answers j.own r.echo f.at

  k : Judge
  k = after_admitting o s answer f.at j

  mark : is_forged s o j ≡ false → nat_eq s j.me ≡ false → is_elsewhere o r answer f.at j ≡ false → is_admitted o s answer f.at j ≡ true
      → (v : Verdict) (b : Bool) → is_forged_mark r f ≡ b → (cond b (warned Mark ForgedMark) v).why ≡ None → IsLetIn o r answer f j
  mark e g h i v true is why = some_why Mark why
  mark e g h i v false is why = record { owned = e; another = g; here = h; admitted = i; fine = is }

  room : is_forged s o j ≡ false → nat_eq s j.me ≡ false → is_elsewhere o r answer f.at j ≡ false
      → (b : Bool) → is_admitted o s answer f.at j ≡ b → (cond (not b) (dropped Crowd) (admitted_verdict o r answer f k)).why ≡ None → IsLetIn o r answer f j
  room e g h false is why = some_why Crowd why
  room e g h true is why = mark e g h is _ (is_forged_mark r f) refl why

  here : is_forged s o j ≡ false → nat_eq s j.me ≡ false
      → (b : Bool) → is_elsewhere o r answer f.at j ≡ b → (cond b (dropped Elsewhere) (cond (not (is_admitted o s answer f.at j)) (dropped Crowd) (admitted_verdict o r answer f k))).why ≡ None
      → IsLetIn o r answer f j
  here e g true is why = some_why Elsewhere why
  here e g false is why = room e g is (is_admitted o s answer f.at j) refl why

  another : is_forged s o j ≡ false → (b : Bool) → nat_eq s j.me ≡ b → (cond b (own_verdict sent r f.at j) (report_verdict o r f j)).why ≡ None → IsLetIn o r answer f j
  another e true is why = some_why Own (sym (own_dropped sent r f.at j) ∙ why)
  another e false is why = here e is (is_elsewhere o r answer f.at j) refl why

  owned : (b : Bool) → is_forged s o j ≡ b → (cond b (warned Elsewhere (Impostor s)) (cond (nat_eq s j.me) (own_verdict sent r f.at j) (report_verdict o r f j))).why ≡ None → IsLetIn o r answer f j
  owned true is why = some_why Elsewhere why
  owned false is why = another is (nat_eq s j.me) refl why

-- ---- what a report that answers makes of a judge

hears_known : (o : Origin) (number lacking now : ℕ) (j : Judge) → is_known_since o now (after_hearing o number true lacking now j).known ≡ true
unfolding after_hearing after_fetching after_answer
hears_known o number lacking now j = by (is_fetched (speaking o number true now j) lacking now j) where
  by : (fetch : Bool) → is_known_since o now (after_fetching fetch now (after_answer true o now j)).known ≡ true
  by true = from_there o now now j.known (le_refl now)
  by false = from_there o now now j.known (le_refl now)

said_first : (fetch : Bool) (o : Origin) (number now : ℕ) (others : List Other) → is_heard_since o now (Some (said_now fetch o number true now others)) ≡ true
unfolding numbers.spoken
said_first fetch o number now others = let y = again (other_of number others) in by fetch (heard_again number o now (other_of number others)) y.0 y.1 where
  again : (x : Option Other) → (same_origin (heard_again number o now x).origin o ≡ true) × (now ≤ (heard_again number o now x).at)
  again None = (same_itself o, le_refl now)
  again (Some x) = choose (same_origin x.origin o) refl where
    choose : (b : Bool) → same_origin x.origin o ≡ b → (let y : Other = cond b (record x { at = now }) (heard_first number o now) in (same_origin y.origin o ≡ true) × (now ≤ y.at))
    choose true is = (is, le_refl now)
    choose false is = (same_itself o, le_refl now)

  by : (fetch : Bool) (y : Other) → same_origin y.origin o ≡ true → now ≤ y.at → is_heard_since o now (Some (fetching_at fetch now (answering_at true now y))) ≡ true
  by true y from late = of_entry o now (fetching_at true now (answering_at true now y)) from refl late
  by false y from late = of_entry o now (answering_at true now y) from refl late

hears_number : (o : Origin) (number lacking now : ℕ) (j : Judge) → is_heard_since o now (other_of number (after_hearing o number true lacking now j).others) ≡ true
hears_number o number lacking now j =
    let h = hear_others o number true lacking now j in
    let x = said_now h.0 o number true now j.others in
    ap (λ (xs : List Other). is_heard_since o now (other_of number xs)) h.1
    ∙ ap (is_heard_since o now) (other_new number x j.others (eq-eqb _ _ (said_number h.0 o number true now j.others)))
    ∙ said_first h.0 o number now j.others

-- so it is after it
after_let_in : (o : Origin) (s sent : ℕ) (page : PageId) (marks : List MarkValue) (echoes : List Echo) (f : Facts) (j : Judge) → let r = report_of j.me s marks echoes in
    let answer = answers j.own r.echo f.at in
    IsLetIn o r answer f j → after_of o (Session s sent page marks echoes) f j ≡ after_hearing o s answer f.lacking f.at (after_admitting o s answer f.at j)
unfolding after_report after_admitted
after_let_in o s sent page marks echoes f j l =
    let r = report_of j.me s marks echoes in
    let answer = answers j.own r.echo f.at in
    let k = after_admitting o s answer f.at j in
    let heard = after_hearing o s answer f.lacking f.at k in
    let ours = after_own o sent r f.at j in
    ap (λ (b : Bool). cond b j (cond (nat_eq s j.me) ours (after_report o r f j))) l.owned
    ∙ ap (λ (b : Bool). cond b ours (after_report o r f j)) l.another
    ∙ ap (λ (b : Bool). cond (b || not (is_admitted o s answer f.at j)) j (after_admitted o r answer f k)) l.here
    ∙ ap (λ (b : Bool). cond (not b) j (after_admitted o r answer f k)) l.admitted
    ∙ ap (λ (b : Bool). cond b k heard) l.fine

-- ---- one member

handed_why : (now : ℕ) (v : Datagram) (why : Option Why) → handed_for now v why ≡ Came now v → why ≡ None
handed_why now v None e = refl
handed_why now v (Some why) e = absurd cc

pub answers_make_known : AnswersMakeKnown
unfolding judge_after verdict_on answers
answers_make_known now o number (Draw d) h speaks is lets = absurd (none-some number speaks)
answers_make_known now o number (Request asker name) h speaks is lets = absurd (none-some number speaks)
answers_make_known now o number (AskPages asker) h speaks is lets = absurd (none-some number speaks)
answers_make_known now o number (PageState s page marks) h speaks is lets = absurd (true≢false (sym is))
answers_make_known now o number (Session s sent page marks echoes) h speaks is lets =
    subst (λ (n : ℕ). IsKnownSince o n now (after_judged (CameFrom now o v) h).judge) (same_Some s number speaks) (came now o o v h s now made) where
      v : Datagram
      v = Session s sent page marks echoes

      f : Facts
      f = facts_of now v h.kept

      j : Judge
      j = after_coming o now h.judge

      after : judge_after now o v h ≡ after_telling o v now (after_hearing o s true f.lacking now (after_admitting o s true now j))
      after = ap (after_telling o v now) (
          after_let_in o s sent page marks echoes f j (let_in o s sent page marks echoes f j (handed_why now v (verdict_on now o v h).why lets))
          ∙ ap (λ (b : Bool). after_hearing o s b f.lacking now (after_admitting o s b now j)) is)

      made : IsKnownSince o s now (judge_after now o v h)
      made = record {
        known = ap (λ (k : Judge). is_known_since o now k.known) after ∙ hears_known o s f.lacking now (after_admitting o s true now j);
        heard = ap (λ (k : Judge). is_heard_since o now (other_of s k.others)) after ∙ hears_number o s f.lacking now (after_admitting o s true now j);
      }

-- it is handed in
lets_in : (o : Origin) (s sent : ℕ) (page : PageId) (marks : List MarkValue) (echoes : List Echo) (f : Facts) (j : Judge) → let r = report_of j.me s marks echoes in
    answers j.own r.echo f.at ≡ true → is_forged s o j ≡ false → nat_eq s j.me ≡ false → is_admitted o s true f.at j ≡ true → is_forged_mark r f ≡ false
    → (verdict_of o (Session s sent page marks echoes) f j).why ≡ None
unfolding report_verdict admitted_verdict is_elsewhere
lets_in o s sent page marks echoes f j is owned another room fine =
    ap (λ (b : Bool). (cond b (warned Elsewhere (Impostor s)) (cond (nat_eq s j.me) ours theirs)).why) owned
    ∙ ap (λ (b : Bool). (cond b ours theirs).why) another
    ∙ ap (λ (a : Bool). (judged a).why) is
    ∙ ap (λ (b : Bool). (cond (not b) (dropped Crowd) (admitted_verdict o r true f (after_admitting o s true f.at j))).why) room
    ∙ mark _ (is_forged_mark r f) fine where
      r : Report
      r = report_of j.me s marks echoes

      ours : Verdict
      ours = own_verdict sent r f.at j

      theirs : Verdict
      theirs = report_verdict o r f j

      judged : Bool → Verdict
      judged a = cond (not a && is_bound_elsewhere s o f.at j.others) (dropped Elsewhere) (cond (not (is_admitted o s a f.at j)) (dropped Crowd) (admitted_verdict o r a f (after_admitting o s a f.at j)))

      mark : (v : Verdict) (b : Bool) → b ≡ false → (cond b (warned Mark ForgedMark) v).why ≡ v.why
      mark v true e = absurd (true≢false e)
      mark v false e = refl

not_me : (s me : ℕ) → s ≢ me → nat_eq s me ≡ false
not_me s me apart = false_from_ne_true (nat_eq s me) (λ e. apart (eqb-true s me e))

pub answers_are_handed_in : AnswersAreHandedIn
unfolding verdict_on answers is_admitted
answers_are_handed_in now o number (Draw d) h speaks is apart room fit = absurd (none-some number speaks)
answers_are_handed_in now o number (Request asker name) h speaks is apart room fit = absurd (none-some number speaks)
answers_are_handed_in now o number (AskPages asker) h speaks is apart room fit = absurd (none-some number speaks)
answers_are_handed_in now o number (PageState s page marks) h speaks is apart room fit = absurd (true≢false (sym is))
answers_are_handed_in now o number (Session s sent page marks echoes) h speaks is apart room fit =
    let v = Session s sent page marks echoes in
    let same = same_Some s number speaks in
    let mine : HasRoomFor o s now h.judge = subst (λ (n : ℕ). HasRoomFor o n now h.judge) (sym same) room in
    ap (handed_for now v)
    (lets_in o s sent page marks echoes (facts_of now v h.kept) (after_coming o now h.judge) is mine.owned (not_me s h.judge.me (λ e. apart (sym same ∙ e))) mine.admitted fit)

-- ---- from then on

spoken : (o : Origin) (number at : ℕ) (v : Datagram) (h : Judged) → ¬ (number ≡ h.judge.me) → IsKnownSince o number at h.judge → ((s : ℕ) → sender_of v ≡ Some s → s ≡ number) → IsSpoken o v h.judge
spoken o number at (Draw d) h another m whose = tt
spoken o number at (Session s sent page marks echoes) h another m whose = subst (λ (n : ℕ). Speaks o n h.judge) (sym (whose s refl)) (speaks_since o number at h.judge another m)
spoken o number at (Request asker name) h another m whose = subst (λ (n : ℕ). Speaks o n h.judge) (sym (whose asker refl)) (speaks_since o number at h.judge another m)
spoken o number at (AskPages asker) h another m whose = subst (λ (n : ℕ). Speaks o n h.judge) (sym (whose asker refl)) (speaks_since o number at h.judge another m)
spoken o number at (PageState s page marks) h another m whose = subst (λ (n : ℕ). Speaks o n h.judge) (sym (whose s refl)) (speaks_since o number at h.judge another m)

pub known_are_handed_in : KnownAreHandedIn
known_are_handed_in now o number at v h another m soon whose fit quiet =
    each_kind_is_handed_in now o v h (record { known = known_for o number at now h.judge soon m; spoken = spoken o number at v h another m whose; fit = fit }) quiet

-- what is within 192 seconds is within ten minutes
in_patience : (now at : ℕ) → now ≤ at + PATIENCE → now ≤ at + SILENCE
in_patience now at le = less le where
  less : now ≤ at + 192000000 → now ≤ at + 600000000
  less le = omega (arith, le)

none_is : (o : Option Why) → is_none o ≡ true → o ≡ None
none_is None e = refl
none_is (Some why) e = absurd (true≢false (sym e))

-- a report that is handed in makes it known since then
renews : (o : Origin) (number at now : ℕ) (v : Datagram) (h : Judged) → number ≢ h.judge.me → now ≤ at + PATIENCE → is_report_of number v ≡ true → (verdict_on now o v h).why ≡ None
    → IsKnownSince o number at h.judge → IsKnownSince o number now (after_judged (CameFrom now o v) h).judge
unfolding verdict_on
renews o number at now (Draw d) h another soon is why m = absurd (true≢false (sym is))
renews o number at now (Request asker name) h another soon is why m = absurd (true≢false (sym is))
renews o number at now (AskPages asker) h another soon is why m = absurd (true≢false (sym is))
renews o number at now (PageState s page marks) h another soon is why m = absurd (true≢false (sym is))
renews o number at now (Session s sent page marks echoes) h another soon is why m =
    let v = Session s sent page marks echoes in
    let same = eqb-true s number is in
    let l = let_in o s sent page marks echoes (facts_of now v h.kept) (after_coming o now h.judge) why in
    subst (λ (n : ℕ). IsKnownSince o n now (after_judged (CameFrom now o v) h).judge) same
    (report_makes_known now o s sent page marks echoes h at l.another (known_for o number at now h.judge (in_patience now at soon) m) l.fine
    (subst (λ (n : ℕ). IsKnownSince o n at h.judge) (sym same) m))

-- a line leaves it known since its last report
line_goes_on : (o : Origin) (number at : ℕ) (line : Call) (h : Judged) → number ≢ h.judge.me → IsLeftKnown o number at (Takes line) h → IsKnownSince o number at h.judge
    → IsKnownSince o number (heard_by_line o number line h at) (after_judged line h).judge
line_goes_on o number at (Passed now news) h another left m = stays_known (Passed now news) h o number at left.0 left.1 m
line_goes_on o number at (UserDrew now page op) h another left m = stays_known (UserDrew now page op) h o number at left.0 left.1 m
line_goes_on o number at (Held line) h another left m = stays_known (Held line) h o number at left.0 left.1 m
line_goes_on o number at (CameFrom now p v) h another left m = choose (is_report_of number v && (same_origin p o && is_none (verdict_on now p v h).why)) refl where
  choose : (b : Bool) → (is_report_of number v && (same_origin p o && is_none (verdict_on now p v h).why)) ≡ b → IsKnownSince o number (cond b now at) (after_judged (CameFrom now p v) h).judge
  choose false is = stays_known (CameFrom now p v) h o number at left.0 left.1 m
  choose true is =
      let one = and_parts (is_report_of number v) _ is in
      let two = and_parts (same_origin p o) _ one.1 in
      let there = same_origins p o two.0 in
      let why = none_is (verdict_on now p v h).why two.1 in
      subst (λ (q : Origin). IsKnownSince o number now (after_judged (CameFrom now q v) h).judge) (sym there)
      (renews o number at now v h another left.1.1 one.0 (subst (λ (q : Origin). (verdict_on now q v h).why ≡ None) there why) m)

pub known_go_on : KnownGoOn
known_go_on numbers o number place since [] older another m left = m
known_go_on numbers o number place since (e ∷ newer) older another m left = by (nat_eq e.place place) refl (known_go_on numbers o number place since newer older another m left.1) where
  before : ℕ
  before = heard_at numbers o number place since newer older

  h : Judged
  h = judged_at numbers (newer ++ older) place

  other_me : number ≢ h.judge.me
  other_me same = another (same ∙ own_at numbers (newer ++ older) place ∙ number_at numbers (newer ++ older) place)

  goes : (call : JudgedCall) → IsLeftKnown o number before call h → IsKnownSince o number before h.judge → IsKnownSince o number (heard_by_call o number call h before) (after_call call h).judge
  goes (Starts start given) l rest = absurd l
  goes (Takes line) l rest = line_goes_on o number before line h other_me l rest
  goes (Tunes constants) l rest = rest

  by : (b : Bool) → nat_eq e.place place ≡ b → IsKnownSince o number before h.judge
      → IsKnownSince o number (cond b (heard_by_call o number e.event h before) before) (let k : Judged = cond b (after_call e.event h) h in k.judge)
  by false is rest = rest
  by true is rest = goes e.event (left.0 (eqb-true e.place place is)) rest
