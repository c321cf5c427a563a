-- Twins see each other.
use Rattle.std.proofs.Common.{◌≡◌, ◌∙◌, ◌≤◌, ◌<◌, ◌+◌, ℕ, Bool, true, false, cond, List, [], ◌∷◌, ◌++◌, ap, arith, filter, length, refl, subst, sym}
use Rattle.std.specs.Prelude.{◌-◌, ◌&&◌, ◌||◌, Contains, Option, None, Some, nat_eq, nat_lt, not}
use Rattle.std.specs.List.{find, list_any}
use Rattle.std.specs.Option.{option_or}
use Rattle.std.proofs.lemmas.Bool.{eq-eqb, le-leb, lt-ltb}
use Rattle.std.proofs.lemmas.Bool.Decides.{nat_tests}
use Rattle.std.proofs.lemmas.List.Folds.{find-append}
use Rattle.std.proofs.Math.Bool.{or-true}
use Rattle.wb_names.specs.Values.{MarkValue}
use Rattle.wb_names.specs.declared.echo.Echo.{Echo}
use Rattle.wb_names.specs.declared.name.PageId.{PageId}
use Rattle.wb_codec.specs.declared.datagram.Datagram.{Datagram}
use Rattle.wb_codec.specs.declared.datagram.Datagram.TheVariants.{AskPages, Draw, PageState, Request, Session}
use Rattle.wb_keeper.specs.declared.keeper.Heard.{Heard}
use Rattle.wb_judge.specs.Adding.{echo_of, own_echo}
use Rattle.wb_judge.specs.Aliens.{alien_at, beside, with_alien}
use Rattle.wb_judge.specs.Answers.{answers}
use Rattle.wb_judge.specs.Judge.{Judge, is_forged, knows}
use Rattle.wb_judge.specs.Judging.{after_admitted, after_admitting, after_answer, after_coming, after_fetching, after_hearing, after_judging, after_of, after_own, after_report, after_telling, is_forged_mark, is_twin, with_payment}
use Rattle.wb_judge.specs.Laws.{is_answer}
use Rattle.wb_judge.specs.Reports.{echo_to, report_of}
use Rattle.wb_judge.specs.Strange.{with_given}
use Rattle.wb_judge.specs.declared.facts.Facts.{Facts}
use Rattle.wb_judge.specs.declared.aliens.Alien.{Alien}
use Rattle.wb_judge.specs.declared.limits.TheConstants.{FRESH, MOST_ALIENS}
use Rattle.wb_judge.specs.declared.origin.Origin.{Origin}
use Rattle.wb_judge.specs.declared.report.Report.{Report}
use Rattle.wb_judge.proofs.Twins.{replay_is_no_twin}
use Rattle.wb_member.specs.Judged.{echoes}
use Rattle.wb_member.specs.Opened.{present}
use Rattle.wb_policy.proofs.Latest.{few as echoed_few, others_from}
use Rattle.wb_judging.specs.Echoing.{placed, with_echo}
use Rattle.wb_judging.specs.Handing.{facts_of, handed, judge_after}
use Rattle.wb_judging.specs.Events.{is_new}
use Rattle.wb_judging.specs.Hearing.{after_fate, after_recalling, after_sending, after_sends, with_strange}
use Rattle.wb_judging.specs.declared.event.Fate.{Fate}
use Rattle.wb_judging.specs.declared.record.RecordLine.{RecordLine}
use Rattle.wb_judging.specs.declared.record.RecordLine.TheVariants.{Known, Mark, Owner, Said, Strange, Tick}
use Rattle.wb_judging.specs.Judged.{Judged, moment_of}
use Rattle.wb_judging.specs.declared.call.Call.{Call}
use Rattle.wb_judging.specs.declared.call.Call.TheVariants.{CameFrom, Held, Passed, UserDrew}
use Rattle.wb_judging.specs.Laws.{sends_in}
use Rattle.wb_judging.specs.Performing.{after_judged, events_of, fate_by, judging, sent_by_kept_line}
use Rattle.wb_judging.proofs.NewsTold.{news_keeps}
use Rattle.wb_judging.proofs.Numbers.{me_judging}
use Rattle.wb_kept_progress.proofs.Pauses.{lawful_echoes}
use Rattle.wb_judged_sessions.specs.Sessions.{judged_at}
use Rattle.wb_judged_sessions.specs.Terms.{AreTaken}
use Rattle.wb_judged_sessions.specs.Twins.{AnswersShowTwins, IsOfTwin, TwinsAreRemembered, TwinsSee, TwinsStay}
use Rattle.wb_judged_sessions.proofs.Answered.{after_it, answers_in_time, me_at, taken_part}
use Rattle.wb_policy.specs.Choices.{firsts_of}
use Rattle.wb_judged_sessions.proofs.Echoed.{IsReported, report_echoes, report_moment, reported, taken_line}

-- ---- what a report of a twin makes of a judge

abbrev with_twin : Origin → ℕ → Report → ℕ → Judge → Judge
with_twin o sent r now j = record j { aliens = with_alien (record { origin = o; sent = sent; at = now }) j.aliens; has_twin = j.has_twin || is_twin sent r now j }

of_twin : (o : Origin) (sent : ℕ) (page : PageId) (marks : List MarkValue) (echoes : List Echo) (f : Facts) (j : Judge) → is_forged j.me o j ≡ false → list_any (nat_eq sent) j.own ≡ false
    → after_of o (Session j.me sent page marks echoes) f j ≡ with_twin o sent (report_of j.me j.me marks echoes) f.at j
unfolding after_own
of_twin o sent page marks echoes f j owned other =
    let r = report_of j.me j.me marks echoes in
    let ours = after_own o sent r f.at j in
    let theirs = after_report o r f j in
    ap (λ (b : Bool). cond b j (cond (nat_eq j.me j.me) ours theirs)) owned
    ∙ ap (λ (b : Bool). cond b ours theirs) (eq-eqb j.me j.me refl)
    ∙ ap (λ (b : Bool). cond b j (with_twin o sent r f.at j)) other

-- what it sends leaves that
record SameTwin (j k : Judge) : Type 0 where
  aliens : k.aliens ≡ j.aliens
  twin : k.has_twin ≡ j.has_twin

sending : (v : Datagram) (j : Judge) → SameTwin j (after_sending v j)
sending (Draw d) j = record { aliens = refl; twin = refl }
sending (Session s sent page marks es) j = record { aliens = refl; twin = refl }
sending (Request asker name) j = record { aliens = refl; twin = refl }
sending (AskPages asker) j = record { aliens = refl; twin = refl }
sending (PageState s page marks) j = record { aliens = refl; twin = refl }

all_sent : (sent : List Datagram) (j : Judge) → SameTwin j (after_sends sent j)
all_sent [] j = record { aliens = refl; twin = refl }
all_sent (v ∷ sent) j =
    let one = sending v j in
    let rest = all_sent sent (after_sending v j) in
    record { aliens = rest.aliens ∙ one.aliens; twin = rest.twin ∙ one.twin }

line_sent : (line : Call) (h : Judged) → SameTwin (judging line h) (after_judged line h).judge
line_sent line h = all_sent (sent_by_kept_line (handed line h) h.kept) (judging line h)

module _ (now : ℕ) (o : Origin) (sent : ℕ) (page : PageId) (marks : List MarkValue) (es : List Echo) (h : Judged) (twin : IsOfTwin o sent h.judge) where
  abbrev v : Datagram
  v = Session h.judge.me sent page marks es

  abbrev r : Report
  r = report_of h.judge.me h.judge.me marks es

  judged : judge_after now o v h ≡ after_telling o v now (with_twin o sent r now (after_coming o now h.judge))
  unfolding judge_after
  judged = ap (after_telling o v now) (of_twin o sent page marks es (facts_of now v h.kept) (after_coming o now h.judge) twin.owned twin.other)

  abbrev a : Alien
  a = record { origin = o; sent = sent; at = now }

  remembers : length (filter (beside a) h.judge.aliens) < MOST_ALIENS → (after_judged (CameFrom now o v) h).judge.aliens ≡ filter (beside a) h.judge.aliens ++ a ∷ []
  remembers few =
      (line_sent (CameFrom now o v) h).aliens ∙ ap (λ (j : Judge). j.aliens) judged
      ∙ ap (λ (b : Bool). cond b (filter (beside a) h.judge.aliens ++ a ∷ []) (filter (beside a) h.judge.aliens)) (lt-ltb (length (filter (beside a) h.judge.aliens)) MOST_ALIENS few)

  sees : is_answer v now h.judge ≡ true → (after_judged (CameFrom now o v) h).judge.has_twin ≡ true
  sees answer =
      (line_sent (CameFrom now o v) h).twin ∙ ap (λ (j : Judge). j.has_twin) judged
      ∙ ap (λ (b : Bool). h.judge.has_twin || (not b && answers h.judge.own r.echo now)) twin.other
      ∙ ap (λ (b : Bool). h.judge.has_twin || b) answer ∙ or-true h.judge.has_twin

pub twins_are_remembered : TwinsAreRemembered
twins_are_remembered now o sent page marks es h twin few = remembers now o sent page marks es h twin few

pub answers_show_twins : AnswersShowTwins
answers_show_twins now o sent page marks es h twin answer = sees now o sent page marks es h twin answer

-- ---- a twin stays

abbrev IsSeen : Judge → Type 0
IsSeen j = j.has_twin ≡ true

either : (b : Bool) (j k : Judge) → IsSeen j → IsSeen k → IsSeen (cond b j k)
either true j k one other = one
either false j k one other = other

paid : (answer : Bool) (n : ℕ) (j : Judge) → IsSeen j → IsSeen (with_payment answer n j)
paid true n j seen = seen
paid false n j seen = seen

answered : (answer : Bool) (o : Origin) (now : ℕ) (j : Judge) → IsSeen j → IsSeen (after_answer answer o now j)
unfolding after_answer
answered true o now j seen = seen
answered false o now j seen = seen

fetching : (fetch : Bool) (now : ℕ) (j : Judge) → IsSeen j → IsSeen (after_fetching fetch now j)
unfolding after_fetching
fetching true now j seen = seen
fetching false now j seen = seen

hearing : (o : Origin) (number : ℕ) (answer : Bool) (lacking now : ℕ) (j : Judge) → IsSeen j → IsSeen (after_hearing o number answer lacking now j)
unfolding after_hearing
hearing o number answer lacking now j seen = fetching _ now (after_answer answer o now j) (answered answer o now j seen)

admitting : (o : Origin) (number : ℕ) (answer : Bool) (now : ℕ) (j : Judge) → IsSeen j → IsSeen (after_admitting o number answer now j)
unfolding after_admitting
admitting o number answer now j seen = either _ j _ seen (paid answer _ j seen)

heard_report : (o : Origin) (r : Report) (f : Facts) (j : Judge) → IsSeen j → IsSeen (after_report o r f j)
unfolding after_report after_admitted
heard_report o r f j seen =
    let k = after_admitting o r.speaker (answers j.own r.echo f.at) f.at j in
    let there = admitting o r.speaker (answers j.own r.echo f.at) f.at j seen in
    either _ j _ seen (either (is_forged_mark r f) k _ there (hearing o r.speaker (answers j.own r.echo f.at) f.lacking f.at k there))

own_report : (o : Origin) (sent : ℕ) (r : Report) (now : ℕ) (j : Judge) → IsSeen j → IsSeen (after_own o sent r now j)
unfolding after_own
own_report o sent r now j seen = either (list_any (nat_eq sent) j.own) j (with_twin o sent r now j) seen (ap (λ (b : Bool). b || is_twin sent r now j) seen)

-- a datagram that is no report answers nobody
after_datagram : (o : Origin) (v : Datagram) (f : Facts) (j : Judge) → IsSeen j → IsSeen (after_judging o v f j)
unfolding answers
after_datagram o (Draw d) f j seen = seen
after_datagram o (Session s sent page marks es) f j seen =
    let i = after_coming o f.at j in
    let r = report_of j.me s marks es in
    either (is_forged s o i) i _ seen (either (nat_eq s i.me) _ _ (own_report o sent r f.at i seen) (heard_report o r f i seen))
after_datagram o (Request asker name) f j seen = replay_is_no_twin o (Request asker name) f j refl ∙ seen
after_datagram o (AskPages asker) f j seen = replay_is_no_twin o (AskPages asker) f j refl ∙ seen
after_datagram o (PageState s page marks) f j seen = replay_is_no_twin o (PageState s page marks) f j refl ∙ seen

after_becoming : (now : ℕ) (o : Origin) (v : Datagram) (fate : Option Fate) (j : Judge) → IsSeen j → IsSeen (after_fate now o v fate j)
after_becoming now o (Draw d) fate j seen = either (is_new fate) _ j (either (knows o now j) j (record j { strange = with_given (record { name = d.name; origin = Some o }) j.strange }) seen seen) seen
after_becoming now o (Session s sent page marks es) fate j seen = seen
after_becoming now o (Request asker name) fate j seen = seen
after_becoming now o (AskPages asker) fate j seen = seen
after_becoming now o (PageState s page marks) fate j seen = seen

recalling : (line : RecordLine) (fate : Option Fate) (j : Judge) → IsSeen j → IsSeen (after_recalling line fate j)
recalling (Tick past) fate j seen = seen
recalling (Said d) fate j seen = seen
recalling (Known d) fate j seen = seen
recalling (Strange d) fate j seen = either (is_new fate) (with_strange d.name j) j seen seen
recalling (Mark speaker page mark) fate j seen = seen
recalling (Owner number place owner) fate j seen = seen

before_sending : (line : Call) (h : Judged) → IsSeen h.judge → IsSeen (judging line h)
unfolding judge_after
before_sending (CameFrom now o v) h seen =
    after_becoming now o v (fate_by (handed (CameFrom now o v) h) h.kept) (judge_after now o v h) (after_datagram o v (facts_of now v h.kept) h.judge seen)
before_sending (Passed now news) h seen = (news_keeps now news h.judge).twin ∙ seen
before_sending (UserDrew now page op) h seen = seen
before_sending (Held line) h seen = recalling line (fate_by (handed (Held line) h) h.kept) h.judge seen

pub twins_stay : TwinsStay
twins_stay line h seen = (line_sent line h).twin ∙ before_sending line h seen

-- ---- the own echo of a report

none_below : (me : ℕ) (es : List Echo) → find (λ e. nat_eq e.source me) (filter (λ e. nat_lt e.source me) es) ≡ None
none_below me [] = refl
none_below me (f ∷ es) = by (nat_lt f.source me) refl (none_below me es) where
  other : nat_lt f.source me ≡ true → nat_eq f.source me ≡ false
  other lt = grind (arith, nat_tests)

  below : List Echo
  below = filter (λ (e : Echo). nat_lt e.source me) es

  by : (b : Bool) → nat_lt f.source me ≡ b → find (λ e. nat_eq e.source me) below ≡ None → find (λ e. nat_eq e.source me) (cond b (f ∷ below) below) ≡ None
  by true lt rest = ap (λ (c : Bool). cond c (Some f) (find (λ (e : Echo). nat_eq e.source me) below)) (other lt) ∙ rest
  by false lt rest = rest

placed_found : (e : Echo) (es : List Echo) → echo_to e.source (placed e es) ≡ Some e
placed_found e es =
    find-append (λ (f : Echo). nat_eq f.source e.source) (filter (λ (f : Echo). nat_lt f.source e.source) es) (e ∷ filter (λ (f : Echo). nat_lt e.source f.source) es)
    ∙ ap (λ (x : Option Echo). option_or x (find (λ (f : Echo). nat_eq f.source e.source) (e ∷ filter (λ (f : Echo). nat_lt e.source f.source) es))) (none_below e.source es)
    ∙ ap (λ (b : Bool). cond b (Some e) (find (λ (f : Echo). nat_eq f.source e.source) (filter (λ (f : Echo). nat_lt e.source f.source) es))) (eq-eqb e.source e.source refl)

with_found : (e : Echo) (es : List Echo) → length es ≤ 32 → echo_to e.source (with_echo (Some e) es) ≡ Some e
with_found e es few = ap (λ (b : Bool). echo_to e.source (cond b (placed e es) es)) (room (length es) few) ∙ placed_found e es where
  room : (n : ℕ) → n ≤ 32 → nat_lt n 65535 ≡ true
  room n le = grind (arith, nat_tests)

own_is : (me moment : ℕ) (p : Origin) (alien : Option Alien) (heard : Heard) → alien ≡ Some (record { origin = p; sent = heard.sent; at = heard.at }) → moment ≤ heard.at + FRESH
    → echo_of me moment alien ≡ Some (record { source = me; sent = heard.sent; held = moment - heard.at })
own_is me moment p alien heard is soon =
    ap (echo_of me moment) is
    ∙ ap (λ (b : Bool). let o : Option Echo = cond b (Some (record { source = me; sent = heard.sent; held = moment - heard.at })) None in o) (le-leb (moment - heard.at) FRESH (within soon)) where
      within : moment ≤ heard.at + FRESH → moment - heard.at ≤ FRESH
      within le = omega (arith, le)

-- ---- two twins

pub twins_see : TwinsSee
twins_see numbers calls e other now moment o page marks es heard taken same sent soon call in_time twin =
    ap (λ (k : Judged). k.judge.has_twin) (after_it numbers calls e (CameFrom now o (Session me moment page marks es)) call)
    ∙ subst (λ (n : ℕ). (after_judged (CameFrom now o (Session n moment page marks es)) h).judge.has_twin ≡ true) (me_at numbers calls e.place)
    (answers_show_twins now o moment page marks es h twin answer) where
      me : ℕ
      me = numbers e.place

      h : Judged
      h = judged_at numbers calls e.place

      k : Judged
      k = judged_at numbers sent.earlier sent.call.place

      sends : Contains (sends_in (events_of sent.line k)) (Session me moment page marks es)
      sends = subst (λ (p : ℕ). Contains (sends_in (events_of sent.line (judged_at numbers sent.earlier p))) (Session me moment page marks es)) (sym sent.here) sent.sends

      taken_there : AreTaken numbers (sent.call ∷ sent.earlier)
      taken_there = taken_part numbers calls sent.later (sent.call ∷ sent.earlier) sent.split taken

      report : IsReported sent.line k me moment page marks es
      report = reported sent.line k me moment page marks es sends

      now_there : moment ≡ moment_of sent.line k
      now_there = report_moment sent.line k me moment page marks es (taken_line numbers sent.earlier sent.call sent.line taken_there sent.takes) report

      few : length report.plain ≤ 32
      few =
          let t = report_echoes sent.line k me moment page marks es (taken_line numbers sent.earlier sent.call sent.line taken_there sent.takes) report in
          subst (λ (fs : List Echo). length fs ≤ 32) (sym t.1.is) (echoed_few (firsts_of t.1.known t.1.from (echoes t.0)) t.1.from 32 (echoes t.0) (others_from (echoes t.0) (lawful_echoes t.0.is.number t.0.is.calls (present t.0)).ascending))

      aliens : (judging sent.line k).aliens ≡ (judged_at numbers (sent.call ∷ sent.earlier) other).judge.aliens
      aliens =
          sym (line_sent sent.line k).aliens ∙ ap (λ (x : Judged). x.judge.aliens) (sym (after_it numbers sent.earlier sent.call sent.line sent.takes))
          ∙ ap (λ (p : ℕ). (judged_at numbers (sent.call ∷ sent.earlier) p).judge.aliens) sent.here

      alien : alien_at moment (judging sent.line k).aliens ≡ Some (record { origin = sent.after.0; sent = heard.sent; at = heard.at })
      alien = ap (alien_at moment) aliens ∙ sent.after.1

      mine : (judging sent.line k).me ≡ me
      mine = me_judging sent.line k ∙ me_at numbers sent.earlier sent.call.place ∙ ap numbers sent.here ∙ same

      echo : Echo
      echo = record { source = me; sent = heard.sent; held = moment - heard.at }

      own : own_echo (moment_of sent.line k) (judging sent.line k) ≡ Some echo
      own =
          ap (λ (n : ℕ). echo_of n (moment_of sent.line k) (alien_at (moment_of sent.line k) (judging sent.line k).aliens)) mine
          ∙ ap (λ (t : ℕ). echo_of me t (alien_at t (judging sent.line k).aliens)) (sym now_there)
          ∙ own_is me moment sent.after.0 (alien_at moment (judging sent.line k).aliens) heard alien soon

      found : echo_to me es ≡ Some echo
      found = ap (echo_to me) report.echoed ∙ ap (λ (x : Option Echo). echo_to me (with_echo x report.plain)) own ∙ with_found echo report.plain few

      answer : is_answer (Session h.judge.me moment page marks es) now h.judge ≡ true
      answer =
          ap (λ (n : ℕ). answers h.judge.own (echo_to n es) now) (me_at numbers calls e.place) ∙ ap (λ (x : Option Echo). answers h.judge.own x now) found
          ∙ answers_in_time heard moment now h.judge echo in_time refl refl
