-- A judge remembers the moments of the last 256 reports of its member.
use Rattle.std.proofs.Common.{◌≡◌, ◌∙◌, ◌<◌, ◌≤◌, ◌+◌, ℕ, Bool, true, false, cond, List, [], ◌∷◌, ◌++◌, ap, append_assoc, arith, drop, eqb-true, length, length-append, map, refl, subst, sym, ⊎_elim}
use Rattle.std.specs.Prelude.{Contains, Option, None, nat_eq, nat_lt}
use Rattle.std.proofs.lemmas.Bool.Decides.{nat_tests}
use Rattle.std.proofs.lemmas.List.Elements.{Contains-append_right}
use Rattle.wb_names.specs.Values.{MarkValue}
use Rattle.wb_names.specs.declared.echo.Echo.{Echo}
use Rattle.wb_names.specs.declared.name.PageId.{PageId}
use Rattle.wb_names.proofs.Listings.{Contains-cases, Contains-here, Contains-none, Contains-there}
use Rattle.wb_codec.specs.declared.datagram.Datagram.{Datagram}
use Rattle.wb_codec.specs.declared.datagram.Datagram.TheVariants.{AskPages, Draw, PageState, Request, Session}
use Rattle.wb_judge.specs.Adding.{own_echo}
use Rattle.wb_judge.specs.Answers.{reported as with_report}
use Rattle.wb_judge.specs.Judge.{Judge, after_taking, knows}
use Rattle.wb_judge.specs.Judging.{after_coming, after_judging}
use Rattle.wb_judge.specs.Laws.{is_answer, speaker_in}
use Rattle.wb_judge.specs.Lists.{with_place}
use Rattle.wb_judge.specs.Strange.{with_given}
use Rattle.wb_judge.specs.declared.limits.TheConstants.{MOST_OWN}
use Rattle.wb_judge.specs.declared.origin.Origin.{Origin}
use Rattle.wb_judge.specs.declared.strange.Given.{Given}
use Rattle.wb_judge.proofs.Outcome.{Heard, Same, outcome}
use Rattle.wb_keeping.specs.Laws.{doing_of, fault_of}
use Rattle.wb_keeping.specs.Performing.{sent_by_doing}
use Rattle.wb_judging.specs.Echoing.{echoing, with_echo}
use Rattle.wb_judging.specs.Events.{is_new}
use Rattle.wb_judging.specs.Handing.{facts_of, handed, judge_after}
use Rattle.wb_judging.specs.Hearing.{after_fate, after_recalling, after_sending, after_sends, with_strange}
use Rattle.wb_judging.specs.Judged.{Judged, moment_of}
use Rattle.wb_judging.specs.declared.call.Call.{Call}
use Rattle.wb_judging.specs.declared.call.Call.TheVariants.{CameFrom, Held, Passed, UserDrew}
use Rattle.wb_judging.specs.declared.event.Fate.{Fate}
use Rattle.wb_judging.specs.declared.record.RecordLine.{RecordLine}
use Rattle.wb_judging.specs.declared.record.RecordLine.TheVariants.{Known, Mark, Owner, Said, Strange, Tick}
use Rattle.wb_judging.specs.Laws.{sends_in}
use Rattle.wb_judging.specs.Performing.{after_judged, events_of, fate_by, judging, sent_by_kept_line}
use Rattle.wb_judging.proofs.AsKept.{sends_as_kept}
use Rattle.wb_judging.proofs.NewsTold.{news_keeps}
use Rattle.wb_judged_sessions.specs.Laws.{HasNotStarted}
use Rattle.wb_judged_sessions.specs.Calls.{after_call, JudgedCall, sent_by, Start, Starts, Takes, Tunes}
use Rattle.wb_judged_sessions.specs.Sessions.{At, judged_at}
use Rattle.wb_judged_sessions.specs.Terms.{AreTaken}
use Rattle.wb_judged_sessions.proofs.Answered.{after_it}
use Rattle.wb_judged_sessions.proofs.Echoed.{IsReported, report_moment, reported, taken_line}

-- ---- how many reports were sent

-- how many reports are among some datagrams
abbrev pub reports_among : List Datagram → ℕ
reports_among [] = 0
reports_among (Draw d ∷ vs) = reports_among vs
reports_among (Session s sent page marks echoes ∷ vs) = 1 + reports_among vs
reports_among (Request asker name ∷ vs) = reports_among vs
reports_among (AskPages asker ∷ vs) = reports_among vs
reports_among (PageState s page marks ∷ vs) = reports_among vs

-- how many the member at a place sent by newer calls over older ones
abbrev pub reports_by : (ℕ → ℕ) → ℕ → (newer older : List (At JudgedCall)) → ℕ
reports_by numbers place [] older = 0
reports_by numbers place (e ∷ newer) older =
    cond (nat_eq e.place place) (reports_among (sent_by e.event (judged_at numbers (newer ++ older) place))) 0 + reports_by numbers place newer older

-- ---- a moment among the last ones

-- it is remembered, and stays so after as many more reports as `left`
record IsKept (moment left : ℕ) (own : List ℕ) : Type 0 where
  before : List ℕ
  later : List ℕ
  is : own ≡ before ++ moment ∷ later
  room : length later + left < MOST_OWN

fewer : (moment left less : ℕ) (own : List ℕ) → less ≤ left → IsKept moment left own → IsKept moment less own
fewer moment left less own le k = record { before = k.before; later = k.later; is = k.is; room = let r = k.room in omega (arith, le, r) }

among : (moment left : ℕ) (own : List ℕ) → IsKept moment left own → Contains own moment
among moment left own k = subst (λ (ms : List ℕ). Contains ms moment) (sym k.is) (Contains-append_right k.before (moment ∷ k.later) moment (Contains-here moment k.later))

newly : (moment : ℕ) (own : List ℕ) → IsKept moment 255 (with_report moment own)
newly moment own = record { before = with_place MOST_OWN own; later = []; is = refl; room = room } where
  room : 0 + 255 < 256
  room = omega arith

one_more : (t moment left : ℕ) (own : List ℕ) → IsKept moment (1 + left) own → IsKept moment left (with_report t own)
one_more t moment left own k =
    subst (λ (ms : List ℕ). IsKept moment left (with_report t ms)) (sym k.is) (by k.before (nat_lt (length (k.before ++ moment ∷ k.later)) MOST_OWN) refl) where
      end : List ℕ
      end = k.later ++ t ∷ []

      room : length end + left < MOST_OWN
      room = let r = k.room in let n = length-append k.later (t ∷ []) in omega (arith, r, n)

      by : (before : List ℕ) (b : Bool) → nat_lt (length (before ++ moment ∷ k.later)) MOST_OWN ≡ b
          → IsKept moment left (cond b (before ++ moment ∷ k.later) (drop 1 (before ++ moment ∷ k.later)) ++ t ∷ [])
      by before true few = record { before = before; later = end; is = append_assoc before (moment ∷ k.later) (t ∷ []); room = room }
      by [] false many = absurd (never few many) where
        few : length (moment ∷ k.later) < MOST_OWN
        few = let r = k.room in omega (arith, r)

        never : length (moment ∷ k.later) < MOST_OWN → nat_lt (length (moment ∷ k.later)) MOST_OWN ≡ false → ⊥
        never lt e = grind (arith, nat_tests)
      by (x ∷ before) false many = record { before = before; later = end; is = append_assoc before (moment ∷ k.later) (t ∷ []); room = room }

-- ---- what is sent

one_sent : (v : Datagram) (vs : List Datagram) (j : Judge) (moment left : ℕ) → IsKept moment (reports_among (v ∷ vs) + left) j.own → IsKept moment (reports_among vs + left) (after_sending v j).own
one_sent (Draw d) vs j moment left k = k
one_sent (Session s sent page marks es) vs j moment left k =
    one_more sent moment (reports_among vs + left) j.own (fewer moment (1 + reports_among vs + left) (1 + (reports_among vs + left)) j.own (same (reports_among vs)) k) where
      same : (n : ℕ) → 1 + (n + left) ≤ 1 + n + left
      same n = omega arith
one_sent (Request asker name) vs j moment left k = k
one_sent (AskPages asker) vs j moment left k = k
one_sent (PageState s page marks) vs j moment left k = k

all_sent : (sent : List Datagram) (j : Judge) (moment left : ℕ) → IsKept moment (reports_among sent + left) j.own → IsKept moment left (after_sends sent j).own
all_sent [] j moment left k = fewer moment (0 + left) left j.own (omega arith) k
all_sent (v ∷ sent) j moment left k = all_sent sent (after_sending v j) moment left (one_sent v sent j moment left k)

-- reports of one moment
abbrev AreOf : ℕ → List Datagram → Type 0
AreOf moment sent = (s m : ℕ) (page : PageId) (marks : List MarkValue) (es : List Echo) → Contains sent (Session s m page marks es) → m ≡ moment

one_again : (v : Datagram) (sent : List Datagram) (j : Judge) (moment : ℕ) → AreOf moment (v ∷ sent) → IsKept moment 255 j.own → IsKept moment 255 (after_sending v j).own
one_again (Draw d) sent j moment are k = k
one_again (Session s m page marks es) sent j moment are k = subst (λ (t : ℕ). IsKept moment 255 (with_report t j.own)) (sym (are s m page marks es (Contains-here (Session s m page marks es) sent))) (newly moment j.own)
one_again (Request asker name) sent j moment are k = k
one_again (AskPages asker) sent j moment are k = k
one_again (PageState s page marks) sent j moment are k = k

still_new : (sent : List Datagram) (j : Judge) (moment : ℕ) → AreOf moment sent → IsKept moment 255 j.own → IsKept moment 255 (after_sends sent j).own
still_new [] j moment are k = k
still_new (v ∷ sent) j moment are k =
    still_new sent (after_sending v j) moment (λ s m page marks es c. are s m page marks es (Contains-there v (Session s m page marks es) sent c)) (one_again v sent j moment are k)

new_sent : (sent : List Datagram) (j : Judge) (s moment : ℕ) (page : PageId) (marks : List MarkValue) (es : List Echo) → AreOf moment sent → Contains sent (Session s moment page marks es)
    → IsKept moment 255 (after_sends sent j).own
new_sent [] j s moment page marks es are c = absurd (Contains-none (Session s moment page marks es) c)
new_sent (v ∷ sent) j s moment page marks es are c =
    let rest : AreOf moment sent = λ t m on ms fs d. are t m on ms fs (Contains-there v (Session t m on ms fs) sent d) in
    ⊎_elim
    (λ (it : v ≡ Session s moment page marks es).
    still_new sent (after_sending v j) moment rest (subst (λ (w : Datagram). IsKept moment 255 (after_sending w j).own) (sym it) (newly moment j.own)))
    (λ (later : Contains sent (Session s moment page marks es)). new_sent sent (after_sending v j) s moment page marks es rest later)
    (Contains-cases v (Session s moment page marks es) sent c)

-- ---- a line leaves them, but for what it sends

taking_own : (g : Given) (o : Origin) (now : ℕ) (j : Judge) → (after_taking g o now j).own ≡ j.own
taking_own g o now j = by (knows o now j) where
  by : (b : Bool) → (let k : Judge = cond b j (record j { strange = with_given g j.strange }) in k.own) ≡ j.own
  by true = refl
  by false = refl

either_own : (b : Bool) (j k : Judge) → k.own ≡ j.own → (let m : Judge = cond b k j in m.own) ≡ j.own
either_own true j k e = e
either_own false j k e = refl

fated_own : (now : ℕ) (o : Origin) (v : Datagram) (fate : Option Fate) (j : Judge) → (after_fate now o v fate j).own ≡ j.own
fated_own now o (Draw d) fate j = either_own (is_new fate) j _ (taking_own _ o now j)
fated_own now o (Session s sent page marks es) fate j = refl
fated_own now o (Request asker name) fate j = refl
fated_own now o (AskPages asker) fate j = refl
fated_own now o (PageState s page marks) fate j = refl

recalled_own : (line : RecordLine) (fate : Option Fate) (j : Judge) → (after_recalling line fate j).own ≡ j.own
recalled_own (Tick past) fate j = refl
recalled_own (Said d) fate j = refl
recalled_own (Known d) fate j = refl
recalled_own (Strange d) fate j = either_own (is_new fate) j (with_strange d.name j) refl
recalled_own (Mark speaker page mark) fate j = refl
recalled_own (Owner number place owner) fate j = refl

judged_own : (now : ℕ) (o : Origin) (v : Datagram) (h : Judged) → (judge_after now o v h).own ≡ h.judge.own
unfolding judge_after
judged_own now o v h =
    let f = facts_of now v h.kept in
    let i = after_coming o f.at h.judge in
    ⊎_elim
    (λ (s : Same i (after_judging o v f h.judge)). s.own)
    (λ (g : Heard o (speaker_in v) (is_answer v f.at h.judge) f.at i (after_judging o v f h.judge)). g.own)
    (outcome o v f i)

judging_own : (line : Call) (h : Judged) → (judging line h).own ≡ h.judge.own
judging_own (CameFrom now o v) h = fated_own now o v (fate_by (handed (CameFrom now o v) h) h.kept) (judge_after now o v h) ∙ judged_own now o v h
judging_own (Passed now news) h = (news_keeps now news h.judge).own
judging_own (UserDrew now page op) h = refl
judging_own (Held line) h = recalled_own line (fate_by (handed (Held line) h) h.kept) h.judge

-- ---- calls

pub echoed_same : (echo : Option Echo) (vs : List Datagram) → reports_among (map (echoing echo) vs) ≡ reports_among vs
echoed_same echo [] = refl
echoed_same echo (Draw d ∷ vs) = echoed_same echo vs
echoed_same echo (Session s sent page marks es ∷ vs) = ap (λ (n : ℕ). 1 + n) (echoed_same echo vs)
echoed_same echo (Request asker name ∷ vs) = echoed_same echo vs
echoed_same echo (AskPages asker ∷ vs) = echoed_same echo vs
echoed_same echo (PageState s page marks ∷ vs) = echoed_same echo vs

line_keeps : (line : Call) (h : Judged) (moment left : ℕ) → IsKept moment (reports_among (sends_in (events_of line h)) + left) h.judge.own → IsKept moment left (after_judged line h).judge.own
line_keeps line h moment left k =
    let sent = sent_by_kept_line (handed line h) h.kept in
    let count : reports_among (sends_in (events_of line h)) ≡ reports_among sent = ap reports_among (sends_as_kept line h) ∙ echoed_same (own_echo (moment_of line h) (judging line h)) sent in
    all_sent sent (judging line h) moment left
    (subst (IsKept moment (reports_among sent + left)) (sym (judging_own line h)) (subst (λ (n : ℕ). IsKept moment (n + left) h.judge.own) count k))

reporting : (line : Call) (h : Judged) (s moment : ℕ) (page : PageId) (marks : List MarkValue) (es : List Echo) → fault_of (handed line h) h.kept ≡ None
    → Contains (sends_in (events_of line h)) (Session s moment page marks es) → IsKept moment 255 (after_judged line h).judge.own
unfolding sent_by_kept_line
reporting line h s moment page marks es none c = new_sent (sent_by_kept_line (handed line h) h.kept) (judging line h) s moment page marks r.plain are r.among where
  r : IsReported line h s moment page marks es
  r = reported line h s moment page marks es c

  are : AreOf moment (sent_by_doing (doing_of (handed line h)) h.kept)
  are t m on ms fs d =
      report_moment line h t m on ms (with_echo (own_echo (moment_of line h) (judging line h)) fs) none (record { plain = fs; among = d; echoed = refl })
      ∙ sym (report_moment line h s moment page marks es none r)

calls_keep : (numbers : ℕ → ℕ) (place : ℕ) (newer older : List (At JudgedCall)) (moment left : ℕ) → HasNotStarted newer place → IsKept moment (reports_by numbers place newer older + left) (judged_at numbers older place).judge.own
    → IsKept moment left (judged_at numbers (newer ++ older) place).judge.own
calls_keep numbers place [] older moment left not k = fewer moment (0 + left) left (judged_at numbers older place).judge.own (omega arith) k
calls_keep numbers place (e ∷ newer) older moment left not k =
    by (nat_eq e.place place) refl
    (calls_keep numbers place newer older moment (count (nat_eq e.place place) + left) (λ x start given within. not x start given (Contains-there e x newer within))
    (fewer moment (count (nat_eq e.place place) + reports_by numbers place newer older + left) (reports_by numbers place newer older + (count (nat_eq e.place place) + left)) (judged_at numbers older place).judge.own (omega arith) k)) where
      h : Judged
      h = judged_at numbers (newer ++ older) place

      count : Bool → ℕ
      count b = cond b (reports_among (sent_by e.event h)) 0

      goes : (call : JudgedCall) → ((start : Start) (given : List RecordLine) → call ≡ Starts start given → ⊥) → IsKept moment (reports_among (sent_by call h) + left) h.judge.own
          → IsKept moment left (after_call call h).judge.own
      goes (Starts start given) never m = absurd (never start given refl)
      goes (Takes line) never m = line_keeps line h moment left m
      goes (Tunes constants) never m = fewer moment (0 + left) left h.judge.own (omega arith) m

      by : (b : Bool) → nat_eq e.place place ≡ b → IsKept moment (count b + left) h.judge.own → IsKept moment left (let m : Judged = cond b (after_call e.event h) h in m.judge.own)
      by true here m = goes e.event (λ start given same. not e start given (Contains-here e newer) (eqb-true e.place place here) same) m
      by false there m = fewer moment (0 + left) left h.judge.own (omega arith) m

pub kept_by_count : (numbers : ℕ → ℕ) (newer older : List (At JudgedCall)) (e : At JudgedCall) (line : Call) (sender moment : ℕ) (page : PageId) (marks : List MarkValue) (echoes : List Echo)
    → AreTaken numbers (e ∷ older) → e.event ≡ Takes line → Contains (sends_in (events_of line (judged_at numbers older e.place))) (Session sender moment page marks echoes)
    → HasNotStarted newer e.place → reports_by numbers e.place newer (e ∷ older) < MOST_OWN → Contains (judged_at numbers (newer ++ e ∷ older) e.place).judge.own moment
kept_by_count numbers newer older e line sender moment page marks es taken takes sent not some =
    among moment 0 (judged_at numbers (newer ++ e ∷ older) e.place).judge.own
    (calls_keep numbers e.place newer (e ∷ older) moment 0 not
    (fewer moment 255 (reports_by numbers e.place newer (e ∷ older) + 0) (judged_at numbers (e ∷ older) e.place).judge.own (below some)
    (subst (λ (k : Judged). IsKept moment 255 k.judge.own) (sym (after_it numbers older e line takes))
    (reporting line (judged_at numbers older e.place) sender moment page marks es (taken_line numbers older e line taken takes) sent)))) where
      below : reports_by numbers e.place newer (e ∷ older) < MOST_OWN → reports_by numbers e.place newer (e ∷ older) + 0 ≤ 255
      below lt = less lt where
        less : reports_by numbers e.place newer (e ∷ older) < 256 → reports_by numbers e.place newer (e ∷ older) + 0 ≤ 255
        less lt = omega (arith, lt)
