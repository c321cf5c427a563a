-- A datagram that came: what becomes of it, by what each part of the call does.
use Rattle.std.proofs.Common.{◌≡◌, ◌∙◌, ℕ, List, [], ◌++◌, None, ap, append-nil, append_assoc, arith, drop, refl, subst, sym, true}
use Rattle.std.specs.Prelude.{IsTrue, Option, Result, Ok, Err, Some, is_some, nat_le}
use Rattle.std.specs.Option.{option_map}
use Rattle.std.proofs.lemmas.Bool.Decides.{nat_tests}
use Rattle.wb_codec.specs.declared.datagram.Datagram.{Datagram}
use Rattle.wb_judge.specs.Adding.{own_echo}
use Rattle.wb_judge.specs.Judge.{Judge}
use Rattle.wb_judge.specs.Judging.{after_judging, verdict}
use Rattle.wb_judge.specs.declared.facts.Facts.{Facts}
use Rattle.wb_judge.specs.declared.origin.Origin.{Origin}
use Rattle.wb_judge.specs.declared.verdict.Verdict.{Verdict}
use Rattle.wb_judge.specs.declared.verdict.Why.{Why}
use Rattle.wb_member.specs.Opened.{present}
use Rattle.wb_keeping.specs.Laws.{KeptLine, Ticked, fault_of}
use Rattle.wb_keeping.specs.Performing.{IsKeptAt, Keeping, KeptValue}
use Rattle.wb_keeping.specs.Refusing.{IsRefusedBy}
use Rattle.wb_keeping.specs.declared.kept_fault.KeptFault.{KeptFault}
use Rattle.wb_judging.specs.Events.{advice, dropped_events, gain_events, told}
use Rattle.wb_judging.specs.Handing.{facts_of, handed, handed_for, judge_after, recalled, verdict_on}
use Rattle.wb_judging.specs.Hearing.{after_fate, after_recalling, after_sends}
use Rattle.wb_judging.specs.Judged.{CameFrom, Held, Judged, Passed}
use Rattle.wb_judging.specs.News.{News, after_news, news_events}
use Rattle.wb_judging.specs.Performing.{Goes, IsJudgedAt, JudgedValue, KeptDoes, Performs, after_judged, events_of, fate_by, first_lines}
use Rattle.wb_judging.specs.Recording.{freed_lines, gain_lines, mark_lines, owner_lines}
use Rattle.wb_judging.specs.Refusing.{IsRefusedAs}
use Rattle.wb_judging.specs.declared.event.Event.{Event}
use Rattle.wb_judging.specs.declared.event.Fate.{Fate}
use Rattle.wb_judging.specs.declared.judged_fault.JudgedFault.{JudgedFault}
use Rattle.wb_judging.specs.declared.judged_fault.JudgedFault.TheVariants.{Kept}
use Rattle.wb_judging.specs.declared.record.Giver.TheVariants.{Others, Past}
use Rattle.wb_judging.specs.declared.record.RecordLine.{RecordLine}
use Rattle.wb_judging.proofs.Drawn.{refused_as}
use Rattle.wb_judging.proofs.Performed.{performed, went}

-- ---- time goes on

pub passed_on : (now : ℕ) (news : News) (old mid new : JudgedValue) (first events : List Event) → mid.kept ≡ old.kept → mid.judge ≡ after_news now news old.judge → first ≡ news_events news
    → Goes now [] Others (Ticked now) first mid events new → Performs (Passed now news) old events new
passed_on now news old mid new first events kept judge gives goes h at =
    performed (Passed now news) h old mid new [] first events events at kept (judge ∙ ap (λ (j : Judge). after_news now news j) at.judge) refl gives goes (sym (append-nil events))

-- ---- a datagram

verdict_is : (now : ℕ) (o : Origin) (v : Datagram) (h : Judged) (f : Facts) (j : Judge) (r : Verdict) → r ≡ verdict o v f j → f ≡ facts_of now v h.kept → j ≡ h.judge → r ≡ verdict_on now o v h
unfolding verdict_on
verdict_is now o v h f j r is facts judge = is ∙ ap (λ (f : Facts). verdict o v f j) facts ∙ ap (λ (j : Judge). verdict o v (facts_of now v h.kept) j) judge

judge_is : (now : ℕ) (o : Origin) (v : Datagram) (h : Judged) (f : Facts) (j k : Judge) → k ≡ after_judging o v f j → f ≡ facts_of now v h.kept → j ≡ h.judge → k ≡ judge_after now o v h
unfolding judge_after
judge_is now o v h f j k is facts judge = is ∙ ap (λ (f : Facts). after_judging o v f j) facts ∙ ap (λ (j : Judge). after_judging o v (facts_of now v h.kept) j) judge

-- why it is dropped, if it is
pub why_is : (now : ℕ) (o : Origin) (v : Datagram) (h : Judged) (f : Facts) (j : Judge) (r : Verdict) → r ≡ verdict o v f j → f ≡ facts_of now v h.kept → j ≡ h.judge → r.why ≡ (verdict_on now o v h).why
why_is now o v h f j r is facts judge = ap (λ (r : Verdict). r.why) (verdict_is now o v h f j r is facts judge)

pub not_refused : (X Y : Type 0) (f : Option KeptFault) (e : KeptFault) (r : Result Y JudgedFault) → IsRefusedBy {X = X} f (Err e) → f ≡ None → r ≡ Err (Kept e) → IsRefusedAs {X = Y} None r
not_refused X Y f e r is none gives =
    subst (λ (f : Option KeptFault). IsRefusedAs {X = Y} (option_map Kept f) r) none (refused_as X Y f e r is gives)

-- The judge judged a datagram: the judge afterwards, and what is recorded first.
pub record Weighs (now : ℕ) (o : Origin) (v : Datagram) (f : Facts) (k : KeptValue) (j0 j1 : Judge) (r : Verdict) (first : List RecordLine) : Type 0 where
  pub judged : r ≡ verdict o v f j0
  pub judge : j1 ≡ after_judging o v f j0
  pub lines : (k' : Keeping) → IsKeptAt k k' → first ≡ (freed_lines o j0.strange.given j1.strange.given k'.host.is.held ++ mark_lines f.at v r.why k') ++ owner_lines o v j0 j1

pub took : (now : ℕ) (o : Origin) (v : Datagram) (h : Judged) (k0 k1 k2 : KeptValue) (j0 j1 j2 : Judge) (f : Facts) (r : Verdict) (held : ℕ) (sent : List Datagram) (fate : Option Fate) (lines : List RecordLine) (e0 e1 e2 e3 : List Event) (new : JudgedValue)
    → IsJudgedAt (record { kept = k0; judge = j0 }) h → k1 ≡ k0 → f.at ≡ now → ((k : Keeping) → IsKeptAt k0 k → f ≡ facts_of now v k)
    → Weighs now o v f k1 j0 j1 r lines → KeptDoes (handed_for now v r.why) k1 k2 held sent fate → j2 ≡ after_fate now o v fate j1
    → e0 ≡ [] → e1 ≡ e0 ++ dropped_events r.why → new.kept ≡ k2 → new.judge ≡ after_sends sent j2
    → ((k : Keeping) → IsKeptAt k2 k → e2 ≡ e1 ++ told (gain_events now (lines ++ gain_lines Others j2.strange.given (drop held k.host.is.held)) (drop held k.host.is.held)) (own_echo now j2) sent fate)
    → e3 ≡ e2 ++ advice r f.lacking
    → (e3 ≡ events_of (CameFrom now o v) h) × IsJudgedAt new (after_judged (CameFrom now o v) h)
took now o v h k0 k1 k2 j0 j1 j2 f r held sent fate lines e0 e1 e2 e3 new at same moment facts weighs hands hears begun dropped kept judge tells ends =
    let line = CameFrom now o v in
    let old : JudgedValue = record { kept = k0; judge = j0 } in
    let start : JudgedValue = record { kept = k0; judge = j2 } in
    let mid : JudgedValue = record { kept = k2; judge = j2 } in
    let is = facts h.kept at.kept in
    let verdict = verdict_is now o v h f j0 r weighs.judged is at.judge in
    let judged = judge_is now o v h f j0 j1 weighs.judge is at.judge in
    let why = ap (λ (r : Verdict). r.why) verdict in
    let there : handed_for now v r.why ≡ handed line h = ap (handed_for now v) why in
    let does : KeptDoes (handed line h) k0 k2 held sent fate =
    subst (λ (l : KeptLine). KeptDoes l k0 k2 held sent fate) there (subst (λ (k : KeptValue). KeptDoes (handed_for now v r.why) k k2 held sent fate) same hands) in
    let became = (does h.kept at.kept).2 in
    let records : lines ≡ first_lines line h =
    weighs.lines h.kept (subst (λ (v : KeptValue). IsKeptAt v h.kept) (sym same) at.kept)
    ∙ ap (λ (j : Judge). (freed_lines o j.strange.given j1.strange.given h.kept.host.is.held ++ mark_lines f.at v r.why h.kept) ++ owner_lines o v j j1) at.judge
    ∙ ap (λ (j : Judge). (freed_lines o h.judge.strange.given j.strange.given h.kept.host.is.held ++ mark_lines f.at v r.why h.kept) ++ owner_lines o v h.judge j) judged
    ∙ ap (λ (n : ℕ). (freed_lines o h.judge.strange.given (judge_after now o v h).strange.given h.kept.host.is.held ++ mark_lines n v r.why h.kept) ++ owner_lines o v h.judge (judge_after now o v h)) moment
    ∙ ap (λ (w : Option Why). (freed_lines o h.judge.strange.given (judge_after now o v h).strange.given h.kept.host.is.held ++ mark_lines now v w h.kept) ++ owner_lines o v h.judge (judge_after now o v h)) why
    ∙ append_assoc (freed_lines o h.judge.strange.given (judge_after now o v h).strange.given h.kept.host.is.held) (mark_lines now v (verdict_on now o v h).why h.kept) (owner_lines o v h.judge (judge_after now o v h)) in
    let goes = went now lines Others (handed line h) start mid new held sent fate e1 e2 does refl kept judge tells in
    performed line h old start new lines e1 e2 e3 at refl
    (hears ∙ ap (λ (fate : Option Fate). after_fate now o v fate j1) became ∙ ap (λ (j : Judge). after_fate now o v (fate_by (handed line h) h.kept) j) judged)
    records
    (dropped ∙ ap (λ (es : List Event). es ++ dropped_events r.why) begun ∙ ap (λ (why : Option Why). dropped_events why) why)
    goes
    (ends ∙ ap (λ (r : Verdict). e2 ++ advice r f.lacking) verdict ∙ ap (λ (f : Facts). e2 ++ advice (verdict_on now o v h) f.lacking) is)

-- ---- a line of the record

pub recalled_done : (line : RecordLine) (h : Judged) (k0 k2 : KeptValue) (j0 j2 : Judge) (now held : ℕ) (sent : List Datagram) (fate : Option Fate) (lines : List RecordLine) (e0 e2 : List Event) (new : JudgedValue)
    → IsJudgedAt (record { kept = k0; judge = j0 }) h → now ≡ present h.kept.host → KeptDoes (recalled now line) k0 k2 held sent fate → j2 ≡ after_recalling line fate j0
    → lines ≡ [] → e0 ≡ [] → new.kept ≡ k2 → new.judge ≡ after_sends sent j2
    → ((k : Keeping) → IsKeptAt k2 k → e2 ≡ e0 ++ told (gain_events now (lines ++ gain_lines Past j2.strange.given (drop held k.host.is.held)) (drop held k.host.is.held)) (own_echo now j2) sent fate)
    → (e2 ≡ events_of (Held line) h) × IsJudgedAt new (after_judged (Held line) h)
recalled_done line h k0 k2 j0 j2 now held sent fate lines e0 e2 new at moment does hears none begun kept judge tells =
    let old : JudgedValue = record { kept = k0; judge = j0 } in
    let start : JudgedValue = record { kept = k0; judge = j2 } in
    let mid : JudgedValue = record { kept = k2; judge = j2 } in
    let here = present h.kept.host in
    let became = (does h.kept at.kept).2 ∙ ap (λ (n : ℕ). fate_by (recalled n line) h.kept) moment in
    let goes = subst (λ (n : ℕ). Goes n lines Past (recalled n line) e0 start e2 new) moment
    (went now lines Past (recalled now line) start mid new held sent fate e0 e2 does refl kept judge tells) in
    performed (Held line) h old start new lines e0 e2 e2 at refl
    (hears ∙ ap (λ (fate : Option Fate). after_recalling line fate j0) became ∙ ap (λ (j : Judge). after_recalling line (fate_by (handed (Held line) h) h.kept) j) at.judge)
    none begun goes (sym (append-nil e2))

pub now_is_time : (k : Keeping) (now : ℕ) → now ≡ present k.host → nat_le (present k.host) now ≡ true
now_is_time k now is = grind (arith, nat_tests)

-- what it is refused for, and that it is refused
pub recalled_refused : (X Y : Type 0) (line : RecordLine) (h : Judged) (now : ℕ) (e : KeptFault) (r : Result Y JudgedFault) → now ≡ present h.kept.host
    → IsRefusedBy {X = X} (fault_of (recalled now line) h.kept) (Err e) → r ≡ Err (Kept e) → IsRefusedAs {X = Y} (option_map Kept (fault_of (recalled (present h.kept.host) line) h.kept)) r
recalled_refused X Y line h now e r moment is gives =
    refused_as X Y (fault_of (recalled (present h.kept.host) line) h.kept) e r (subst (λ (n : ℕ). IsRefusedBy {X = X} (fault_of (recalled n line) h.kept) (Err e)) moment is) gives

pub not_taken : (X : Type 0) (line : RecordLine) (h : Judged) (now : ℕ) (x : X) → now ≡ present h.kept.host → IsRefusedBy {X = X} (fault_of (recalled now line) h.kept) (Ok x)
    → IsTrue (is_some (fault_of (recalled (present h.kept.host) line) h.kept)) → ⊥
not_taken X line h now x moment is some =
    none (fault_of (recalled (present h.kept.host) line) h.kept) (subst (λ (n : ℕ). IsRefusedBy {X = X} (fault_of (recalled n line) h.kept) (Ok x)) moment is) some where
      none : (f : Option KeptFault) → IsRefusedBy {X = X} f (Ok x) → IsTrue (is_some f) → ⊥
      none None is some = cc
      none (Some f) is some = cc
