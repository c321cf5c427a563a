-- What members told, and that a stranger's drawop leaves no holes.
use Rattle.std.proofs.Common.{◌≡◌, ◌∙◌, ◌≤◌, ℕ, Bool, true, false, cond, List, [], ◌∷◌, None, ap, arith, length, refl, true≢false}
use Rattle.std.proofs.lemmas.Bool.Decides.{nat_tests}
use Rattle.std.specs.List.{list_any}
use Rattle.std.specs.Prelude.{Some, ◌&&◌, ◌+◌, ◌||◌, nat_eq, nat_lt, not}
use Rattle.wb_names.specs.Values.{DrawopValue, MarkValue, NameValue}
use Rattle.wb_names.specs.declared.name.PageId.{PageId}
use Rattle.wb_codec.specs.declared.datagram.Datagram.{Datagram}
use Rattle.wb_codec.specs.declared.datagram.Datagram.TheVariants.{AskPages, Draw, PageState, Request, Session}
use Rattle.wb_judge.specs.Aliens.{with_alien}
use Rattle.wb_judge.specs.Answers.{answers}
use Rattle.wb_judge.specs.Buckets.{has_room, paid_after}
use Rattle.wb_judge.specs.Judge.{Judge, is_forged, is_full, knows}
use Rattle.wb_judge.specs.Judging.{after_admitted, after_admitting, after_answer, after_coming, after_fetching, after_hearing, after_held, after_judging, after_of, after_own, after_question, after_repair, after_report, after_request, after_said, after_stranger, drawop_verdict, draws, is_admitted, is_ahead, is_claimed, is_elsewhere, is_fetched, is_forged_drawop, is_forged_mark, is_heard, is_repaired, is_twin, paid_for, speaking, with_payment}
use Rattle.wb_judge.specs.Laws.{OnlyMembersTell, StrangersLeaveNoHoles}
use Rattle.wb_judge.specs.Lists.{joined}
use Rattle.wb_judge.specs.Reports.{report_of}
use Rattle.wb_judge.specs.Strange.{is_over, is_wide, row_of}
use Rattle.wb_judge.specs.Told.{leaves_holes, was_told, with_mark, with_marks, with_report}
use Rattle.wb_judge.specs.Verdicts.{dropped, taken, warned}
use Rattle.wb_judge.specs.declared.facts.Facts.{Facts}
use Rattle.wb_judge.specs.declared.limits.TheConstants.{ASKED_AHEAD, ASKED_PAUSE, MOST_TOLD, NEW_PAUSE, REPAIR_PAUSE}
use Rattle.wb_judge.specs.declared.origin.Origin.{Origin}
use Rattle.wb_judge.specs.declared.report.Report.{Report}
use Rattle.wb_judge.specs.declared.told.ToldMark.{ToldMark}
use Rattle.wb_judge.specs.declared.verdict.Warning.TheVariants.{NoCell, NoShare}
use Rattle.wb_judge.specs.declared.verdict.Why.TheVariants.{Again, Ahead, Full, Holes, Own, Pages, Share, Speaks}
use Rattle.wb_judge.proofs.Members.{stays_unknown}
use Rattle.wb_judge.proofs.Sizes.{joined_length}

-- ---- a judgement leaves what members told

abbrev Tells : Judge → Judge → Type 0
Tells j k = k.told ≡ j.told

either : (b : Bool) (i j k : Judge) → Tells i j → Tells i k → Tells i (cond b j k)
either true i j k one other = one
either false i j k one other = other

paid : (answer : Bool) (n : ℕ) (j : Judge) → Tells j (with_payment answer n j)
paid true n j = refl
paid false n j = refl

admitting : (o : Origin) (number : ℕ) (answer : Bool) (now : ℕ) (j : Judge) → Tells j (after_admitting o number answer now j)
unfolding after_admitting
admitting o number answer now j = either _ j j _ refl (paid answer _ j)

stranger : (now : ℕ) (j : Judge) → Tells j (after_stranger now j)
unfolding after_stranger
stranger now j = either (has_room ASKED_AHEAD j.asked now) j (record j { asked = paid_after ASKED_PAUSE j.asked now }) j refl refl

question : (o : Origin) (now : ℕ) (j : Judge) → Tells j (after_question o now j)
unfolding after_question
question o now j = either (knows o now j) j j (after_stranger now j) refl (stranger now j)

repair : (o : Origin) (now : ℕ) (j : Judge) → Tells j (after_repair o now j)
unfolding after_repair
repair o now j = either (is_repaired o now j) j (record j { repairs = paid_after REPAIR_PAUSE j.repairs now; served = Some o }) j refl refl

request : (o : Origin) (f : Facts) (j : Judge) → Tells j (after_request o f j)
unfolding after_held
request o f j = either f.holds j (after_held o f.at j) j (either (knows o f.at j) j (after_repair o f.at j) (after_stranger f.at j) (repair o f.at j) (stranger f.at j)) refl

owned : (o : Origin) (sent : ℕ) (r : Report) (now : ℕ) (j : Judge) → Tells j (after_own o sent r now j)
unfolding after_own
owned o sent r now j =
    either (list_any (nat_eq sent) j.own) j j (record j { aliens = with_alien (record { origin = o; sent = sent; at = now }) j.aliens; has_twin = j.has_twin || is_twin sent r now j }) refl refl

fetching : (b : Bool) (now : ℕ) (j : Judge) → Tells j (after_fetching b now j)
unfolding after_fetching
fetching true now j = refl
fetching false now j = refl

answered : (answer : Bool) (o : Origin) (now : ℕ) (j : Judge) → Tells j (after_answer answer o now j)
unfolding after_answer
answered true o now j = refl
answered false o now j = refl

hearing : (o : Origin) (number : ℕ) (answer : Bool) (lacking now : ℕ) (j : Judge) → Tells j (after_hearing o number answer lacking now j)
unfolding after_hearing
hearing o number answer lacking now j = fetching (is_fetched (speaking o number answer now j) lacking now j) now (after_answer answer o now j) ∙ answered answer o now j

reported : (o : Origin) (r : Report) (f : Facts) (j : Judge) → Tells j (after_report o r f j)
unfolding after_report after_admitted
reported o r f j =
    let answer = answers j.own r.echo f.at in
    let k = after_admitting o r.speaker answer f.at j in
    let a = admitting o r.speaker answer f.at j in
    either (is_elsewhere o r answer f.at j || not (is_admitted o r.speaker answer f.at j)) j j _ refl
    (either (is_forged_mark r f) j k _ a (hearing o r.speaker answer f.lacking f.at k ∙ a))

said : (o : Origin) (number : ℕ) (j ours theirs : Judge) → Tells j ours → Tells j theirs → Tells j (after_said o number j ours theirs)
said o number j ours theirs one other = either (is_forged number o j) j j _ refl (either (nat_eq number j.me) j ours theirs one other)

pub told_stays : (o : Origin) (v : Datagram) (f : Facts) (j : Judge) → (after_of o v f j).told ≡ j.told
told_stays o (Draw d) f j = refl
told_stays o (Session s sent page marks echoes) f j = let r = report_of j.me s marks echoes in said o s j _ _ (owned o sent r f.at j) (reported o r f j)
told_stays o (PageState s page marks) f j = said o s j _ _ refl (reported o (report_of j.me s marks []) f j)
told_stays o (Request asker name) f j = said o asker j _ _ refl (request o f j)
told_stays o (AskPages asker) f j = said o asker j _ _ refl (question o f.at j)

-- ---- only members tell

pub only_members_tell : OnlyMembersTell
only_members_tell o v f j unknown = by (knows o f.at (after_of o v f (after_coming o f.at j))) unknown where
  k : Judge
  k = after_of o v f (after_coming o f.at j)

  by : (b : Bool) → b ≡ false → cond b (with_report v k.told) k.told ≡ j.told
  by true e = absurd (true≢false e)
  by false e = told_stays o v f (after_coming o f.at j)

-- ---- few marks are remembered

few_with : (m : ToldMark) (told : List ToldMark) → length told ≤ MOST_TOLD → length (with_mark m told) ≤ MOST_TOLD
few_with m told few = by (was_told m.row m.high told) where
  by : (b : Bool) → length (cond b told (joined MOST_TOLD m told)) ≤ MOST_TOLD
  by true = few
  by false = joined_length MOST_TOLD m told (omega arith) few

few_marks : (page : PageId) (marks : List MarkValue) (told : List ToldMark) → length told ≤ MOST_TOLD → length (with_marks page marks told) ≤ MOST_TOLD
few_marks page [] told few = few
few_marks page (m ∷ marks) told few = few_marks page marks _ (few_with _ told few)

few_report : (v : Datagram) (told : List ToldMark) → length told ≤ MOST_TOLD → length (with_report v told) ≤ MOST_TOLD
few_report (Draw d) told few = few
few_report (Session s sent page marks echoes) told few = few_marks page marks told few
few_report (PageState s page marks) told few = few_marks page marks told few
few_report (Request asker name) told few = few
few_report (AskPages asker) told few = few

pub few_told : (b : Bool) (v : Datagram) (told : List ToldMark) → length told ≤ MOST_TOLD → length (cond b (with_report v told) told) ≤ MOST_TOLD
few_told true v told few = few_report v told few
few_told false v told few = few

-- ---- what a stranger's drawop leaves

-- the order of the questions on what a stranger gives that is not held
let_in : (forged elsewhere ahead full over shut wide holes : Bool)
    → (cond forged (dropped Own) (cond elsewhere (dropped Speaks) (cond ahead (dropped Ahead) (cond full (warned Full NoCell) (cond over (cond shut (warned Share NoShare) (dropped Share)) (cond wide (dropped Pages) (cond holes (dropped Holes) taken))))))).why ≡ None → holes ≡ false
let_in true elsewhere ahead full over shut wide holes e = cc
let_in false true ahead full over shut wide holes e = cc
let_in false false true full over shut wide holes e = cc
let_in false false false true over shut wide holes e = cc
let_in false false false false true true wide holes e = cc
let_in false false false false true false wide holes e = cc
let_in false false false false false shut true far e = cc
let_in false false false false false shut false true e = cc
let_in false false false false false shut false false e = refl

next_at_most : (name : NameValue) (top : ℕ) (told : List ToldMark) → leaves_holes name top told ≡ false → was_told (row_of name) name.seq told ≡ false → name.seq ≤ top + 1
unfolding leaves_holes
next_at_most name top told none untold = by (nat_lt (top + 1) name.seq) refl (let both : (nat_lt (top + 1) name.seq && not (was_told (row_of name) name.seq told)) ≡ false = none in both) where
  by : (b : Bool) → nat_lt (top + 1) name.seq ≡ b → (b && not (was_told (row_of name) name.seq told)) ≡ false → name.seq ≤ top + 1
  by true is e = let all : (true && not false) ≡ false = rw untold at e in absurd (true≢false all)
  by false is e = grind (arith, nat_tests)

pub strangers_leave_no_holes : StrangersLeaveNoHoles
unfolding drawop_verdict is_forged_drawop
strangers_leave_no_holes o d f j unknown new why untold =
    let i = after_coming o f.at j in
    next_at_most d.name f.top j.told
    (let_in (is_forged_drawop false d f i) (is_claimed o d.name.source f.at i) (is_ahead false d.time f.at i) (is_full f.held i && (draws d.op || true)) (is_over o i.strange) (nat_lt 0 i.strange.most) (is_wide d.name i.strange) (leaves_holes d.name f.top i.told)
    (ruled (stays_unknown o f.at j.known unknown) why)) untold where
      ruled : knows o f.at (after_coming o f.at j) ≡ false → (drawop_verdict o d f (after_coming o f.at j)).why ≡ None
          → (let i = after_coming o f.at j in (cond (is_forged_drawop false d f i) (dropped Own) (cond (is_claimed o d.name.source f.at i) (dropped Speaks) (cond (is_ahead false d.time f.at i) (dropped Ahead) (cond (is_full f.held i && (draws d.op || true)) (warned Full NoCell) (cond (is_over o i.strange) (cond (nat_lt 0 i.strange.most) (warned Share NoShare) (dropped Share)) (cond (is_wide d.name i.strange) (dropped Pages) (cond (leaves_holes d.name f.top i.told) (dropped Holes) taken))))))).why) ≡ None
      ruled stays e = rw (new, stays) at e
