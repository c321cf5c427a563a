-- How many repairs there are for members, and answers for strangers.
use Rattle.std.proofs.Common.{◌≡◌, ◌⊎◌, ◌∙◌, ◌≤◌, ◌+◌, ◌-◌, ◌*◌, ℕ, Bool, true, false, cond, List, [], ◌∷◌, arith, inl, inr, is_none, max, refl, subst}
use Rattle.std.proofs.lemmas.Bool.Decides.{nat_tests}
use Rattle.std.specs.List.{list_any}
use Rattle.std.specs.Prelude.{Some, ◌&&◌, ◌||◌, nat_eq, not}
use Rattle.wb_names.specs.Values.{DrawopValue, NameValue}
use Rattle.wb_codec.specs.declared.datagram.Datagram.{Datagram}
use Rattle.wb_codec.specs.declared.datagram.Datagram.TheVariants.{AskPages, Draw, PageState, Request, Session}
use Rattle.wb_judge.specs.Aliens.{with_alien}
use Rattle.wb_judge.specs.Answers.{answers}
use Rattle.wb_judge.specs.Buckets.{has_room, paid_after}
use Rattle.wb_judge.specs.Judge.{Judge, after_taking, is_firm, is_forged, knows}
use Rattle.wb_judge.specs.Judging.{after_admitted, after_admitting, after_answer, after_coming, after_fetching, after_hearing, after_held, after_judging, after_own, after_question, after_repair, after_report, after_request, after_said, after_stranger, held_verdict, is_admitted, is_elsewhere, is_fetched, is_forged_mark, is_repaired, is_twin, missed_verdict, question_verdict, request_verdict, speaking, stranger_verdict, verdict, with_payment}
use Rattle.wb_judge.specs.Laws.{AreFrom, Comes, Leaves, Recalls, Remembers, RepairsAreFew, Reports, Step, StrangersAreFew, Tells, after_step, how_many, is_asked_in, is_repaired_in, is_taken, moments_in, moments_of}
use Rattle.wb_judge.specs.Reports.{report_of}
use Rattle.wb_judge.specs.Strange.{is_there, with_given}
use Rattle.wb_judge.specs.Verdicts.{dropped, taken, warned}
use Rattle.wb_judge.specs.declared.facts.Facts.{Facts}
use Rattle.wb_judge.specs.declared.limits.TheConstants.{ASKED_AHEAD, ASKED_PAUSE, REPAIRS_AHEAD, REPAIRS_OF_ONE, REPAIR_PAUSE}
use Rattle.wb_judge.specs.declared.origin.Origin.{Origin}
use Rattle.wb_judge.specs.declared.report.Report.{Report}
use Rattle.wb_judge.specs.declared.verdict.Verdict.{Verdict}
use Rattle.wb_judge.specs.declared.verdict.Warning.TheVariants.{Impostor}
use Rattle.wb_judge.specs.declared.verdict.Why.TheVariants.{Again, Flood, Own, Speaks, Stranger}
use Rattle.wb_judge.proofs.Members.{stays_known, stays_unknown}

-- ---- what pays for nothing

record Unpaid (j k : Judge) : Type 0 where
  repairs : k.repairs ≡ j.repairs
  asked : k.asked ≡ j.asked

itself : (j : Judge) → Unpaid j j
itself j = record { repairs = refl; asked = refl }

then : {i j k : Judge} → Unpaid i j → Unpaid j k → Unpaid i k
then one other = record { repairs = other.repairs ∙ one.repairs; asked = other.asked ∙ one.asked }

either : (b : Bool) (i j k : Judge) → Unpaid i j → Unpaid i k → Unpaid i (cond b j k)
either true i j k one other = one
either false i j k one other = other

paid : (answer : Bool) (n : ℕ) (j : Judge) → Unpaid j (with_payment answer n j)
paid true n j = record { repairs = refl; asked = refl }
paid false n j = record { repairs = refl; asked = refl }

admitting : (o : Origin) (number : ℕ) (answer : Bool) (now : ℕ) (j : Judge) → Unpaid j (after_admitting o number answer now j)
unfolding after_admitting
admitting o number answer now j = either _ j j _ (itself j) (paid answer _ j)

answered : (answer : Bool) (o : Origin) (now : ℕ) (j : Judge) → Unpaid j (after_answer answer o now j)
unfolding after_answer
answered true o now j = record { repairs = refl; asked = refl }
answered false o now j = itself j

fetching : (b : Bool) (now : ℕ) (j : Judge) → Unpaid j (after_fetching b now j)
unfolding after_fetching
fetching true now j = record { repairs = refl; asked = refl }
fetching false now j = itself j

hearing : (o : Origin) (number : ℕ) (answer : Bool) (lacking now : ℕ) (j : Judge) → Unpaid j (after_hearing o number answer lacking now j)
unfolding after_hearing
hearing o number answer lacking now j =
    let a = answered answer o now j in
    let f = fetching (is_fetched (speaking o number answer now j) lacking now j) now (after_answer answer o now j) in
    record { repairs = f.repairs ∙ a.repairs; asked = f.asked ∙ a.asked }

reported : (o : Origin) (r : Report) (f : Facts) (j : Judge) → Unpaid j (after_report o r f j)
unfolding after_report after_admitted
reported o r f j =
    let answer = answers j.own r.echo f.at in
    let k = after_admitting o r.speaker answer f.at j in
    let a = admitting o r.speaker answer f.at j in
    either (is_elsewhere o r answer f.at j || not (is_admitted o r.speaker answer f.at j)) j j _ (itself j)
    (either (is_forged_mark r f) j k _ a (then a (hearing o r.speaker answer f.lacking f.at k)))

owned : (o : Origin) (sent : ℕ) (r : Report) (now : ℕ) (j : Judge) → Unpaid j (after_own o sent r now j)
unfolding after_own
owned o sent r now j =
    either (list_any (nat_eq sent) j.own) j j (record j { aliens = with_alien (record { origin = o; sent = sent; at = now }) j.aliens; has_twin = j.has_twin || is_twin sent r now j }) (itself j)
    (record { repairs = refl; asked = refl })

said : (o : Origin) (number : ℕ) (j ours theirs : Judge) → Unpaid j ours → Unpaid j theirs → Unpaid j (after_said o number j ours theirs)
said o number j ours theirs one other = either (is_forged number o j) j j _ (itself j) (either (nat_eq number j.me) j ours theirs one other)

taken_in : (o : Origin) (d : DrawopValue) (f : Facts) (j : Judge) → Unpaid j (after_step (Comes o (Draw d) f) j)
taken_in o d f j =
    let i = after_judging o (Draw d) f j in
    either (is_taken o d f j) j (after_taking (record { name = d.name; origin = Some o }) o f.at i) i
    (either (knows o f.at i) j i (record i { strange = with_given (record { name = d.name; origin = Some o }) i.strange }) (record { repairs = refl; asked = refl }) (record { repairs = refl; asked = refl }))
    (record { repairs = refl; asked = refl })

-- ---- what one datagram pays for

-- nothing, or one more
abbrev pub Moves : (Judge → ℕ) → ℕ → ℕ → Bool → ℕ → Judge → Judge → Type 0
Moves pays ahead pause some now j k = ((some ≡ false) × (pays k ≡ pays j)) ⊎ ((some ≡ true) × (has_room ahead (pays j) now ≡ true) × (pays k ≡ paid_after pause (pays j) now))

abbrev pub MovesRepairs : Bool → ℕ → Judge → Judge → Type 0
MovesRepairs some now j k = Moves (λ (i : Judge). i.repairs) REPAIRS_AHEAD REPAIR_PAUSE some now j k

abbrev MovesAsked : Bool → ℕ → Judge → Judge → Type 0
MovesAsked some now j k = Moves (λ (i : Judge). i.asked) ASKED_AHEAD ASKED_PAUSE some now j k

-- whoever speaks for another, or for us, moves nothing
said_moves : (pays : Judge → ℕ) (ahead pause : ℕ) (n a b : Bool) (asker now : ℕ) (v : Verdict) (j k : Judge) → Moves pays ahead pause (n && is_none v.why) now j k
    → Moves pays ahead pause (n && is_none (cond a (warned Speaks (Impostor asker)) (cond b (dropped Own) v)).why) now j (cond a j (cond b j k))
said_moves pays ahead pause true true b asker now v j k m = inl (refl, refl)
said_moves pays ahead pause false true b asker now v j k m = inl (refl, refl)
said_moves pays ahead pause true false true asker now v j k m = inl (refl, refl)
said_moves pays ahead pause false false true asker now v j k m = inl (refl, refl)
said_moves pays ahead pause n false false asker now v j k m = m

-- the half for one is less than all
room_for_all : (b : Bool) (paid now : ℕ) → has_room (cond b REPAIRS_OF_ONE REPAIRS_AHEAD) paid now ≡ true → has_room REPAIRS_AHEAD paid now ≡ true
room_for_all true paid now e = grind (arith, nat_tests)
room_for_all false paid now e = e

repaired_room : (o : Origin) (now : ℕ) (j : Judge) → is_repaired o now j ≡ true → has_room REPAIRS_AHEAD j.repairs now ≡ true
unfolding is_repaired
repaired_room o now j e = room_for_all (is_there o j.served) j.repairs now e

stranger_repairs : (now : ℕ) (j : Judge) → (after_stranger now j).repairs ≡ j.repairs
unfolding after_stranger
stranger_repairs now j = by (has_room ASKED_AHEAD j.asked now) where
  by : (b : Bool) → (cond b (record j { asked = paid_after ASKED_PAUSE j.asked now }) j).repairs ≡ j.repairs
  by true = refl
  by false = refl

repair_asked : (o : Origin) (now : ℕ) (j : Judge) → (after_repair o now j).asked ≡ j.asked
unfolding after_repair
repair_asked o now j = by (is_repaired o now j) where
  by : (b : Bool) → (cond b (record j { repairs = paid_after REPAIR_PAUSE j.repairs now; served = Some o }) j).asked ≡ j.asked
  by true = refl
  by false = refl

-- a member's request for what is held
member_repairs : (o : Origin) (now : ℕ) (j : Judge) → MovesRepairs (is_none (cond (is_repaired o now j) taken (dropped Flood)).why) now j (after_repair o now j)
unfolding after_repair
member_repairs o now j = by (is_repaired o now j) refl where
  by : (b : Bool) → is_repaired o now j ≡ b → MovesRepairs (is_none (cond b taken (dropped Flood)).why) now j (cond b (record j { repairs = paid_after REPAIR_PAUSE j.repairs now; served = Some o }) j)
  by true e = inr (refl, repaired_room o now j e, refl)
  by false e = inl (refl, refl)

held_repairs : (o : Origin) (now : ℕ) (j : Judge) → MovesRepairs (knows o now j && is_none (held_verdict o now j).why) now j (after_held o now j)
unfolding held_verdict after_held
held_repairs o now j = by (knows o now j) where
  by : (b : Bool) → MovesRepairs (b && is_none (cond b (cond (is_repaired o now j) taken (dropped Flood)) (stranger_verdict now j)).why) now j (cond b (after_repair o now j) (after_stranger now j))
  by true = member_repairs o now j
  by false = inl (refl, stranger_repairs now j)

request_repairs : (o : Origin) (name : NameValue) (f : Facts) (j : Judge) → MovesRepairs ((f.holds && knows o f.at j) && is_none (request_verdict o name f j).why) f.at j (after_request o f j)
request_repairs o name f j = by f.holds where
  by : (b : Bool) → MovesRepairs ((b && knows o f.at j) && is_none (cond b (held_verdict o f.at j) (missed_verdict o name f.at j)).why) f.at j (cond b (after_held o f.at j) j)
  by true = held_repairs o f.at j
  by false = inl (refl, refl)

-- a stranger's request or question
stranger_asked : (now : ℕ) (j : Judge) → MovesAsked (is_none (stranger_verdict now j).why) now j (after_stranger now j)
unfolding stranger_verdict after_stranger
stranger_asked now j = by (has_room ASKED_AHEAD j.asked now) refl where
  by : (b : Bool) → has_room ASKED_AHEAD j.asked now ≡ b → MovesAsked (is_none (cond b taken (dropped Flood)).why) now j (cond b (record j { asked = paid_after ASKED_PAUSE j.asked now }) j)
  by true e = inr (refl, e, refl)
  by false e = inl (refl, refl)

held_asked : (o : Origin) (now : ℕ) (j : Judge) → MovesAsked (not (knows o now j) && is_none (held_verdict o now j).why) now j (after_held o now j)
unfolding held_verdict after_held
held_asked o now j = by (knows o now j) where
  by : (b : Bool) → MovesAsked (not b && is_none (cond b (cond (is_repaired o now j) taken (dropped Flood)) (stranger_verdict now j)).why) now j (cond b (after_repair o now j) (after_stranger now j))
  by true = inl (refl, repair_asked o now j)
  by false = stranger_asked now j

missed_asked : (o : Origin) (name : NameValue) (now : ℕ) (j : Judge) → MovesAsked (not (knows o now j) && is_none (missed_verdict o name now j).why) now j j
unfolding missed_verdict
missed_asked o name now j = by (knows o now j) where
  by : (b : Bool) → MovesAsked (not b && is_none (cond (b && not (is_firm name now j)) taken (cond b (dropped Again) (dropped Stranger))).why) now j j
  by true = inl (refl, refl)
  by false = inl (refl, refl)

request_asked : (o : Origin) (name : NameValue) (f : Facts) (j : Judge) → MovesAsked (not (knows o f.at j) && is_none (request_verdict o name f j).why) f.at j (after_request o f j)
request_asked o name f j = by f.holds where
  by : (b : Bool) → MovesAsked (not (knows o f.at j) && is_none (cond b (held_verdict o f.at j) (missed_verdict o name f.at j)).why) f.at j (cond b (after_held o f.at j) j)
  by true = held_asked o f.at j
  by false = missed_asked o name f.at j

question_asked : (o : Origin) (now : ℕ) (j : Judge) → MovesAsked (not (knows o now j) && is_none (question_verdict o now j).why) now j (after_question o now j)
unfolding question_verdict after_question
question_asked o now j = by (knows o now j) where
  by : (b : Bool) → MovesAsked (not b && is_none (cond b taken (stranger_verdict now j)).why) now j (cond b j (after_stranger now j))
  by true = inl (refl, refl)
  by false = stranger_asked now j

question_repairs : (o : Origin) (now : ℕ) (j : Judge) → (after_question o now j).repairs ≡ j.repairs
unfolding after_question
question_repairs o now j = by (knows o now j) where
  by : (b : Bool) → (cond b j (after_stranger now j)).repairs ≡ j.repairs
  by true = refl
  by false = stranger_repairs now j

-- who came from there is known as before
still : (o : Origin) (at : ℕ) (j : Judge) → knows o at (after_coming o at j) ≡ knows o at j
still o at j = by (knows o at j) refl where
  by : (b : Bool) → knows o at j ≡ b → knows o at (after_coming o at j) ≡ b
  by true is = stays_known o at j.known is
  by false is = stays_unknown o at j.known is

pub came_repairs : (o : Origin) (v : Datagram) (f : Facts) (j : Judge) → MovesRepairs (is_repaired_in (Comes o v f) j) f.at j (after_step (Comes o v f) j)
came_repairs o (Draw d) f j = inl (refl, (taken_in o d f j).repairs)
came_repairs o (Session s sent page marks echoes) f j =
    let i = after_coming o f.at j in let r = report_of j.me s marks echoes in
    inl (refl, (said o s i (after_own o sent r f.at i) (after_report o r f i) (owned o sent r f.at i) (reported o r f i)).repairs)
came_repairs o (PageState s page marks) f j =
    let i = after_coming o f.at j in let r = report_of j.me s marks [] in
    inl (refl, (said o s i i (after_report o r f i) (itself i) (reported o r f i)).repairs)
came_repairs o (Request asker name) f j =
    let i = after_coming o f.at j in
    let m = said_moves (λ (k : Judge). k.repairs) REPAIRS_AHEAD REPAIR_PAUSE (f.holds && knows o f.at i) (is_forged asker o i) (nat_eq asker i.me) asker f.at (request_verdict o name f i) i (after_request o f i) (request_repairs o name f i) in
    subst (λ (b : Bool). MovesRepairs ((f.holds && b) && is_none (verdict o (Request asker name) f j).why) f.at j (after_step (Comes o (Request asker name) f) j)) (still o f.at j) m
came_repairs o (AskPages asker) f j =
    let i = after_coming o f.at j in
    inl (refl, by i (is_forged asker o i) (nat_eq asker i.me)) where
      by : (i : Judge) (a b : Bool) → (cond a i (cond b i (after_question o f.at i))).repairs ≡ i.repairs
      by i true b = refl
      by i false true = refl
      by i false false = question_repairs o f.at i

came_asked : (o : Origin) (v : Datagram) (f : Facts) (j : Judge) → MovesAsked (is_asked_in (Comes o v f) j) f.at j (after_step (Comes o v f) j)
came_asked o (Draw d) f j = inl (refl, (taken_in o d f j).asked)
came_asked o (Session s sent page marks echoes) f j =
    let i = after_coming o f.at j in let r = report_of j.me s marks echoes in
    inl (refl, (said o s i (after_own o sent r f.at i) (after_report o r f i) (owned o sent r f.at i) (reported o r f i)).asked)
came_asked o (PageState s page marks) f j =
    let i = after_coming o f.at j in let r = report_of j.me s marks [] in
    inl (refl, (said o s i i (after_report o r f i) (itself i) (reported o r f i)).asked)
came_asked o (Request asker name) f j =
    let i = after_coming o f.at j in
    let m = said_moves (λ (k : Judge). k.asked) ASKED_AHEAD ASKED_PAUSE (not (knows o f.at i)) (is_forged asker o i) (nat_eq asker i.me) asker f.at (request_verdict o name f i) i (after_request o f i) (request_asked o name f i) in
    subst (λ (b : Bool). MovesAsked (not b && is_none (verdict o (Request asker name) f j).why) f.at j (after_step (Comes o (Request asker name) f) j)) (still o f.at j) m
came_asked o (AskPages asker) f j =
    let i = after_coming o f.at j in
    let m = said_moves (λ (k : Judge). k.asked) ASKED_AHEAD ASKED_PAUSE (not (knows o f.at i)) (is_forged asker o i) (nat_eq asker i.me) asker f.at (question_verdict o f.at i) i (after_question o f.at i) (question_asked o f.at i) in
    subst (λ (b : Bool). MovesAsked (not b && is_none (verdict o (AskPages asker) f j).why) f.at j (after_step (Comes o (AskPages asker) f) j)) (still o f.at j) m

-- ---- what all steps pay for

pub rises : (start end : ℕ) (moments : List ℕ) → AreFrom start end moments → start ≤ end
rises start end [] from = from
rises start end (now ∷ moments) from = let later = rises now end moments from.1 in omega (arith, from.0, later)

-- how many were taken, all of which are paid for after the start, and at most so far ahead of the end
abbrev Within : (ahead pause count paid start end : ℕ) → Type 0
Within ahead pause count paid start end = (count ≡ 0) ⊎ (count * pause + max paid start ≤ ahead + pause + end)

pub one_more : (count pause : ℕ) → (1 + count) * pause ≡ count * pause + pause
one_more count pause = grind arith

moved : (ahead pause before after now start end count : ℕ) (some : Bool) → start ≤ now → now ≤ end
    → ((some ≡ false) × (after ≡ before)) ⊎ ((some ≡ true) × (has_room ahead before now ≡ true) × (after ≡ paid_after pause before now))
    → Within ahead pause count after now end → Within ahead pause (cond some 1 0 + count) before start end
moved ahead pause before after now start end count some early late (inl (not_one, same)) (inl none) = inl (rw not_one (omega (arith, none)))
moved ahead pause before after now start end count some early late (inl (not_one, same)) (inr few) = inr (rw not_one (omega (arith, few, same, early)))
moved ahead pause before after now start end count some early late (inr (one, room, pays)) (inl none) = inr (rw (one, none) (grind (arith, nat_tests)))
moved ahead pause before after now start end count some early late (inr (one, room, pays)) (inr few) = inr (rw one (omega (arith, few, pays, early, one_more count pause)))

all_moved : (pays : Judge → ℕ) (ahead pause : ℕ) (some : Step → Judge → Bool)
    → ((o : Origin) (v : Datagram) (f : Facts) (j : Judge) → Moves pays ahead pause (some (Comes o v f) j) f.at j (after_step (Comes o v f) j))
    → ((s : Step) (j : Judge) → moments_in s ≡ [] → (some s j ≡ false) × (pays (after_step s j) ≡ pays j))
    → (start end : ℕ) (steps : List Step) (j : Judge) → AreFrom start end (moments_of steps) → Within ahead pause (how_many some steps j) (pays j) start end
all_moved pays ahead pause some comes other start end [] j from = inl refl
all_moved pays ahead pause some comes other start end (s ∷ steps) j from = by s from (λ from_there later. all_moved pays ahead pause some comes other from_there end steps (after_step s j) later) where
  More : Step → Type 0
  More s = (from_there : ℕ) → AreFrom from_there end (moments_of steps) → Within ahead pause (how_many some steps (after_step s j)) (pays (after_step s j)) from_there end

  stood : (s : Step) → moments_in s ≡ [] → AreFrom start end (moments_of steps) → More s → Within ahead pause (how_many some (s ∷ steps) j) (pays j) start end
  stood s none from more =
      moved ahead pause (pays j) (pays (after_step s j)) start start end (how_many some steps (after_step s j)) (some s j) (omega arith) (rises start end (moments_of steps) from)
      (inl (other s j none)) (more start from)

  by : (s : Step) → AreFrom start end (moments_of (s ∷ steps)) → More s → Within ahead pause (how_many some (s ∷ steps) j) (pays j) start end
  by (Comes o v f) from more =
      moved ahead pause (pays j) (pays (after_step (Comes o v f) j)) f.at start end (how_many some steps (after_step (Comes o v f) j)) (some (Comes o v f) j) from.0
      (rises f.at end (moments_of steps) from.1) (comes o v f j) (more f.at from.1)
  by (Reports sent) from more = stood (Reports sent) refl from more
  by (Tells clock) from more = stood (Tells clock) refl from more
  by (Leaves o) from more = stood (Leaves o) refl from more
  by (Remembers name) from more = stood (Remembers name) refl from more
  by (Recalls number o) from more = stood (Recalls number o) refl from more

ended : (ahead pause count paid start end : ℕ) → start ≤ end → Within ahead pause count paid start end → count * pause ≤ ahead + pause + (end - start)
ended ahead pause count paid start end later (inl none) = rw none (omega arith)
ended ahead pause count paid start end later (inr few) = omega (arith, few, later)

pub other_repairs : (s : Step) (j : Judge) → moments_in s ≡ [] → (is_repaired_in s j ≡ false) × ((after_step s j).repairs ≡ j.repairs)
other_repairs (Comes o v f) j e = cc
other_repairs (Reports sent) j e = (refl, refl)
other_repairs (Tells clock) j e = (refl, refl)
other_repairs (Leaves o) j e = (refl, refl)
other_repairs (Remembers name) j e = (refl, refl)
other_repairs (Recalls number o) j e = (refl, refl)

other_asked : (s : Step) (j : Judge) → moments_in s ≡ [] → (is_asked_in s j ≡ false) × ((after_step s j).asked ≡ j.asked)
other_asked (Comes o v f) j e = cc
other_asked (Reports sent) j e = (refl, refl)
other_asked (Tells clock) j e = (refl, refl)
other_asked (Leaves o) j e = (refl, refl)
other_asked (Remembers name) j e = (refl, refl)
other_asked (Recalls number o) j e = (refl, refl)

pub repairs_are_few : RepairsAreFew
repairs_are_few start end steps j from =
    ended REPAIRS_AHEAD REPAIR_PAUSE (how_many is_repaired_in steps j) j.repairs start end (rises start end (moments_of steps) from)
    (all_moved (λ (i : Judge). i.repairs) REPAIRS_AHEAD REPAIR_PAUSE is_repaired_in came_repairs other_repairs start end steps j from)

pub strangers_are_few : StrangersAreFew
strangers_are_few start end steps j from =
    ended ASKED_AHEAD ASKED_PAUSE (how_many is_asked_in steps j) j.asked start end (rises start end (moments_of steps) from)
    (all_moved (λ (i : Judge). i.asked) ASKED_AHEAD ASKED_PAUSE is_asked_in came_asked other_asked start end steps j from)
