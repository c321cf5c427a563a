-- What no datagram changes of a judge: its number, the cells of its board, and the time of day.
use Rattle.std.proofs.Common.{◌≡◌, ◌∙◌, ℕ, Bool, true, false, cond, [], refl}
use Rattle.std.specs.List.{list_any}
use Rattle.std.specs.Prelude.{Some, nat_eq, not, ◌||◌}
use Rattle.wb_codec.specs.declared.datagram.Datagram.{Datagram}
use Rattle.wb_codec.specs.declared.datagram.Datagram.TheVariants.{AskPages, Draw, PageState, Request, Session}
use Rattle.wb_judge.specs.Aliens.{with_alien}
use Rattle.wb_judge.specs.Answers.{answers}
use Rattle.wb_judge.specs.Buckets.{has_room, paid_after}
use Rattle.wb_judge.specs.Judge.{Judge, after_taking, is_forged, knows}
use Rattle.wb_judge.specs.Judging.{after_admitted, after_admitting, after_answer, after_coming, after_fetching, after_hearing, after_held, after_judging, after_of, after_own, after_question, after_repair, after_report, after_request, after_said, after_stranger, is_admitted, is_elsewhere, is_fetched, is_forged_mark, is_heard, is_repaired, is_twin, speaking, with_payment}
use Rattle.wb_judge.specs.Others.{other_of}
use Rattle.wb_judge.specs.Reports.{report_of}
use Rattle.wb_judge.specs.Strange.{with_given}
use Rattle.wb_judge.specs.declared.facts.Facts.{Facts}
use Rattle.wb_judge.specs.declared.limits.TheConstants.{ASKED_AHEAD, ASKED_PAUSE, REPAIR_PAUSE}
use Rattle.wb_judge.specs.declared.origin.Origin.{Origin}
use Rattle.wb_judge.specs.declared.report.Report.{Report}
use Rattle.wb_judge.specs.declared.strange.Given.{Given}

pub record Fixed (j k : Judge) : Type 0 where
  pub me : k.me ≡ j.me
  pub cells : k.cells ≡ j.cells
  pub clock : k.clock ≡ j.clock

pub itself : (j : Judge) → Fixed j j
itself j = record { me = refl; cells = refl; clock = refl }

pub then : {i j k : Judge} → Fixed i j → Fixed j k → Fixed i k
then one other = record { me = other.me ∙ one.me; cells = other.cells ∙ one.cells; clock = other.clock ∙ one.clock }

either : (b : Bool) (i j k : Judge) → Fixed i j → Fixed i k → Fixed i (cond b j k)
either true i j k one other = one
either false i j k one other = other

paid : (answer : Bool) (n : ℕ) (j : Judge) → Fixed j (with_payment answer n j)
paid true n j = record { me = refl; cells = refl; clock = refl }
paid false n j = record { me = refl; cells = refl; clock = refl }

admitting : (o : Origin) (number : ℕ) (answer : Bool) (now : ℕ) (j : Judge) → Fixed j (after_admitting o number answer now j)
unfolding after_admitting
admitting o number answer now j = either (is_heard o answer (other_of number j.others)) j j _ (itself j) (paid answer _ j)

answered : (answer : Bool) (o : Origin) (now : ℕ) (j : Judge) → Fixed j (after_answer answer o now j)
unfolding after_answer
answered true o now j = record { me = refl; cells = refl; clock = refl }
answered false o now j = itself j

fetching : (b : Bool) (now : ℕ) (j : Judge) → Fixed j (after_fetching b now j)
unfolding after_fetching
fetching true now j = record { me = refl; cells = refl; clock = refl }
fetching false now j = itself j

hearing : (o : Origin) (number : ℕ) (answer : Bool) (lacking now : ℕ) (j : Judge) → Fixed j (after_hearing o number answer lacking now j)
unfolding after_hearing
hearing o number answer lacking now j =
    let f = then (answered answer o now j) (fetching (is_fetched (speaking o number answer now j) lacking now j) now (after_answer answer o now j)) in
    record { me = f.me; cells = f.cells; clock = f.clock }

admitted : (o : Origin) (r : Report) (answer : Bool) (f : Facts) (j : Judge) → Fixed j (after_admitted o r answer f j)
unfolding after_admitted
admitted o r answer f j = either (is_forged_mark r f) j j _ (itself j) (hearing o r.speaker answer f.lacking f.at j)

reported : (o : Origin) (r : Report) (f : Facts) (j : Judge) → Fixed j (after_report o r f j)
unfolding after_report
reported o r f j =
    let answer = answers j.own r.echo f.at in
    let k = after_admitting o r.speaker answer f.at j in
    either (is_elsewhere o r answer f.at j || not (is_admitted o r.speaker answer f.at j)) j j _ (itself j)
    (then (admitting o r.speaker answer f.at j) (admitted o r answer f k))

stranger : (now : ℕ) (j : Judge) → Fixed j (after_stranger now j)
unfolding after_stranger
stranger now j = either (has_room ASKED_AHEAD j.asked now) j (record j { asked = paid_after ASKED_PAUSE j.asked now }) j (record { me = refl; cells = refl; clock = refl }) (itself j)

question : (o : Origin) (now : ℕ) (j : Judge) → Fixed j (after_question o now j)
unfolding after_question
question o now j = either (knows o now j) j j (after_stranger now j) (itself j) (stranger now j)

repair : (o : Origin) (now : ℕ) (j : Judge) → Fixed j (after_repair o now j)
unfolding after_repair
repair o now j =
    either (is_repaired o now j) j (record j { repairs = paid_after REPAIR_PAUSE j.repairs now; served = Some o }) j (record { me = refl; cells = refl; clock = refl }) (itself j)

request : (o : Origin) (f : Facts) (j : Judge) → Fixed j (after_request o f j)
unfolding after_held
request o f j =
    either f.holds j (after_held o f.at j) j (either (knows o f.at j) j (after_repair o f.at j) (after_stranger f.at j) (repair o f.at j) (stranger f.at j)) (itself j)

owned : (o : Origin) (sent : ℕ) (r : Report) (now : ℕ) (j : Judge) → Fixed j (after_own o sent r now j)
unfolding after_own
owned o sent r now j =
    either (list_any (nat_eq sent) j.own) j j (record j { aliens = with_alien (record { origin = o; sent = sent; at = now }) j.aliens; has_twin = j.has_twin || is_twin sent r now j }) (itself j)
    (record { me = refl; cells = refl; clock = refl })

said : (o : Origin) (number : ℕ) (j ours theirs : Judge) → Fixed j ours → Fixed j theirs → Fixed j (after_said o number j ours theirs)
said o number j ours theirs one other = either (is_forged number o j) j j _ (itself j) (either (nat_eq number j.me) j ours theirs one other)

after_it : (o : Origin) (v : Datagram) (f : Facts) (j : Judge) → Fixed j (after_of o v f j)
after_it o (Draw d) f j = itself j
after_it o (Session s sent page marks echoes) f j = let r = report_of j.me s marks echoes in said o s j _ _ (owned o sent r f.at j) (reported o r f j)
after_it o (PageState s page marks) f j = said o s j _ _ (itself j) (reported o (report_of j.me s marks []) f j)
after_it o (Request asker name) f j = said o asker j _ _ (itself j) (request o f j)
after_it o (AskPages asker) f j = said o asker j _ _ (itself j) (question o f.at j)

-- a datagram
pub judged : (o : Origin) (v : Datagram) (f : Facts) (j : Judge) → Fixed j (after_judging o v f j)
judged o v f j = let f = after_it o v f (after_coming o f.at j) in record { me = f.me; cells = f.cells; clock = f.clock }

-- a drawop that the board took in
pub taken : (g : Given) (o : Origin) (now : ℕ) (j : Judge) → Fixed j (after_taking g o now j)
taken g o now j = either (knows o now j) j j (record j { strange = with_given g j.strange }) (itself j) (record { me = refl; cells = refl; clock = refl })
