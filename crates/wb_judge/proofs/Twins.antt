-- Who has our number too, and where numbers speak.
use Rattle.std.proofs.Common.{◌≡◌, ◌∙◌, ℕ, Bool, true, false, cond, [], ap, refl}
use Rattle.std.specs.List.{list_any}
use Rattle.std.specs.Prelude.{Some, ◌&&◌, ◌||◌, nat_eq, not}
use Rattle.wb_codec.specs.declared.datagram.Datagram.TheVariants.{AskPages, Draw, PageState, Request, Session}
use Rattle.wb_judge.specs.Aliens.{with_alien}
use Rattle.wb_judge.specs.Answers.{answers}
use Rattle.wb_judge.specs.Buckets.{has_room, paid_after}
use Rattle.wb_judge.specs.Judge.{Judge, is_forged, knows}
use Rattle.wb_judge.specs.Judging.{after_admitted, after_admitting, after_answer, after_coming, after_fetching, after_hearing, after_held, after_own, after_question, after_repair, after_report, after_request, after_said, after_stranger, is_admitted, is_elsewhere, is_fetched, is_forged_mark, is_repaired, is_twin, speaking, with_payment}
use Rattle.wb_judge.specs.Laws.{NumbersStay, ReplayIsNoTwin}
use Rattle.wb_judge.specs.Others.{is_bound_elsewhere}
use Rattle.wb_judge.specs.Reports.{report_of}
use Rattle.wb_judge.specs.declared.facts.Facts.{Facts}
use Rattle.wb_judge.specs.declared.limits.TheConstants.{ASKED_AHEAD, ASKED_PAUSE, REPAIR_PAUSE}
use Rattle.wb_judge.specs.declared.origin.Origin.{Origin}
use Rattle.wb_judge.specs.declared.report.Report.{Report}

-- ---- twins

either : (b : Bool) (t : Bool) (j k : Judge) → j.has_twin ≡ t → k.has_twin ≡ t → (cond b j k).has_twin ≡ t
either true t j k one other = one
either false t j k one other = other

paid : (answer : Bool) (n : ℕ) (j : Judge) → (with_payment answer n j).has_twin ≡ j.has_twin
paid true n j = refl
paid false n j = refl

admitting : (o : Origin) (number : ℕ) (answer : Bool) (now : ℕ) (j : Judge) → (after_admitting o number answer now j).has_twin ≡ j.has_twin
unfolding after_admitting
admitting o number answer now j = either _ _ j _ refl (paid answer _ j)

answered : (answer : Bool) (o : Origin) (now : ℕ) (j : Judge) → (after_answer answer o now j).has_twin ≡ j.has_twin
unfolding after_answer
answered true o now j = refl
answered false o now j = refl

fetching : (b : Bool) (now : ℕ) (j : Judge) → (after_fetching b now j).has_twin ≡ j.has_twin
unfolding after_fetching
fetching true now j = refl
fetching false now j = refl

hearing : (o : Origin) (number : ℕ) (answer : Bool) (lacking now : ℕ) (j : Judge) → (after_hearing o number answer lacking now j).has_twin ≡ j.has_twin
unfolding after_hearing
hearing o number answer lacking now j = fetching (is_fetched (speaking o number answer now j) lacking now j) now (after_answer answer o now j) ∙ answered answer o now j

reported : (o : Origin) (r : Report) (f : Facts) (j : Judge) → (after_report o r f j).has_twin ≡ j.has_twin
unfolding after_report after_admitted
reported o r f j =
    let answer = answers j.own r.echo f.at in
    let k = after_admitting o r.speaker answer f.at j in
    either (is_elsewhere o r answer f.at j || not (is_admitted o r.speaker answer f.at j)) j.has_twin j _ refl
    (either (is_forged_mark r f) j.has_twin k _ (admitting o r.speaker answer f.at j) (hearing o r.speaker answer f.lacking f.at k ∙ admitting o r.speaker answer f.at j))

stranger : (now : ℕ) (j : Judge) → (after_stranger now j).has_twin ≡ j.has_twin
unfolding after_stranger
stranger now j = either (has_room ASKED_AHEAD j.asked now) j.has_twin (record j { asked = paid_after ASKED_PAUSE j.asked now }) j refl refl

question : (o : Origin) (now : ℕ) (j : Judge) → (after_question o now j).has_twin ≡ j.has_twin
unfolding after_question
question o now j = either (knows o now j) j.has_twin j (after_stranger now j) refl (stranger now j)

repair : (o : Origin) (now : ℕ) (j : Judge) → (after_repair o now j).has_twin ≡ j.has_twin
unfolding after_repair
repair o now j = either (is_repaired o now j) j.has_twin (record j { repairs = paid_after REPAIR_PAUSE j.repairs now; served = Some o }) j refl refl

request : (o : Origin) (f : Facts) (j : Judge) → (after_request o f j).has_twin ≡ j.has_twin
unfolding after_held
request o f j =
    either f.holds j.has_twin (after_held o f.at j) j (either (knows o f.at j) j.has_twin (after_repair o f.at j) (after_stranger f.at j) (repair o f.at j) (stranger f.at j)) refl

owned : (o : Origin) (sent : ℕ) (r : Report) (now : ℕ) (j : Judge) → answers j.own r.echo now ≡ false → (after_own o sent r now j).has_twin ≡ j.has_twin
unfolding after_own
owned o sent r now j silent =
    either (list_any (nat_eq sent) j.own) j.has_twin j (record j { aliens = with_alien (record { origin = o; sent = sent; at = now }) j.aliens; has_twin = j.has_twin || is_twin sent r now j }) refl
    (ap (λ b. j.has_twin || (not (list_any (nat_eq sent) j.own) && b)) silent ∙ none j.has_twin (not (list_any (nat_eq sent) j.own))) where
      none : (a b : Bool) → (a || (b && false)) ≡ a
      none true b = refl
      none false true = refl
      none false false = refl

said : (o : Origin) (number : ℕ) (j ours theirs : Judge) → ours.has_twin ≡ j.has_twin → theirs.has_twin ≡ j.has_twin → (after_said o number j ours theirs).has_twin ≡ j.has_twin
said o number j ours theirs one other = either (is_forged number o j) j.has_twin j _ refl (either (nat_eq number j.me) j.has_twin ours theirs one other)

pub replay_is_no_twin : ReplayIsNoTwin
replay_is_no_twin o (Draw d) f j silent = refl
replay_is_no_twin o (Session s sent page marks echoes) f j silent =
    let i = after_coming o f.at j in let r = report_of j.me s marks echoes in
    said o s i (after_own o sent r f.at i) (after_report o r f i) (owned o sent r f.at i silent) (reported o r f i)
replay_is_no_twin o (PageState s page marks) f j silent =
    let i = after_coming o f.at j in let r = report_of j.me s marks [] in said o s i i (after_report o r f i) refl (reported o r f i)
replay_is_no_twin o (Request asker name) f j silent = let i = after_coming o f.at j in said o asker i i (after_request o f i) refl (request o f i)
replay_is_no_twin o (AskPages asker) f j silent = let i = after_coming o f.at j in said o asker i i (after_question o f.at i) refl (question o f.at i)

-- ---- where numbers speak

chosen : (b : Bool) (i j k : Judge) → j.others ≡ i.others → k.others ≡ i.others → (cond b j k).others ≡ i.others
chosen true i j k one other = one
chosen false i j k one other = other

pub own_others : (o : Origin) (sent : ℕ) (r : Report) (now : ℕ) (j : Judge) → (after_own o sent r now j).others ≡ j.others
unfolding after_own
own_others o sent r now j = chosen (list_any (nat_eq sent) j.own) j j (record j { aliens = with_alien (record { origin = o; sent = sent; at = now }) j.aliens; has_twin = j.has_twin || is_twin sent r now j }) refl refl

elsewhere : (o : Origin) (r : Report) (f : Facts) (j : Judge) → is_bound_elsewhere r.speaker o f.at j.others ≡ true → answers j.own r.echo f.at ≡ false → (after_report o r f j).others ≡ j.others
unfolding after_report is_elsewhere
elsewhere o r f j bound silent = rw (silent, bound) refl

bound_by : (o : Origin) (s number now : ℕ) (j : Judge) → Some s ≡ Some number → is_bound_elsewhere number o now j.others ≡ true → is_bound_elsewhere s o now j.others ≡ true
bound_by o s number now j same bound = let e : s ≡ number = cc in ap (λ n. is_bound_elsewhere n o now j.others) e ∙ bound

pub numbers_stay : NumbersStay
numbers_stay o number (Session s sent page marks echoes) f j speaks bound silent =
    let i = after_coming o f.at j in let r = report_of j.me s marks echoes in
    chosen (is_forged s o i) i i _ refl (chosen (nat_eq s j.me) i (after_own o sent r f.at i) (after_report o r f i) (own_others o sent r f.at i) (elsewhere o r f i (bound_by o s number f.at j speaks bound) silent))
numbers_stay o number (PageState s page marks) f j speaks bound silent =
    let i = after_coming o f.at j in let r = report_of j.me s marks [] in
    chosen (is_forged s o i) i i _ refl (chosen (nat_eq s j.me) i i (after_report o r f i) refl (elsewhere o r f i (bound_by o s number f.at j speaks bound) silent))
numbers_stay o number (Draw d) f j speaks bound silent = cc
numbers_stay o number (Request asker name) f j speaks bound silent = cc
numbers_stay o number (AskPages asker) f j speaks bound silent = cc
