-- What becomes of a datagram, and of the judge.
use Rattle.std.specs.Prelude.{ℕ, ◌+◌, ◌-◌, Bool, true, false, not, ◌&&◌, ◌||◌, List, [], Option, Some, None, is_none, is_some, nat_eq, nat_le, nat_lt, if◌then◌else◌}
use Rattle.std.specs.List.{list_any}
use Rattle.wb_names.specs.Values.{DrawopValue, NameValue}
use Rattle.wb_names.specs.declared.name.TheConstants.{FIRST_FORGED}
use Rattle.wb_names.specs.declared.parts.Op.{Op}
use Rattle.wb_names.specs.declared.parts.Op.TheVariants.{Aimed, Drawn, Text}
use Rattle.wb_codec.specs.declared.datagram.Datagram.{Datagram}
use Rattle.wb_codec.specs.declared.datagram.Datagram.TheVariants.{AskPages, Draw, PageState, Request, Session}
use Rattle.wb_judge.specs.Aliens.{with_alien}
use Rattle.wb_judge.specs.Answers.{answers}
use Rattle.wb_judge.specs.Buckets.{has_room, paid_after}
use Rattle.wb_judge.specs.Days.{time_of_day}
use Rattle.wb_judge.specs.Judge.{Judge, hushes, is_forged, is_full, knows}
use Rattle.wb_judge.specs.Known.{known_from, renewed}
use Rattle.wb_judge.specs.Origins.{same_origin}
use Rattle.wb_judge.specs.Others.{has_speaker, is_bound_elsewhere, other_of, other_with, spoken}
use Rattle.wb_judge.specs.Reports.{report_of}
use Rattle.wb_judge.specs.Strange.{is_over, is_there, is_wide, without_origin}
use Rattle.wb_judge.specs.Told.{leaves_holes, with_report}
use Rattle.wb_judge.specs.Verdicts.{dropped, taken, warned}
use Rattle.wb_judge.specs.declared.facts.Facts.{Facts}
use Rattle.wb_judge.specs.declared.limits.TheConstants.{AHEAD_KNOWN, AHEAD_STRANGER, ASKED_AHEAD, ASKED_PAUSE, FETCH_AGAIN, FETCH_PAUSE, FORGED_ABOVE, LACKING, NEW_AHEAD, NEW_OF_ONE, NEW_PAUSE, REPAIRS_AHEAD, REPAIRS_OF_ONE, REPAIR_PAUSE}
use Rattle.wb_judge.specs.declared.origin.Origin.{Origin}
use Rattle.wb_judge.specs.declared.others.Other.{Other}
use Rattle.wb_judge.specs.declared.report.Report.{Report}
use Rattle.wb_judge.specs.declared.verdict.Verdict.{Verdict}
use Rattle.wb_judge.specs.declared.verdict.Warning.{Warning}
use Rattle.wb_judge.specs.declared.verdict.Warning.TheVariants.{ForgedMark, Impostor, NoCell, NoShare, Twin}
use Rattle.wb_judge.specs.declared.verdict.Why.TheVariants.{Again, Ahead, Crowd, Flood, Full, Holes, Mark, Own, Pages, Share, Speaks, Stranger}

-- ---- a drawop

-- it draws: it is neither a delete nor a restore
abbrev pub draws : Op → Bool
draws (Drawn figure stroke) = true
draws (Text x y text) = true
draws (Aimed change target) = false

-- A drawop with our number is forged, unless a member gives what we lost: marks alone raise our numbers, and no drawop of ours is taken while they may.
unfoldable pub is_forged_drawop : Bool → DrawopValue → Facts → Judge → Bool
is_forged_drawop known d f j = nat_eq d.name.source j.me && (nat_le FIRST_FORGED d.name.seq || (f.above || (f.listens || not known)))

abbrev pub ahead_of : Bool → ℕ
ahead_of known = if known then AHEAD_KNOWN else AHEAD_STRANGER

unfoldable pub is_ahead : Bool → ℕ → ℕ → Judge → Bool
is_ahead known time now j = nat_lt (time_of_day j.clock now + ahead_of known) time

-- A stranger's drawop is under the number of a member elsewhere. Where origins have owners that is a repair, as anybody may give one.
abbrev pub is_claimed : Origin → ℕ → ℕ → Judge → Bool
is_claimed o number now j = is_none o.owner && is_bound_elsewhere number o now j.others

unfoldable pub drawop_verdict : Origin → DrawopValue → Facts → Judge → Verdict
drawop_verdict o d f j = let known = knows o f.at j in
    if f.holds then (if hushes o d.name f.at j then taken else dropped Again)
    else if is_forged_drawop known d f j then dropped Own
    else if not known && is_claimed o d.name.source f.at j then dropped Speaks
    else if is_ahead known d.time f.at j then dropped Ahead
    else if is_full f.held j && (draws d.op || not known) then warned Full NoCell
    else if not known && is_over o j.strange then (if nat_lt 0 j.strange.most then warned Share NoShare else dropped Share)
    else if not known && is_wide d.name j.strange then dropped Pages
    else if not known && leaves_holes d.name f.top j.told then dropped Holes
    else taken

-- ---- a question for pages, and a request

-- a stranger asks for what has an answer
unfoldable pub stranger_verdict : ℕ → Judge → Verdict
stranger_verdict now j = if has_room ASKED_AHEAD j.asked now then taken else dropped Flood

unfoldable pub after_stranger : ℕ → Judge → Judge
after_stranger now j = if has_room ASKED_AHEAD j.asked now then record j { asked = paid_after ASKED_PAUSE j.asked now } else j

-- A member requests what is held, which brings a repair. The second half of those at once is kept for another member than the one of the last.
abbrev pub repairs_ahead : Origin → Option Origin → ℕ
repairs_ahead o served = if is_there o served then REPAIRS_OF_ONE else REPAIRS_AHEAD

unfoldable pub is_repaired : Origin → ℕ → Judge → Bool
is_repaired o now j = has_room (repairs_ahead o j.served) j.repairs now

unfoldable pub after_repair : Origin → ℕ → Judge → Judge
after_repair o now j = if is_repaired o now j then record j { repairs = paid_after REPAIR_PAUSE j.repairs now; served = Some o } else j

-- a request for what is held
unfoldable pub held_verdict : Origin → ℕ → Judge → Verdict
held_verdict o now j =
    if knows o now j then (if is_repaired o now j then taken else dropped Flood)
    else stranger_verdict now j

unfoldable pub after_held : Origin → ℕ → Judge → Judge
after_held o now j = if knows o now j then after_repair o now j else after_stranger now j

-- A request for what is not held backs our own off.
unfoldable pub missed_verdict : Origin → NameValue → ℕ → Judge → Verdict
missed_verdict o name now j =
    if hushes o name now j then taken
    else if knows o now j then dropped Again
    else dropped Stranger

abbrev pub request_verdict : Origin → NameValue → Facts → Judge → Verdict
request_verdict o name f j = if f.holds then held_verdict o f.at j else missed_verdict o name f.at j

abbrev pub after_request : Origin → Facts → Judge → Judge
after_request o f j = if f.holds then after_held o f.at j else j

unfoldable pub question_verdict : Origin → ℕ → Judge → Verdict
question_verdict o now j = if knows o now j then taken else stranger_verdict now j

unfoldable pub after_question : Origin → ℕ → Judge → Judge
after_question o now j = if knows o now j then j else after_stranger now j

-- ---- a report of another number, which answers us or not

-- a number that was heard needs no room if it answers, or speaks from where it spoke
abbrev pub is_heard : Origin → Bool → Option Other → Bool
is_heard o answer None = false
is_heard o answer (Some x) = answer || same_origin x.origin o

abbrev pub paid_for : Bool → Judge → ℕ
paid_for answer j = if answer then j.answering else j.hearing

-- The second half of those at once is kept for origins that have no number.
abbrev pub new_ahead : Origin → List Other → ℕ
new_ahead o others = if has_speaker o others then NEW_OF_ONE else NEW_AHEAD

unfoldable pub is_admitted : Origin → ℕ → Bool → ℕ → Judge → Bool
is_admitted o number answer now j = is_heard o answer (other_of number j.others) || has_room (new_ahead o j.others) (paid_for answer j) now

abbrev pub with_payment : Bool → ℕ → Judge → Judge
with_payment answer paid j = if answer then record j { answering = paid } else record j { hearing = paid }

unfoldable pub after_admitting : Origin → ℕ → Bool → ℕ → Judge → Judge
after_admitting o number answer now j =
    if is_heard o answer (other_of number j.others) then j
    else with_payment answer (paid_after NEW_PAUSE (paid_for answer j) now) j

-- a stream of it began lately
abbrev pub is_recent : Option ℕ → ℕ → Bool
is_recent None now = false
is_recent (Some at) now = nat_lt (now - at) FETCH_AGAIN

-- If we lack much, we take a stream of a member that has answered us.
unfoldable pub is_fetched : Other → ℕ → ℕ → Judge → Bool
is_fetched x lacking now j = (is_some x.answered && nat_le LACKING lacking) && (nat_le j.fetch_at now && not (is_recent x.fetched now))

abbrev pub answering_at : Bool → ℕ → Other → Other
answering_at answer now x = if answer then record x { answered = Some now } else x

abbrev pub fetching_at : Bool → ℕ → Other → Other
fetching_at fetch now x = if fetch then record x { fetched = Some now } else x

-- what is remembered of a number that speaks from there
unfoldable pub speaking : Origin → ℕ → Bool → ℕ → Judge → Other
speaking o number answer now j = answering_at answer now (spoken number o now j.others)

-- it answers, or not: a member speaks from there, and what came from there is a member's too
unfoldable pub after_answer : Bool → Origin → ℕ → Judge → Judge
after_answer answer o now j = if answer then record j { known = known_from o now j.known; strange = without_origin o j.strange } else j

unfoldable pub after_fetching : Bool → ℕ → Judge → Judge
after_fetching fetch now j = if fetch then record j { fetch_at = now + FETCH_PAUSE } else j

abbrev pub with_other : Other → Judge → Judge
with_other x j = record j { others = other_with x j.others }

unfoldable pub after_hearing : Origin → ℕ → Bool → ℕ → ℕ → Judge → Judge
after_hearing o number answer lacking now j =
    let x = speaking o number answer now j in
    let fetch = is_fetched x lacking now j in
    with_other (fetching_at fetch now x) (after_fetching fetch now (after_answer answer o now j))

abbrev pub fetched_from : Origin → Bool → Option Origin
fetched_from o fetch = if fetch then Some o else None

-- its mark of us is above what we hold
abbrev pub mark_warning : Report → Facts → Option Warning
mark_warning r f = if not f.listens && nat_lt f.top r.own_mark then Some ForgedMark else None

abbrev pub is_forged_mark : Report → Facts → Bool
is_forged_mark r f = f.listens && nat_lt (f.top + FORGED_ABOVE) r.own_mark

unfoldable pub is_elsewhere : Origin → Report → Bool → ℕ → Judge → Bool
is_elsewhere o r answer now j = not answer && is_bound_elsewhere r.speaker o now j.others

-- there is room for it
unfoldable pub admitted_verdict : Origin → Report → Bool → Facts → Judge → Verdict
admitted_verdict o r answer f j =
    if is_forged_mark r f then warned Mark ForgedMark
    else record {
      why = None;
      warning = mark_warning r f;
      fetch = fetched_from o (is_fetched (speaking o r.speaker answer f.at j) f.lacking f.at j);
    }

unfoldable pub after_admitted : Origin → Report → Bool → Facts → Judge → Judge
after_admitted o r answer f j = if is_forged_mark r f then j else after_hearing o r.speaker answer f.lacking f.at j

unfoldable pub report_verdict : Origin → Report → Facts → Judge → Verdict
report_verdict o r f j = let answer = answers j.own r.echo f.at in
    if is_elsewhere o r answer f.at j then dropped Speaks
    else if not (is_admitted o r.speaker answer f.at j) then dropped Crowd
    else admitted_verdict o r answer f (after_admitting o r.speaker answer f.at j)

unfoldable pub after_report : Origin → Report → Facts → Judge → Judge
after_report o r f j = let answer = answers j.own r.echo f.at in
    if is_elsewhere o r answer f.at j || not (is_admitted o r.speaker answer f.at j) then j
    else after_admitted o r answer f (after_admitting o r.speaker answer f.at j)

-- ---- a session message under our own number

-- It is not ours, and answers us: somebody is here who has our number too. A replay answers nobody.
abbrev pub is_twin : ℕ → Report → ℕ → Judge → Bool
is_twin sent r now j = not (list_any (nat_eq sent) j.own) && answers j.own r.echo now

unfoldable pub own_verdict : ℕ → Report → ℕ → Judge → Verdict
own_verdict sent r now j = if is_twin sent r now j && not j.has_twin then warned Own Twin else dropped Own

unfoldable pub after_own : Origin → ℕ → Report → ℕ → Judge → Judge
after_own o sent r now j =
    if list_any (nat_eq sent) j.own then j
    else record j { aliens = with_alien (record { origin = o; sent = sent; at = now }) j.aliens; has_twin = j.has_twin || is_twin sent r now j }

-- ---- any datagram

-- by whether the number is another owner's, ours, or neither
abbrev pub said_verdict : Origin → ℕ → Judge → Verdict → Verdict → Verdict
said_verdict o number j ours theirs =
    if is_forged number o j then warned Speaks (Impostor number) else if nat_eq number j.me then ours else theirs

abbrev pub after_said : Origin → ℕ → Judge → Judge → Judge → Judge
after_said o number j ours theirs = if is_forged number o j then j else if nat_eq number j.me then ours else theirs

abbrev pub verdict_of : Origin → Datagram → Facts → Judge → Verdict
verdict_of o (Draw d) f j = drawop_verdict o d f j
verdict_of o (Session s sent page marks echoes) f j =
    let r = report_of j.me s marks echoes in said_verdict o s j (own_verdict sent r f.at j) (report_verdict o r f j)
verdict_of o (PageState s page marks) f j = said_verdict o s j (dropped Own) (report_verdict o (report_of j.me s marks []) f j)
verdict_of o (Request asker name) f j = said_verdict o asker j (dropped Own) (request_verdict o name f j)
verdict_of o (AskPages asker) f j = said_verdict o asker j (dropped Own) (question_verdict o f.at j)

abbrev pub after_of : Origin → Datagram → Facts → Judge → Judge
after_of o (Draw d) f j = j
after_of o (Session s sent page marks echoes) f j =
    let r = report_of j.me s marks echoes in after_said o s j (after_own o sent r f.at j) (after_report o r f j)
after_of o (PageState s page marks) f j = after_said o s j j (after_report o (report_of j.me s marks []) f j)
after_of o (Request asker name) f j = after_said o asker j j (after_request o f j)
after_of o (AskPages asker) f j = after_said o asker j j (after_question o f.at j)

-- whatever comes from a known origin renews it
abbrev pub after_coming : Origin → ℕ → Judge → Judge
after_coming o now j = record j { known = renewed o now j.known }

abbrev pub verdict : Origin → Datagram → Facts → Judge → Verdict
verdict o v f j = verdict_of o v f (after_coming o f.at j)

-- a member's report tells its marks
abbrev pub after_telling : Origin → Datagram → ℕ → Judge → Judge
after_telling o v now j = record j { told = if knows o now j then with_report v j.told else j.told }

abbrev pub after_judging : Origin → Datagram → Facts → Judge → Judge
after_judging o v f j = after_telling o v f.at (after_of o v f (after_coming o f.at j))
