-- The examples compute: a member is not hushed.
use Rattle.std.proofs.Common.{◌≡◌, ℕ, true, false, List, [], ◌∷◌, ◌++◌, Some, arith, refl, subst, sym}
use Rattle.std.specs.Prelude.{Contains}
use Rattle.wb_names.specs.Values.{DrawopValue}
use Rattle.wb_names.proofs.Listings.{Contains-here}
use Rattle.wb_codec.specs.declared.datagram.Datagram.{Datagram}
use Rattle.wb_codec.specs.declared.datagram.Datagram.TheVariants.{Draw, Request}
use Rattle.wb_gaps.specs.Answers.{gaps_of, pages_of, report_of}
use Rattle.wb_judge.specs.Answers.{answers}
use Rattle.wb_judge.specs.Firm.{is_firm_beside}
use Rattle.wb_judge.specs.Judge.{is_firm, knows}
use Rattle.wb_judge.specs.Judging.{admitted_verdict, after_admitted, after_admitting, after_answer, after_fetching, after_held, after_hearing, after_repair, after_report, after_stranger, drawop_verdict, held_verdict, is_admitted, is_ahead, is_elsewhere, is_fetched, is_forged_drawop, is_repaired, missed_verdict, report_verdict, speaking, stranger_verdict}
use Rattle.wb_judge.specs.Known.{is_known, known_from}
use Rattle.wb_judge.specs.Others.{is_bound_elsewhere, other_with, spoken}
use Rattle.wb_judge.specs.Strange.{is_over, is_wide, with_given, without_name, without_origin}
use Rattle.wb_judge.specs.Told.{leaves_holes}
use Rattle.wb_member.specs.Judged.{holds}
use Rattle.wb_member.specs.Opened.{present}
use Rattle.wb_member.specs.Random.{after_word, started as random_started, word_of}
use Rattle.wb_policy.specs.Choices.{near_names}
use Rattle.wb_policy.specs.Words as words
use Rattle.wb_keeping.specs.Kept.{leaps_on, turns_on}
use Rattle.wb_judging.specs.Handing.{judge_after, verdict_on}
use Rattle.wb_judging.specs.declared.call.Call.TheVariants.{Passed}
use Rattle.wb_judging.specs.declared.news.News.TheVariants.{Nothing}
use Rattle.wb_judging.specs.Laws.{sends_in}
use Rattle.wb_judging.specs.Performing.{after_kept_line, events_of, sent_by_kept_line}
use Rattle.wb_laws_kept.specs.Openings.{IsOpening}
use Rattle.wb_judged_sessions.specs.Examples.{numbers, start}
use Rattle.wb_judged_sessions.specs.Hushing.{RepairsAllTheSame, RequestsAllTheSame, answer, ask, copied, drawing, missing, put_off, requested, told}
use Rattle.wb_judged_sessions.specs.Meeting.{origin_of}
use Rattle.wb_judged_sessions.specs.Sessions.{judged_at}
use Rattle.wb_judged_sessions.specs.Terms.{AreTaken}
use Rattle.wb_judged_sessions.specs.Unhushed.{timers_at}

is_opening : (seed : ℕ) → IsOpening (start seed 1).opening
is_opening seed = record { moments = (omega arith, tt); in_range = refl; small = omega arith }

-- ---- a repair

holds_it : (judged_at numbers requested 0).kept.host.is.held ≡ drawing ∷ []
unfolding random_started word_of after_word words.started report_of gaps_of pages_of near_names leaps_on turns_on after_kept_line sent_by_kept_line
    verdict_on judge_after answers is_known known_from is_bound_elsewhere spoken other_with without_origin is_admitted after_admitting is_fetched speaking after_answer after_fetching after_hearing is_elsewhere admitted_verdict after_admitted report_verdict after_report
    drawop_verdict is_forged_drawop is_firm_beside is_ahead is_over is_wide leaves_holes with_given without_name held_verdict after_held is_repaired after_repair stranger_verdict after_stranger missed_verdict
holds_it = refl

is_timed : (timers_at (judged_at numbers requested 0) drawing.name).answer ≡ Some answer
unfolding random_started word_of after_word words.started report_of gaps_of pages_of near_names leaps_on turns_on after_kept_line sent_by_kept_line
    verdict_on judge_after answers is_known known_from is_bound_elsewhere spoken other_with without_origin is_admitted after_admitting is_fetched speaking after_answer after_fetching after_hearing is_elsewhere admitted_verdict after_admitted report_verdict after_report
    drawop_verdict is_forged_drawop is_firm_beside is_ahead is_over is_wide leaves_holes with_given without_name held_verdict after_held is_repaired after_repair stranger_verdict after_stranger missed_verdict
is_timed = refl

is_here : present (judged_at numbers requested 0).kept.host ≡ 4200000
unfolding random_started word_of after_word words.started report_of gaps_of pages_of near_names leaps_on turns_on after_kept_line sent_by_kept_line
    verdict_on judge_after answers is_known known_from is_bound_elsewhere spoken other_with without_origin is_admitted after_admitting is_fetched speaking after_answer after_fetching after_hearing is_elsewhere admitted_verdict after_admitted report_verdict after_report
    drawop_verdict is_forged_drawop is_firm_beside is_ahead is_over is_wide leaves_holes with_given without_name held_verdict after_held is_repaired after_repair stranger_verdict after_stranger missed_verdict
is_here = refl

knows_it : knows (origin_of 1) 4200001 (judged_at numbers requested 0).judge ≡ true
unfolding random_started word_of after_word words.started report_of gaps_of pages_of near_names leaps_on turns_on after_kept_line sent_by_kept_line
    verdict_on judge_after answers is_known known_from is_bound_elsewhere spoken other_with without_origin is_admitted after_admitting is_fetched speaking after_answer after_fetching after_hearing is_elsewhere admitted_verdict after_admitted report_verdict after_report
    drawop_verdict is_forged_drawop is_firm_beside is_ahead is_over is_wide leaves_holes with_given without_name held_verdict after_held is_repaired after_repair stranger_verdict after_stranger missed_verdict
knows_it = refl

firm_then : is_firm drawing.name 4200001 (judged_at numbers requested 0).judge ≡ true
unfolding random_started word_of after_word words.started report_of gaps_of pages_of near_names leaps_on turns_on after_kept_line sent_by_kept_line
    verdict_on judge_after answers is_known known_from is_bound_elsewhere spoken other_with without_origin is_admitted after_admitting is_fetched speaking after_answer after_fetching after_hearing is_elsewhere admitted_verdict after_admitted report_verdict after_report
    drawop_verdict is_forged_drawop is_firm_beside is_ahead is_over is_wide leaves_holes with_given without_name held_verdict after_held is_repaired after_repair stranger_verdict after_stranger missed_verdict
firm_then = refl

all_taken : AreTaken numbers (copied ++ requested)
unfolding random_started word_of after_word words.started report_of gaps_of pages_of near_names leaps_on turns_on after_kept_line sent_by_kept_line
    verdict_on judge_after answers is_known known_from is_bound_elsewhere spoken other_with without_origin is_admitted after_admitting is_fetched speaking after_answer after_fetching after_hearing is_elsewhere admitted_verdict after_admitted report_verdict after_report
    drawop_verdict is_forged_drawop is_firm_beside is_ahead is_over is_wide leaves_holes with_given without_name held_verdict after_held is_repaired after_repair stranger_verdict after_stranger missed_verdict
all_taken = (omega arith, (omega arith, (refl, (omega arith, (omega arith, (omega arith, (omega arith, (omega arith, ((is_opening 2, tt), ((is_opening 1, tt), tt))))))))))

sends_all : sends_in (events_of (Passed answer.due Nothing) (judged_at numbers (copied ++ requested) 0)) ≡ Draw drawing ∷ []
unfolding random_started word_of after_word words.started report_of gaps_of pages_of near_names leaps_on turns_on after_kept_line sent_by_kept_line
    verdict_on judge_after answers is_known known_from is_bound_elsewhere spoken other_with without_origin is_admitted after_admitting is_fetched speaking after_answer after_fetching after_hearing is_elsewhere admitted_verdict after_admitted report_verdict after_report
    drawop_verdict is_forged_drawop is_firm_beside is_ahead is_over is_wide leaves_holes with_given without_name held_verdict after_held is_repaired after_repair stranger_verdict after_stranger missed_verdict
sends_all = refl

-- ---- a request

lacks_it : holds (judged_at numbers told 0).kept.host missing ≡ false
unfolding random_started word_of after_word words.started report_of gaps_of pages_of near_names leaps_on turns_on after_kept_line sent_by_kept_line
    verdict_on judge_after answers is_known known_from is_bound_elsewhere spoken other_with without_origin is_admitted after_admitting is_fetched speaking after_answer after_fetching after_hearing is_elsewhere admitted_verdict after_admitted report_verdict after_report
    drawop_verdict is_forged_drawop is_firm_beside is_ahead is_over is_wide leaves_holes with_given without_name held_verdict after_held is_repaired after_repair stranger_verdict after_stranger missed_verdict
lacks_it = refl

asks_it : (timers_at (judged_at numbers told 0) missing).ask ≡ Some ask
unfolding random_started word_of after_word words.started report_of gaps_of pages_of near_names leaps_on turns_on after_kept_line sent_by_kept_line
    verdict_on judge_after answers is_known known_from is_bound_elsewhere spoken other_with without_origin is_admitted after_admitting is_fetched speaking after_answer after_fetching after_hearing is_elsewhere admitted_verdict after_admitted report_verdict after_report
    drawop_verdict is_forged_drawop is_firm_beside is_ahead is_over is_wide leaves_holes with_given without_name held_verdict after_held is_repaired after_repair stranger_verdict after_stranger missed_verdict
asks_it = refl

moment_there : present (judged_at numbers told 0).kept.host ≡ 4100000
unfolding random_started word_of after_word words.started report_of gaps_of pages_of near_names leaps_on turns_on after_kept_line sent_by_kept_line
    verdict_on judge_after answers is_known known_from is_bound_elsewhere spoken other_with without_origin is_admitted after_admitting is_fetched speaking after_answer after_fetching after_hearing is_elsewhere admitted_verdict after_admitted report_verdict after_report
    drawop_verdict is_forged_drawop is_firm_beside is_ahead is_over is_wide leaves_holes with_given without_name held_verdict after_held is_repaired after_repair stranger_verdict after_stranger missed_verdict
moment_there = refl

knows_then : knows (origin_of 1) 4100001 (judged_at numbers told 0).judge ≡ true
unfolding random_started word_of after_word words.started report_of gaps_of pages_of near_names leaps_on turns_on after_kept_line sent_by_kept_line
    verdict_on judge_after answers is_known known_from is_bound_elsewhere spoken other_with without_origin is_admitted after_admitting is_fetched speaking after_answer after_fetching after_hearing is_elsewhere admitted_verdict after_admitted report_verdict after_report
    drawop_verdict is_forged_drawop is_firm_beside is_ahead is_over is_wide leaves_holes with_given without_name held_verdict after_held is_repaired after_repair stranger_verdict after_stranger missed_verdict
knows_then = refl

firm_there : is_firm missing 4100001 (judged_at numbers told 0).judge ≡ true
unfolding random_started word_of after_word words.started report_of gaps_of pages_of near_names leaps_on turns_on after_kept_line sent_by_kept_line
    verdict_on judge_after answers is_known known_from is_bound_elsewhere spoken other_with without_origin is_admitted after_admitting is_fetched speaking after_answer after_fetching after_hearing is_elsewhere admitted_verdict after_admitted report_verdict after_report
    drawop_verdict is_forged_drawop is_firm_beside is_ahead is_over is_wide leaves_holes with_given without_name held_verdict after_held is_repaired after_repair stranger_verdict after_stranger missed_verdict
firm_there = refl

told_taken : AreTaken numbers (put_off ++ told)
unfolding random_started word_of after_word words.started report_of gaps_of pages_of near_names leaps_on turns_on after_kept_line sent_by_kept_line
    verdict_on judge_after answers is_known known_from is_bound_elsewhere spoken other_with without_origin is_admitted after_admitting is_fetched speaking after_answer after_fetching after_hearing is_elsewhere admitted_verdict after_admitted report_verdict after_report
    drawop_verdict is_forged_drawop is_firm_beside is_ahead is_over is_wide leaves_holes with_given without_name held_verdict after_held is_repaired after_repair stranger_verdict after_stranger missed_verdict
told_taken = (omega arith, (omega arith, (omega arith, (omega arith, (omega arith, (omega arith, (omega arith, ((is_opening 2, tt), ((is_opening 1, tt), tt)))))))))

sends_request : sends_in (events_of (Passed ask.due Nothing) (judged_at numbers (put_off ++ told) 0)) ≡ Request 10 missing ∷ []
unfolding random_started word_of after_word words.started report_of gaps_of pages_of near_names leaps_on turns_on after_kept_line sent_by_kept_line
    verdict_on judge_after answers is_known known_from is_bound_elsewhere spoken other_with without_origin is_admitted after_admitting is_fetched speaking after_answer after_fetching after_hearing is_elsewhere admitted_verdict after_admitted report_verdict after_report
    drawop_verdict is_forged_drawop is_firm_beside is_ahead is_over is_wide leaves_holes with_given without_name held_verdict after_held is_repaired after_repair stranger_verdict after_stranger missed_verdict
sends_request = refl

-- ---- both

pub it_repairs : RepairsAllTheSame
it_repairs = record {
  taken = all_taken;
  known = knows_it;
  waits = record { held = subst (λ (ds : List DrawopValue). Contains ds drawing) (sym holds_it) (Contains-here drawing []); timer = is_timed; ahead = let here = is_here in omega (arith, here) };
  firm = ((λ place lt. firm_then), tt);
  repairs = subst (λ (vs : List Datagram). Contains vs (Draw drawing)) (sym sends_all) (Contains-here (Draw drawing) []);
}

pub it_requests : RequestsAllTheSame
it_requests = record {
  taken = told_taken;
  known = knows_then;
  waits = record { lacks = lacks_it; timer = asks_it; ahead = let here = moment_there in omega (arith, here) };
  firm = ((λ place lt. firm_there), tt);
  requests = subst (λ (vs : List Datagram). Contains vs (Request 10 missing)) (sym sends_request) (Contains-here (Request 10 missing) []);
}
