-- The example in which two members meet computes, and keeps to what is asked of members that stay known.
use Rattle.std.proofs.Common.{◌≡◌, ◌≤◌, ◌<◌, ◌+◌, ℕ, true, false, List, [], ◌∷◌, ◌++◌, append-nil, append_assoc, arith, filter, inl, length, refl, subst, sym, ⊎_elim}
use Rattle.std.specs.Prelude.{◌≢◌, Contains, Some, is_some}
use Rattle.wb_names.proofs.Listings.{Contains-cases, Contains-here, Contains-none, Contains-there}
use Rattle.wb_codec.specs.declared.datagram.Datagram.{Datagram}
use Rattle.wb_codec.specs.declared.datagram.Datagram.TheVariants.{AskPages}
use Rattle.wb_gaps.specs.Answers.{gaps_of, pages_of, report_of}
use Rattle.wb_judge.specs.Answers.{answers}
use Rattle.wb_judge.specs.Judging.{admitted_verdict, after_admitted, after_admitting, after_answer, after_fetching, after_hearing, after_report, is_admitted, is_elsewhere, is_fetched, report_verdict, speaking}
use Rattle.wb_judge.specs.Known.{is_known, known_from}
use Rattle.wb_judge.specs.Laws.{is_answer, speaker_in}
use Rattle.wb_judge.specs.Members.{IsFit}
use Rattle.wb_judge.specs.Others.{is_bound_elsewhere, other_of, other_with, spoken}
use Rattle.wb_judge.specs.Strange.{without_origin}
use Rattle.wb_judge.specs.declared.limits.TheConstants.{MOST_KNOWN, MOST_OTHERS}
use Rattle.wb_judge.specs.declared.origin.Origin.{Origin}
use Rattle.wb_progress.specs.Turns.{IsNowAt, settled_by}
use Rattle.wb_member.specs.Judged.{is_full}
use Rattle.wb_member.specs.Opened.{present}
use Rattle.wb_member.specs.Random.{after_word, started as random_started, word_of}
use Rattle.wb_policy.specs.Choices.{near_names}
use Rattle.wb_policy.specs.Words as words
use Rattle.wb_keeping.specs.Kept.{leaps_on, turns_on}
use Rattle.wb_keeping.specs.Laws.{Came}
use Rattle.wb_keeping.specs.Performing.{due}
use Rattle.wb_judging.specs.Handing.{facts_of, handed, judge_after, verdict_on}
use Rattle.wb_judging.specs.declared.call.Call.{Call}
use Rattle.wb_judging.specs.declared.call.Call.TheVariants.{CameFrom, Held, Passed, UserDrew}
use Rattle.wb_judging.specs.declared.news.News.TheVariants.{Gone, Nothing}
use Rattle.wb_judging.specs.Laws.{sends_in}
use Rattle.wb_judging.specs.Performing.{after_kept_line, events_of, sent_by_kept_line}
use Rattle.wb_laws_kept.specs.Openings.{IsOpening, opened_host}
use Rattle.wb_laws_machines.specs.Honest.{AreApart}
use Rattle.wb_laws_sessions.proofs.Sending.{one_of}
use Rattle.wb_judged_sessions.specs.Examples.{at, numbers, start}
use Rattle.wb_judged_sessions.specs.Known.{ComeInTime, Comes, KnowEachOther}
use Rattle.wb_judged_sessions.specs.Knowing.{HasRoom, IsKnownSince, is_heard_since, is_known_since}
use Rattle.wb_judged_sessions.specs.Meeting.{HaveMet, again, answered, both_know, came_again, echo, one_knows, origin_of, reports, sent_again, terms, told_again}
use Rattle.wb_judged_sessions.specs.Calls.{JudgedCall, Starts, Takes}
use Rattle.wb_judged_sessions.specs.Sessions.{At, judged_at}
use Rattle.wb_judged_sessions.specs.Terms.{AreTaken}
use Rattle.wb_judged_sessions.specs.Timely.{AreFittingSince, IsNoStart, WasSentBy}
use Rattle.wb_judged_sessions.proofs.Staying.{known_since_earlier}
use Rattle.wb_kept_progress.specs.Timed.{AreInOrder, time_of}

-- ---- what they do

first : sends_in (events_of (Passed 2000000 Nothing) (judged_at numbers (at 1 1 (Starts (start 2 1) []) ∷ at 1 0 (Starts (start 1 1) []) ∷ []) 0)) ≡ AskPages 10 ∷ reports 10 2000000 [] ∷ []
unfolding random_started word_of after_word words.started report_of gaps_of pages_of near_names leaps_on turns_on after_kept_line sent_by_kept_line
    verdict_on judge_after answers is_known known_from is_bound_elsewhere spoken other_with without_origin is_admitted after_admitting is_fetched speaking after_answer after_fetching after_hearing is_elsewhere admitted_verdict after_admitted report_verdict after_report
first = refl

pub second : sends_in (events_of (CameFrom 2000001 (origin_of 0) (reports 10 2000000 [])) (judged_at numbers (at 2000000 0 (Takes (Passed 2000000 Nothing)) ∷ at 1 1 (Starts (start 2 1) []) ∷ at 1 0 (Starts (start 1 1) []) ∷ []) 1)) ≡ AskPages 11 ∷ reports 11 2000001 (echo 10 2000000 0 ∷ []) ∷ []
unfolding random_started word_of after_word words.started report_of gaps_of pages_of near_names leaps_on turns_on after_kept_line sent_by_kept_line
    verdict_on judge_after answers is_known known_from is_bound_elsewhere spoken other_with without_origin is_admitted after_admitting is_fetched speaking after_answer after_fetching after_hearing is_elsewhere admitted_verdict after_admitted report_verdict after_report
second = refl

third : sends_in (events_of (Passed 4000000 Nothing) (judged_at numbers one_knows 0)) ≡ AskPages 10 ∷ reports 10 4000000 (echo 11 2000001 1999998 ∷ []) ∷ []
unfolding random_started word_of after_word words.started report_of gaps_of pages_of near_names leaps_on turns_on after_kept_line sent_by_kept_line
    verdict_on judge_after answers is_known known_from is_bound_elsewhere spoken other_with without_origin is_admitted after_admitting is_fetched speaking after_answer after_fetching after_hearing is_elsewhere admitted_verdict after_admitted report_verdict after_report
third = refl

fourth : sends_in (events_of (Passed 5000000 Nothing) (judged_at numbers both_know 1)) ≡ again ∷ []
unfolding random_started word_of after_word words.started report_of gaps_of pages_of near_names leaps_on turns_on after_kept_line sent_by_kept_line
    verdict_on judge_after answers is_known known_from is_bound_elsewhere spoken other_with without_origin is_admitted after_admitting is_fetched speaking after_answer after_fetching after_hearing is_elsewhere admitted_verdict after_admitted report_verdict after_report
fourth = refl

one_known : is_known_since (origin_of 1) 2000002 (judged_at numbers both_know 0).judge.known ≡ true
unfolding random_started word_of after_word words.started report_of gaps_of pages_of near_names leaps_on turns_on after_kept_line sent_by_kept_line
    verdict_on judge_after answers is_known known_from is_bound_elsewhere spoken other_with without_origin is_admitted after_admitting is_fetched speaking after_answer after_fetching after_hearing is_elsewhere admitted_verdict after_admitted report_verdict after_report
one_known = refl

one_heard : is_heard_since (origin_of 1) 2000002 (other_of 11 (judged_at numbers both_know 0).judge.others) ≡ true
unfolding random_started word_of after_word words.started report_of gaps_of pages_of near_names leaps_on turns_on after_kept_line sent_by_kept_line
    verdict_on judge_after answers is_known known_from is_bound_elsewhere spoken other_with without_origin is_admitted after_admitting is_fetched speaking after_answer after_fetching after_hearing is_elsewhere admitted_verdict after_admitted report_verdict after_report
one_heard = refl

other_known : is_known_since (origin_of 0) 4000001 (judged_at numbers both_know 1).judge.known ≡ true
unfolding random_started word_of after_word words.started report_of gaps_of pages_of near_names leaps_on turns_on after_kept_line sent_by_kept_line
    verdict_on judge_after answers is_known known_from is_bound_elsewhere spoken other_with without_origin is_admitted after_admitting is_fetched speaking after_answer after_fetching after_hearing is_elsewhere admitted_verdict after_admitted report_verdict after_report
other_known = refl

other_heard : is_heard_since (origin_of 0) 4000001 (other_of 10 (judged_at numbers both_know 1).judge.others) ≡ true
unfolding random_started word_of after_word words.started report_of gaps_of pages_of near_names leaps_on turns_on after_kept_line sent_by_kept_line
    verdict_on judge_after answers is_known known_from is_bound_elsewhere spoken other_with without_origin is_admitted after_admitting is_fetched speaking after_answer after_fetching after_hearing is_elsewhere admitted_verdict after_admitted report_verdict after_report
other_heard = refl

knows_7 : length (judged_at numbers both_know 1).judge.known ≡ 1
unfolding random_started word_of after_word words.started report_of gaps_of pages_of near_names leaps_on turns_on after_kept_line sent_by_kept_line
    verdict_on judge_after answers is_known known_from is_bound_elsewhere spoken other_with without_origin is_admitted after_admitting is_fetched speaking after_answer after_fetching after_hearing is_elsewhere admitted_verdict after_admitted report_verdict after_report
knows_7 = refl

heard_7 : length (filter (λ x. is_some x.answered) (judged_at numbers both_know 1).judge.others) ≡ 1
unfolding random_started word_of after_word words.started report_of gaps_of pages_of near_names leaps_on turns_on after_kept_line sent_by_kept_line
    verdict_on judge_after answers is_known known_from is_bound_elsewhere spoken other_with without_origin is_admitted after_admitting is_fetched speaking after_answer after_fetching after_hearing is_elsewhere admitted_verdict after_admitted report_verdict after_report
heard_7 = refl

knows_8 : length (judged_at numbers sent_again 0).judge.known ≡ 1
unfolding random_started word_of after_word words.started report_of gaps_of pages_of near_names leaps_on turns_on after_kept_line sent_by_kept_line
    verdict_on judge_after answers is_known known_from is_bound_elsewhere spoken other_with without_origin is_admitted after_admitting is_fetched speaking after_answer after_fetching after_hearing is_elsewhere admitted_verdict after_admitted report_verdict after_report
knows_8 = refl

heard_8 : length (filter (λ x. is_some x.answered) (judged_at numbers sent_again 0).judge.others) ≡ 1
unfolding random_started word_of after_word words.started report_of gaps_of pages_of near_names leaps_on turns_on after_kept_line sent_by_kept_line
    verdict_on judge_after answers is_known known_from is_bound_elsewhere spoken other_with without_origin is_admitted after_admitting is_fetched speaking after_answer after_fetching after_hearing is_elsewhere admitted_verdict after_admitted report_verdict after_report
heard_8 = refl

knows_9 : length (judged_at numbers came_again 1).judge.known ≡ 1
unfolding random_started word_of after_word words.started report_of gaps_of pages_of near_names leaps_on turns_on after_kept_line sent_by_kept_line
    verdict_on judge_after answers is_known known_from is_bound_elsewhere spoken other_with without_origin is_admitted after_admitting is_fetched speaking after_answer after_fetching after_hearing is_elsewhere admitted_verdict after_admitted report_verdict after_report
knows_9 = refl

heard_9 : length (filter (λ x. is_some x.answered) (judged_at numbers came_again 1).judge.others) ≡ 1
unfolding random_started word_of after_word words.started report_of gaps_of pages_of near_names leaps_on turns_on after_kept_line sent_by_kept_line
    verdict_on judge_after answers is_known known_from is_bound_elsewhere spoken other_with without_origin is_admitted after_admitting is_fetched speaking after_answer after_fetching after_hearing is_elsewhere admitted_verdict after_admitted report_verdict after_report
heard_9 = refl

now_2 : present (judged_at numbers (at 1 1 (Starts (start 2 1) []) ∷ at 1 0 (Starts (start 1 1) []) ∷ []) 0).kept.host ≡ 1
unfolding random_started word_of after_word words.started report_of gaps_of pages_of near_names leaps_on turns_on after_kept_line sent_by_kept_line
    verdict_on judge_after answers is_known known_from is_bound_elsewhere spoken other_with without_origin is_admitted after_admitting is_fetched speaking after_answer after_fetching after_hearing is_elsewhere admitted_verdict after_admitted report_verdict after_report
now_2 = refl

now_3 : present (judged_at numbers (at 2000000 0 (Takes (Passed 2000000 Nothing)) ∷ at 1 1 (Starts (start 2 1) []) ∷ at 1 0 (Starts (start 1 1) []) ∷ []) 1).kept.host ≡ 1
unfolding random_started word_of after_word words.started report_of gaps_of pages_of near_names leaps_on turns_on after_kept_line sent_by_kept_line
    verdict_on judge_after answers is_known known_from is_bound_elsewhere spoken other_with without_origin is_admitted after_admitting is_fetched speaking after_answer after_fetching after_hearing is_elsewhere admitted_verdict after_admitted report_verdict after_report
now_3 = refl

now_4 : present (judged_at numbers answered 0).kept.host ≡ 2000000
unfolding random_started word_of after_word words.started report_of gaps_of pages_of near_names leaps_on turns_on after_kept_line sent_by_kept_line
    verdict_on judge_after answers is_known known_from is_bound_elsewhere spoken other_with without_origin is_admitted after_admitting is_fetched speaking after_answer after_fetching after_hearing is_elsewhere admitted_verdict after_admitted report_verdict after_report
now_4 = refl

now_5 : present (judged_at numbers one_knows 0).kept.host ≡ 2000002
unfolding random_started word_of after_word words.started report_of gaps_of pages_of near_names leaps_on turns_on after_kept_line sent_by_kept_line
    verdict_on judge_after answers is_known known_from is_bound_elsewhere spoken other_with without_origin is_admitted after_admitting is_fetched speaking after_answer after_fetching after_hearing is_elsewhere admitted_verdict after_admitted report_verdict after_report
now_5 = refl

now_6 : present (judged_at numbers (at 4000000 0 (Takes (Passed 4000000 Nothing)) ∷ one_knows) 1).kept.host ≡ 2000001
unfolding random_started word_of after_word words.started report_of gaps_of pages_of near_names leaps_on turns_on after_kept_line sent_by_kept_line
    verdict_on judge_after answers is_known known_from is_bound_elsewhere spoken other_with without_origin is_admitted after_admitting is_fetched speaking after_answer after_fetching after_hearing is_elsewhere admitted_verdict after_admitted report_verdict after_report
now_6 = refl

now_7 : present (judged_at numbers both_know 1).kept.host ≡ 4000001
unfolding random_started word_of after_word words.started report_of gaps_of pages_of near_names leaps_on turns_on after_kept_line sent_by_kept_line
    verdict_on judge_after answers is_known known_from is_bound_elsewhere spoken other_with without_origin is_admitted after_admitting is_fetched speaking after_answer after_fetching after_hearing is_elsewhere admitted_verdict after_admitted report_verdict after_report
now_7 = refl

now_8 : present (judged_at numbers sent_again 0).kept.host ≡ 4000000
unfolding random_started word_of after_word words.started report_of gaps_of pages_of near_names leaps_on turns_on after_kept_line sent_by_kept_line
    verdict_on judge_after answers is_known known_from is_bound_elsewhere spoken other_with without_origin is_admitted after_admitting is_fetched speaking after_answer after_fetching after_hearing is_elsewhere admitted_verdict after_admitted report_verdict after_report
now_8 = refl

now_9 : present (judged_at numbers came_again 1).kept.host ≡ 5000000
unfolding random_started word_of after_word words.started report_of gaps_of pages_of near_names leaps_on turns_on after_kept_line sent_by_kept_line
    verdict_on judge_after answers is_known known_from is_bound_elsewhere spoken other_with without_origin is_admitted after_admitting is_fetched speaking after_answer after_fetching after_hearing is_elsewhere admitted_verdict after_admitted report_verdict after_report
now_9 = refl

due_7_0 : due (judged_at numbers both_know 0).kept ≡ 5007812
unfolding random_started word_of after_word words.started report_of gaps_of pages_of near_names leaps_on turns_on after_kept_line sent_by_kept_line
    verdict_on judge_after answers is_known known_from is_bound_elsewhere spoken other_with without_origin is_admitted after_admitting is_fetched speaking after_answer after_fetching after_hearing is_elsewhere admitted_verdict after_admitted report_verdict after_report
due_7_0 = refl

due_7_1 : due (judged_at numbers both_know 1).kept ≡ 4891718
unfolding random_started word_of after_word words.started report_of gaps_of pages_of near_names leaps_on turns_on after_kept_line sent_by_kept_line
    verdict_on judge_after answers is_known known_from is_bound_elsewhere spoken other_with without_origin is_admitted after_admitting is_fetched speaking after_answer after_fetching after_hearing is_elsewhere admitted_verdict after_admitted report_verdict after_report
due_7_1 = refl

due_8_0 : due (judged_at numbers sent_again 0).kept ≡ 5007812
unfolding random_started word_of after_word words.started report_of gaps_of pages_of near_names leaps_on turns_on after_kept_line sent_by_kept_line
    verdict_on judge_after answers is_known known_from is_bound_elsewhere spoken other_with without_origin is_admitted after_admitting is_fetched speaking after_answer after_fetching after_hearing is_elsewhere admitted_verdict after_admitted report_verdict after_report
due_8_0 = refl

due_8_1 : due (judged_at numbers sent_again 1).kept ≡ 5007813
unfolding random_started word_of after_word words.started report_of gaps_of pages_of near_names leaps_on turns_on after_kept_line sent_by_kept_line
    verdict_on judge_after answers is_known known_from is_bound_elsewhere spoken other_with without_origin is_admitted after_admitting is_fetched speaking after_answer after_fetching after_hearing is_elsewhere admitted_verdict after_admitted report_verdict after_report
due_8_1 = refl

due_9_0 : due (judged_at numbers came_again 0).kept ≡ 5007812
unfolding random_started word_of after_word words.started report_of gaps_of pages_of near_names leaps_on turns_on after_kept_line sent_by_kept_line
    verdict_on judge_after answers is_known known_from is_bound_elsewhere spoken other_with without_origin is_admitted after_admitting is_fetched speaking after_answer after_fetching after_hearing is_elsewhere admitted_verdict after_admitted report_verdict after_report
due_9_0 = refl

due_9_1 : due (judged_at numbers came_again 1).kept ≡ 5007813
unfolding random_started word_of after_word words.started report_of gaps_of pages_of near_names leaps_on turns_on after_kept_line sent_by_kept_line
    verdict_on judge_after answers is_known known_from is_bound_elsewhere spoken other_with without_origin is_admitted after_admitting is_fetched speaking after_answer after_fetching after_hearing is_elsewhere admitted_verdict after_admitted report_verdict after_report
due_9_1 = refl

free_8_0 : is_full (judged_at numbers sent_again 0).kept.host ≡ false
unfolding random_started word_of after_word words.started report_of gaps_of pages_of near_names leaps_on turns_on after_kept_line sent_by_kept_line
    verdict_on judge_after answers is_known known_from is_bound_elsewhere spoken other_with without_origin is_admitted after_admitting is_fetched speaking after_answer after_fetching after_hearing is_elsewhere admitted_verdict after_admitted report_verdict after_report
free_8_0 = refl

free_8_1 : is_full (judged_at numbers sent_again 1).kept.host ≡ false
unfolding random_started word_of after_word words.started report_of gaps_of pages_of near_names leaps_on turns_on after_kept_line sent_by_kept_line
    verdict_on judge_after answers is_known known_from is_bound_elsewhere spoken other_with without_origin is_admitted after_admitting is_fetched speaking after_answer after_fetching after_hearing is_elsewhere admitted_verdict after_admitted report_verdict after_report
free_8_1 = refl

free_9_0 : is_full (judged_at numbers came_again 0).kept.host ≡ false
unfolding random_started word_of after_word words.started report_of gaps_of pages_of near_names leaps_on turns_on after_kept_line sent_by_kept_line
    verdict_on judge_after answers is_known known_from is_bound_elsewhere spoken other_with without_origin is_admitted after_admitting is_fetched speaking after_answer after_fetching after_hearing is_elsewhere admitted_verdict after_admitted report_verdict after_report
free_9_0 = refl

free_9_1 : is_full (judged_at numbers came_again 1).kept.host ≡ false
unfolding random_started word_of after_word words.started report_of gaps_of pages_of near_names leaps_on turns_on after_kept_line sent_by_kept_line
    verdict_on judge_after answers is_known known_from is_bound_elsewhere spoken other_with without_origin is_admitted after_admitting is_fetched speaking after_answer after_fetching after_hearing is_elsewhere admitted_verdict after_admitted report_verdict after_report
free_9_1 = refl

free_10_0 : is_full (judged_at numbers told_again 0).kept.host ≡ false
unfolding random_started word_of after_word words.started report_of gaps_of pages_of near_names leaps_on turns_on after_kept_line sent_by_kept_line
    verdict_on judge_after answers is_known known_from is_bound_elsewhere spoken other_with without_origin is_admitted after_admitting is_fetched speaking after_answer after_fetching after_hearing is_elsewhere admitted_verdict after_admitted report_verdict after_report
free_10_0 = refl

free_10_1 : is_full (judged_at numbers told_again 1).kept.host ≡ false
unfolding random_started word_of after_word words.started report_of gaps_of pages_of near_names leaps_on turns_on after_kept_line sent_by_kept_line
    verdict_on judge_after answers is_known known_from is_bound_elsewhere spoken other_with without_origin is_admitted after_admitting is_fetched speaking after_answer after_fetching after_hearing is_elsewhere admitted_verdict after_admitted report_verdict after_report
free_10_1 = refl

fine : let h = judged_at numbers sent_again 0 in IsFit (origin_of 1) again (facts_of 5000001 again h.kept) h.judge
unfolding random_started word_of after_word words.started report_of gaps_of pages_of near_names leaps_on turns_on after_kept_line sent_by_kept_line
    verdict_on judge_after answers is_known known_from is_bound_elsewhere spoken other_with without_origin is_admitted after_admitting is_fetched speaking after_answer after_fetching after_hearing is_elsewhere admitted_verdict after_admitted report_verdict after_report
fine = refl

begins_0 : present (opened_host 10 (start 1 1).opening) ≡ 1
unfolding random_started word_of after_word words.started report_of gaps_of pages_of near_names leaps_on turns_on after_kept_line sent_by_kept_line
    verdict_on judge_after answers is_known known_from is_bound_elsewhere spoken other_with without_origin is_admitted after_admitting is_fetched speaking after_answer after_fetching after_hearing is_elsewhere admitted_verdict after_admitted report_verdict after_report
begins_0 = refl

begins_1 : present (opened_host 11 (start 2 1).opening) ≡ 1
unfolding random_started word_of after_word words.started report_of gaps_of pages_of near_names leaps_on turns_on after_kept_line sent_by_kept_line
    verdict_on judge_after answers is_known known_from is_bound_elsewhere spoken other_with without_origin is_admitted after_admitting is_fetched speaking after_answer after_fetching after_hearing is_elsewhere admitted_verdict after_admitted report_verdict after_report
begins_1 = refl

-- ---- each call

-- what is so of each call, with the newer ones and the older ones
abbrev EachCall : (List (At JudgedCall) → At JudgedCall → List (At JudgedCall) → Type 0) → List (At JudgedCall) → List (At JudgedCall) → Type 0
EachCall P newer [] = Unit {0}
EachCall P newer (e ∷ older) = P newer e older × EachCall P (newer ++ e ∷ []) older

of_split : (P : List (At JudgedCall) → At JudgedCall → List (At JudgedCall) → Type 0) (front calls newer older : List (At JudgedCall)) (e : At JudgedCall) → calls ≡ newer ++ e ∷ older → EachCall P front calls
    → P (front ++ newer) e older
of_split P front [] [] older e split each = absurd cc
of_split P front [] (x ∷ newer) older e split each = absurd cc
of_split P front (y ∷ calls) [] older e split each = subst (λ (cs : List (At JudgedCall)). P cs e older) (sym (append-nil front)) (subst Head split each.0) where
  Head : List (At JudgedCall) → Type 0
  Head [] = Unit {0}
  Head (x ∷ cs) = P front x cs
of_split P front (y ∷ calls) (x ∷ newer) older e split each =
    let tails : calls ≡ newer ++ e ∷ older = cc in
    let heads : y ≡ x = cc in
    subst (λ (cs : List (At JudgedCall)). P cs e older) (append_assoc front (x ∷ []) newer)
    (of_split P (front ++ x ∷ []) calls newer older e tails (subst (λ (z : At JudgedCall). EachCall P (front ++ z ∷ []) calls) heads each.1))

at_each : (P : List (At JudgedCall) → At JudgedCall → List (At JudgedCall) → Type 0) → EachCall P [] told_again → (newer older : List (At JudgedCall)) (e : At JudgedCall) → told_again ≡ newer ++ e ∷ older → P newer e older
at_each P each newer older e split = of_split P [] told_again newer older e split each

abbrev third_last : At JudgedCall
third_last = at 5000000 1 (Takes (Passed 5000000 Nothing))

abbrev second_last : At JudgedCall
second_last = at 5000001 0 (Takes (CameFrom 5000001 (origin_of 1) again))

abbrev last : At JudgedCall
last = at 5000002 1 (Takes (Passed 5000002 Nothing))

late_calls : (P : List (At JudgedCall) → At JudgedCall → List (At JudgedCall) → Type 0) → P [] last came_again → P (last ∷ []) second_last sent_again → P (last ∷ second_last ∷ []) third_last both_know
    → ((newer : List (At JudgedCall)) (e : At JudgedCall) (older : List (At JudgedCall)) → e.time ≤ 4000001 → P newer e older) → EachCall P [] told_again
late_calls P a b c rest = (
  a,
  (
    b,
    (
      c,
      (
        rest _ _ _ (omega arith),
        (rest _ _ _ (omega arith), (rest _ _ _ (omega arith), (rest _ _ _ (omega arith), (rest _ _ _ (omega arith), (rest _ _ _ (omega arith), (rest _ _ _ (omega arith), tt)))))),
      ),
    ),
  ),
)

at_late : (P : List (At JudgedCall) → At JudgedCall → List (At JudgedCall) → Type 0) → P [] last came_again → P (last ∷ []) second_last sent_again → P (last ∷ second_last ∷ []) third_last both_know
    → ((newer : List (At JudgedCall)) (e : At JudgedCall) (older : List (At JudgedCall)) → e.time ≤ 4000001 → P newer e older)
    → (newer older : List (At JudgedCall)) (e : At JudgedCall) → told_again ≡ newer ++ e ∷ older → P newer e older
at_late P a b c rest newer older e split = at_each P (late_calls P a b c rest) newer older e split

-- ---- two places

by_place : (P : ℕ → Type 0) → P 0 → P 1 → (i : ℕ) → Contains terms.live i → P i
by_place P a b i live = ⊎_elim
    (λ (is : 0 ≡ i). subst P is a)
    (λ (later : Contains (1 ∷ []) i). ⊎_elim (λ (is : 1 ≡ i). subst P is b) (λ (none : Contains [] i). absurd (Contains-none i none)) (Contains-cases 1 i [] later))
    (Contains-cases 0 i (1 ∷ []) live)

live_0 : Contains terms.live 0
live_0 = Contains-here 0 (1 ∷ [])

live_1 : Contains terms.live 1
live_1 = Contains-there 0 1 (1 ∷ []) (Contains-here 1 [])

-- ---- what is asked of any such session

apart : AreApart numbers
apart i j same = omega (arith, same)

pub is_opening : (seed moment : ℕ) → IsOpening (start seed moment).opening
is_opening seed moment = record { moments = (omega arith, tt); in_range = refl; small = omega arith }

pub all_taken : AreTaken numbers told_again
all_taken = (
  omega (arith, now_9),
  (
    omega (arith, now_8),
    (
      omega (arith, now_7),
      (omega (arith, now_6), (omega (arith, now_5), (omega (arith, now_4), (omega (arith, now_3), (omega (arith, now_2), ((is_opening 2 1, tt), ((is_opening 1 1, tt), tt))))))),
    ),
  ),
)

in_order : AreInOrder told_again
in_order = (omega arith, (omega arith, (omega arith, (omega arith, (omega arith, (omega arith, (omega arith, (omega arith, (omega arith, (omega arith, tt))))))))))

now_is : (time i : ℕ) → IsNowAt terms time i time
now_is time i = record { not_ahead = omega arith; not_behind = omega arith }

fit_0 : AreFittingSince terms numbers 0 told_again
fit_0 = (
  now_is 5000001 0,
  (now_is 4000000 0, (now_is 2000002 0, (now_is 2000000 0, (omega arith, record { not_ahead = omega (arith, begins_0); not_behind = omega (arith, begins_0) }, (omega arith, omega arith))))),
)

fit_1 : AreFittingSince terms numbers 1 told_again
fit_1 = (
  now_is 5000002 1,
  (now_is 5000000 1, (now_is 4000001 1, (now_is 2000001 1, (omega arith, record { not_ahead = omega (arith, begins_1); not_behind = omega (arith, begins_1) }, (omega arith, omega arith))))),
)

came_one : (now : ℕ) (o : Origin) (v : Datagram) → Takes (CameFrom 5000001 (origin_of 1) again) ≡ Takes (CameFrom now o v) → (origin_of 1 ≡ o) × (again ≡ v)
came_one now o v same = (cc, cc)

line_one : (line : Call) → Takes (Passed 5000000 Nothing) ≡ Takes line → Passed 5000000 Nothing ≡ line
line_one line same = cc

comes_again : Comes numbers (origin_of 1) (last ∷ second_last ∷ []) (third_last ∷ both_know) 0 5000001 again
comes_again = record { later = last ∷ []; call = second_last; between = []; split = refl; place = refl; soon = omega arith; now = 5000001; is = refl; fit = fine }

was_sent : WasSentBy numbers sent_again 5000001 1 again
was_sent = record {
  newer = [];
  e = third_last;
  before = both_know;
  split = refl;
  soon = omega arith;
  line = Passed 5000000 Nothing;
  call = refl;
  sent = subst (λ (vs : List Datagram). Contains vs again) (sym fourth) (Contains-here again []);
}

abbrev Sends : At JudgedCall → List (At JudgedCall) → Call → Datagram → Type 0
Sends e older line v = Contains (sends_in (events_of line (judged_at numbers older e.place))) v

they_come : ComeInTime numbers (λ j i. origin_of i) terms told_again
they_come = record {
  apart = apart;
  taken = all_taken;
  order = in_order;
  covered = omega arith;
  delays = inl (omega arith);
  fitting = by_place (λ i. AreFittingSince terms numbers i told_again) fit_0 fit_1;
  alone = at_late (λ newer e older. terms.quiet < e.time → Contains terms.live e.place × IsNoStart e.event) (λ late. (live_1, tt)) (λ late. (live_0, tt)) (λ late. (live_1, tt))
      (λ newer e older le late. absurd (omega (arith, le, late)));
  drawn = λ newer older e now page op split.
      at_late (λ newer e older. terms.quiet < e.time → e.event ≢ Takes (UserDrew now page op)) (λ late same. absurd cc) (λ late same. absurd cc) (λ late same. absurd cc)
      (λ newer e older le late. absurd (omega (arith, le, late))) newer older e split;
  recalled = λ newer older e line split.
      at_late (λ newer e older. terms.quiet < e.time → e.event ≢ Takes (Held line)) (λ late same. absurd cc) (λ late same. absurd cc) (λ late same. absurd cc)
      (λ newer e older le late. absurd (omega (arith, le, late))) newer older e split;
  soon = λ newer older e i split live.
      at_late (λ newer e older. terms.quiet < e.time → e.time ≤ due (judged_at numbers older i).kept + (terms.lag i + terms.late))
      (λ late. by_place (λ i. 5000002 ≤ due (judged_at numbers came_again i).kept + 1000000) (omega (arith, due_9_0)) (omega (arith, due_9_1)) i live)
      (λ late. by_place (λ i. 5000001 ≤ due (judged_at numbers sent_again i).kept + 1000000) (omega (arith, due_8_0)) (omega (arith, due_8_1)) i live)
      (λ late. by_place (λ i. 5000000 ≤ due (judged_at numbers both_know i).kept + 1000000) (omega (arith, due_7_0)) (omega (arith, due_7_1)) i live)
      (λ newer e older le late. absurd (omega (arith, le, late))) newer older e split;
  room = free;
  delivered = λ newer older e line j v split.
      at_late (λ newer e older. e.event ≡ Takes line → Contains terms.live j → e.place ≢ j → terms.quiet < e.time → Sends e older line v → e.time + terms.delivery < time_of told_again
      → Comes numbers (origin_of e.place) newer (e ∷ older) j (e.time + terms.delivery) v)
      (λ takes live other late sent long. absurd (omega (arith, long)))
      (λ takes live other late sent long. absurd (omega (arith, long)))
      (λ takes live other late sent long.
      by_place (λ j. 1 ≢ j → Comes numbers (origin_of 1) (last ∷ second_last ∷ []) (third_last ∷ both_know) j 5000001 v)
      (λ other. subst (λ (w : Datagram). Comes numbers (origin_of 1) (last ∷ second_last ∷ []) (third_last ∷ both_know) 0 5000001 w) (is_again line v takes sent) comes_again) (λ other. absurd (other refl)) j live other)
      (λ newer e older le takes live other late. absurd (omega (arith, le, late))) newer older e split;
  fresh = λ newer older e now o v split.
      at_late (λ newer e older. settled_by terms < e.time → e.event ≡ Takes (CameFrom now o v) → handed (CameFrom now o v) (judged_at numbers older e.place) ≡ Came now v → WasSentBy numbers older e.time terms.delivery v)
      (λ late same lets. absurd cc) (λ late same lets. subst (WasSentBy numbers sent_again 5000001 1) (came_one now o v same).1 was_sent) (λ late same lets. absurd cc)
      (λ newer e older le late. absurd (omega (arith, le, late))) newer older e split;
} where
  is_again : (line : Call) (v : Datagram) → Takes (Passed 5000000 Nothing) ≡ Takes line → Contains (sends_in (events_of line (judged_at numbers both_know 1))) v → again ≡ v
  is_again line v takes sent =
      one_of again v
      (subst (λ (vs : List Datagram). Contains vs v) fourth (subst (λ (l : Call). Contains (sends_in (events_of l (judged_at numbers both_know 1))) v) (sym (line_one line takes)) sent))

  free : (newer older : List (At JudgedCall)) (i : ℕ) → told_again ≡ newer ++ older → Contains terms.live i → terms.quiet < time_of older → is_full (judged_at numbers older i).kept.host ≡ false
  free newer [] i split live late = absurd (omega (arith, late))
  free newer (e ∷ older) i split live late =
      at_late (λ newer e older. terms.quiet < e.time → is_full (judged_at numbers (e ∷ older) i).kept.host ≡ false)
      (λ late. by_place (λ i. is_full (judged_at numbers told_again i).kept.host ≡ false) free_10_0 free_10_1 i live)
      (λ late. by_place (λ i. is_full (judged_at numbers came_again i).kept.host ≡ false) free_9_0 free_9_1 i live)
      (λ late. by_place (λ i. is_full (judged_at numbers sent_again i).kept.host ≡ false) free_8_0 free_8_1 i live)
      (λ newer e older le late. absurd (omega (arith, le, late))) newer older e split late

-- ---- what is asked of members that know each other

few : (n most : ℕ) → n ≡ 1 → 1 < most → n < most
few n most is lt = omega (arith, is, lt)

some_known : 1 < MOST_KNOWN
some_known = small where
  small : 1 < 1024
  small = omega arith

some_others : 1 < MOST_OTHERS
some_others = small where
  small : 1 < 1024
  small = omega arith

one_knows_other : IsKnownSince (origin_of 1) 11 2000002 (judged_at numbers both_know 0).judge
one_knows_other = record { known = one_known; heard = one_heard }

other_knows_one : IsKnownSince (origin_of 0) 10 4000001 (judged_at numbers both_know 1).judge
other_knows_one = record { known = other_known; heard = other_heard }

known_before : IsKnownSince (origin_of 0) 10 2000002 (judged_at numbers both_know 1).judge
known_before = known_since_earlier (origin_of 0) 10 4000001 2000002 (judged_at numbers both_know 1).judge (omega arith) other_knows_one

abbrev Knows : ℕ → ℕ → Type 0
Knows i j = IsKnownSince (origin_of i) (numbers i) 2000002 (judged_at numbers both_know j).judge

they_know : KnowEachOther numbers (λ j i. origin_of i) terms 2000002 told_again
they_know = record {
  before = omega arith;
  lately = lately;
  known = λ i j live_i live_j other.
      by_place (λ i. (j : ℕ) → Contains terms.live j → i ≢ j → Knows i j)
      (λ j live other. by_place (λ j. 0 ≢ j → Knows 0 j) (λ other. absurd (other refl)) (λ other. known_before) j live other)
      (λ j live other. by_place (λ j. 1 ≢ j → Knows 1 j) (λ other. one_knows_other) (λ other. absurd (other refl)) j live other) i live_i j live_j other;
  fixed = λ newer older e now o v i split.
      at_late (λ newer e older. terms.quiet < e.time → e.event ≡ Takes (CameFrom now o v) → Contains terms.live i → i ≢ e.place → speaker_in v ≡ Some (numbers i)
      → is_answer v now (judged_at numbers older e.place).judge ≡ true → o ≡ origin_of i)
      (λ late same live other speaks answers. absurd cc)
      (λ late same live other speaks answers. by_place (λ i. i ≢ 0 → o ≡ origin_of i) (λ other. absurd (other refl)) (λ other. sym (came_one now o v same).0) i live other)
      (λ late same live other speaks answers. absurd cc)
      (λ newer e older le late. absurd (omega (arith, le, late))) newer older e split;
  stay = λ newer older e now o i split.
      at_late (λ newer e older. terms.quiet < e.time → e.event ≡ Takes (Passed now (Gone o)) → Contains terms.live i → i ≢ e.place → o ≢ origin_of i) (λ late same. absurd cc) (λ late same. absurd cc) (λ late same. absurd cc)
      (λ newer e older le late. absurd (omega (arith, le, late))) newer older e split;
  room = at_late (λ newer e older. terms.quiet < e.time → HasRoom (judged_at numbers older e.place).judge)
      (λ late. record { known = few _ _ knows_9 some_known; others = few _ _ heard_9 some_others })
      (λ late. record { known = few _ _ knows_8 some_known; others = few _ _ heard_8 some_others })
      (λ late. record { known = few _ _ knows_7 some_known; others = few _ _ heard_7 some_others })
      (λ newer e older le late. absurd (omega (arith, le, late)));
} where
  lately : 4000001 + 96000000 + 1000000 + 1 + 0 ≤ 2000002 + 192000000
  lately = omega arith

pub they_have_met : HaveMet
they_have_met = record {
  first = first;
  second = second;
  third = third;
  one = one_knows_other;
  other = other_knows_one;
  come = they_come;
  know = they_know;
}
