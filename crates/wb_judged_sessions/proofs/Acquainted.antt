-- The examples of members and twins that answer each other compute, and keep to what is asked of them.
use Rattle.std.proofs.Common.{◌≡◌, ℕ, true, false, List, [], ◌∷◌, arith, refl, subst, sym}
use Rattle.std.specs.Prelude.{Contains, Some, nat_eq}
use Rattle.std.specs.List.{list_any}
use Rattle.wb_names.proofs.Listings.{Contains-here, Contains-there}
use Rattle.wb_codec.specs.declared.datagram.Datagram.TheVariants.{AskPages}
use Rattle.wb_gaps.specs.Answers.{gaps_of, pages_of, report_of}
use Rattle.wb_judge.specs.Answers.{answers}
use Rattle.wb_judge.specs.Judge.{is_forged}
use Rattle.wb_judge.specs.Judging.{admitted_verdict, after_admitted, after_admitting, after_answer, after_fetching, after_hearing, after_own, after_report, is_admitted, is_elsewhere, is_fetched, own_verdict, report_verdict, speaking}
use Rattle.wb_judge.specs.Known.{is_known, known_from}
use Rattle.wb_judge.specs.Members.{IsFit}
use Rattle.wb_judge.specs.Others.{is_bound_elsewhere, other_with, spoken}
use Rattle.wb_judge.specs.Strange.{without_origin}
use Rattle.wb_member.specs.Opened.{present}
use Rattle.wb_member.specs.Random.{after_word, started as random_started, word_of}
use Rattle.wb_policy.specs.Choices.{near_names}
use Rattle.wb_policy.specs.Words as words
use Rattle.wb_keeping.specs.Kept.{leaps_on, turns_on}
use Rattle.wb_judging.specs.Handing.{facts_of, judge_after, verdict_on}
use Rattle.wb_judging.specs.declared.call.Call.TheVariants.{CameFrom, Passed}
use Rattle.wb_judging.specs.declared.news.News.TheVariants.{Nothing}
use Rattle.wb_judging.specs.Laws.{sends_in}
use Rattle.wb_judging.specs.Performing.{after_kept_line, events_of, sent_by_kept_line}
use Rattle.wb_judged_sessions.specs.Answering.{HasRoomFor, IsInTime, IsSentAfter, last_taken}
use Rattle.wb_judged_sessions.specs.Examples.{at, numbers, start}
use Rattle.wb_judged_sessions.specs.Meeting.{answered, echo, no_page, origin_of, reports}
use Rattle.wb_judged_sessions.specs.Acquainted.{IsAnswered, TwinsHaveMet, answer, first_report, one_answers, one_sees, second_answer, second_report, twins}
use Rattle.wb_judged_sessions.specs.Calls.{Starts, Takes}
use Rattle.wb_judged_sessions.specs.Sessions.{judged_at}
use Rattle.wb_judged_sessions.specs.Terms.{AreTaken}
use Rattle.wb_judged_sessions.specs.Twins.{IsOfTwin, RemembersTwin}
use Rattle.wb_judged_sessions.proofs.Answered.{they_come_to_know}
use Rattle.wb_judged_sessions.proofs.Meeting.{all_taken, is_opening, second}
use Rattle.wb_judged_sessions.proofs.Twins.{twins_see}

-- ---- what two members do

last : last_taken numbers 10 1 answered ≡ Some first_report
unfolding random_started word_of after_word words.started report_of gaps_of pages_of near_names leaps_on turns_on after_kept_line sent_by_kept_line
    verdict_on judge_after answers is_known known_from is_bound_elsewhere spoken other_with without_origin is_admitted after_admitting is_fetched speaking after_answer after_fetching after_hearing is_elsewhere admitted_verdict after_admitted report_verdict after_report own_verdict after_own
last = refl

own : (judged_at numbers answered 0).judge.own ≡ 2000000 ∷ []
unfolding random_started word_of after_word words.started report_of gaps_of pages_of near_names leaps_on turns_on after_kept_line sent_by_kept_line
    verdict_on judge_after answers is_known known_from is_bound_elsewhere spoken other_with without_origin is_admitted after_admitting is_fetched speaking after_answer after_fetching after_hearing is_elsewhere admitted_verdict after_admitted report_verdict after_report own_verdict after_own
own = refl

owned : is_forged 11 (origin_of 1) (judged_at numbers answered 0).judge ≡ false
unfolding random_started word_of after_word words.started report_of gaps_of pages_of near_names leaps_on turns_on after_kept_line sent_by_kept_line
    verdict_on judge_after answers is_known known_from is_bound_elsewhere spoken other_with without_origin is_admitted after_admitting is_fetched speaking after_answer after_fetching after_hearing is_elsewhere admitted_verdict after_admitted report_verdict after_report own_verdict after_own
owned = refl

admitted : is_admitted (origin_of 1) 11 true 2000002 (judged_at numbers answered 0).judge ≡ true
unfolding random_started word_of after_word words.started report_of gaps_of pages_of near_names leaps_on turns_on after_kept_line sent_by_kept_line
    verdict_on judge_after answers is_known known_from is_bound_elsewhere spoken other_with without_origin is_admitted after_admitting is_fetched speaking after_answer after_fetching after_hearing is_elsewhere admitted_verdict after_admitted report_verdict after_report own_verdict after_own
admitted = refl

fine : let h = judged_at numbers answered 0 in IsFit (origin_of 1) (answer 11) (facts_of 2000002 (answer 11) h.kept) h.judge
unfolding random_started word_of after_word words.started report_of gaps_of pages_of near_names leaps_on turns_on after_kept_line sent_by_kept_line
    verdict_on judge_after answers is_known known_from is_bound_elsewhere spoken other_with without_origin is_admitted after_admitting is_fetched speaking after_answer after_fetching after_hearing is_elsewhere admitted_verdict after_admitted report_verdict after_report own_verdict after_own
fine = refl

answered_taken : AreTaken numbers answered
answered_taken = all_taken.1.1.1.1.1.1

among : {X : Type 0} (x y : X) (xs : List X) → xs ≡ x ∷ y ∷ [] → Contains xs y
among x y xs is = subst (λ ys. Contains ys y) (sym is) (Contains-there x y (y ∷ []) (Contains-here y []))

alone : (xs : List ℕ) (x : ℕ) → xs ≡ x ∷ [] → Contains xs x
alone xs x is = subst (λ ys. Contains ys x) (sym is) (Contains-here x [])

sent_11 : IsSentAfter (λ told. last_taken numbers 10 1 told ≡ Some first_report) numbers 1 answered (answer 11)
sent_11 = record {
  later = [];
  call = at 2000001 1 (Takes (CameFrom 2000001 (origin_of 0) (reports 10 2000000 [])));
  earlier = at 2000000 0 (Takes (Passed 2000000 Nothing)) ∷ at 1 1 (Starts (start 2 1) []) ∷ at 1 0 (Starts (start 1 1) []) ∷ [];
  split = refl;
  here = refl;
  line = CameFrom 2000001 (origin_of 0) (reports 10 2000000 []);
  takes = refl;
  sends = among (AskPages 11) (answer 11) _ second;
  after = last;
}

in_time_11 : IsInTime first_report 2000001 2000002 (judged_at numbers answered 0).judge
in_time_11 = record { own = alone _ 2000000 own; fresh = omega arith; clocks = omega arith }

room_11 : HasRoomFor (origin_of 1) 11 2000002 (judged_at numbers answered 0).judge
room_11 = record { owned = owned; admitted = admitted }

pub is_answered : IsAnswered
is_answered = record {
  taken = answered_taken;
  sent = sent_11;
  in_time = in_time_11;
  room = room_11;
  fit = fine;
  known = they_come_to_know numbers answered (at 2000002 0 (Takes (CameFrom 2000002 (origin_of 1) (answer 11)))) 1 2000002 2000001 (origin_of 1) no_page [] (echo 10 2000000 0 ∷ []) first_report
      answered_taken (λ same. absurd (omega (arith, same))) sent_11 refl refl in_time_11 room_11 fine;
}

-- ---- what twins do

twin_answers : sends_in (events_of (CameFrom 2000001 (origin_of 0) (reports 10 2000000 [])) (judged_at twins (at 2000000 0 (Takes (Passed 2000000 Nothing)) ∷ at 1 1 (Starts (start 2 1) []) ∷ at 1 0 (Starts (start 1 1) []) ∷ []) 1)) ≡ AskPages 10 ∷ answer 10 ∷ []
unfolding random_started word_of after_word words.started report_of gaps_of pages_of near_names leaps_on turns_on after_kept_line sent_by_kept_line
    verdict_on judge_after answers is_known known_from is_bound_elsewhere spoken other_with without_origin is_admitted after_admitting is_fetched speaking after_answer after_fetching after_hearing is_elsewhere admitted_verdict after_admitted report_verdict after_report own_verdict after_own
twin_answers = refl

one_reports : sends_in (events_of (Passed 4000000 Nothing) (judged_at twins one_sees 0)) ≡ AskPages 10 ∷ second_answer ∷ []
unfolding random_started word_of after_word words.started report_of gaps_of pages_of near_names leaps_on turns_on after_kept_line sent_by_kept_line
    verdict_on judge_after answers is_known known_from is_bound_elsewhere spoken other_with without_origin is_admitted after_admitting is_fetched speaking after_answer after_fetching after_hearing is_elsewhere admitted_verdict after_admitted report_verdict after_report own_verdict after_own
one_reports = refl

remembers_one : RemembersTwin twins 1 2000001 first_report answered
unfolding random_started word_of after_word words.started report_of gaps_of pages_of near_names leaps_on turns_on after_kept_line sent_by_kept_line
    verdict_on judge_after answers is_known known_from is_bound_elsewhere spoken other_with without_origin is_admitted after_admitting is_fetched speaking after_answer after_fetching after_hearing is_elsewhere admitted_verdict after_admitted report_verdict after_report own_verdict after_own
remembers_one = (origin_of 0, refl)

remembers_other : RemembersTwin twins 0 4000000 second_report one_answers
unfolding random_started word_of after_word words.started report_of gaps_of pages_of near_names leaps_on turns_on after_kept_line sent_by_kept_line
    verdict_on judge_after answers is_known known_from is_bound_elsewhere spoken other_with without_origin is_admitted after_admitting is_fetched speaking after_answer after_fetching after_hearing is_elsewhere admitted_verdict after_admitted report_verdict after_report own_verdict after_own
remembers_other = (origin_of 1, refl)

own_0 : (judged_at twins answered 0).judge.own ≡ 2000000 ∷ []
unfolding random_started word_of after_word words.started report_of gaps_of pages_of near_names leaps_on turns_on after_kept_line sent_by_kept_line
    verdict_on judge_after answers is_known known_from is_bound_elsewhere spoken other_with without_origin is_admitted after_admitting is_fetched speaking after_answer after_fetching after_hearing is_elsewhere admitted_verdict after_admitted report_verdict after_report own_verdict after_own
own_0 = refl

own_1 : (judged_at twins one_answers 1).judge.own ≡ 2000001 ∷ []
unfolding random_started word_of after_word words.started report_of gaps_of pages_of near_names leaps_on turns_on after_kept_line sent_by_kept_line
    verdict_on judge_after answers is_known known_from is_bound_elsewhere spoken other_with without_origin is_admitted after_admitting is_fetched speaking after_answer after_fetching after_hearing is_elsewhere admitted_verdict after_admitted report_verdict after_report own_verdict after_own
own_1 = refl

not_own_0 : list_any (nat_eq 2000001) (judged_at twins answered 0).judge.own ≡ false
unfolding random_started word_of after_word words.started report_of gaps_of pages_of near_names leaps_on turns_on after_kept_line sent_by_kept_line
    verdict_on judge_after answers is_known known_from is_bound_elsewhere spoken other_with without_origin is_admitted after_admitting is_fetched speaking after_answer after_fetching after_hearing is_elsewhere admitted_verdict after_admitted report_verdict after_report own_verdict after_own
not_own_0 = refl

not_own_1 : list_any (nat_eq 4000000) (judged_at twins one_answers 1).judge.own ≡ false
unfolding random_started word_of after_word words.started report_of gaps_of pages_of near_names leaps_on turns_on after_kept_line sent_by_kept_line
    verdict_on judge_after answers is_known known_from is_bound_elsewhere spoken other_with without_origin is_admitted after_admitting is_fetched speaking after_answer after_fetching after_hearing is_elsewhere admitted_verdict after_admitted report_verdict after_report own_verdict after_own
not_own_1 = refl

owned_0 : let j = (judged_at twins answered 0).judge in is_forged j.me (origin_of 1) j ≡ false
unfolding random_started word_of after_word words.started report_of gaps_of pages_of near_names leaps_on turns_on after_kept_line sent_by_kept_line
    verdict_on judge_after answers is_known known_from is_bound_elsewhere spoken other_with without_origin is_admitted after_admitting is_fetched speaking after_answer after_fetching after_hearing is_elsewhere admitted_verdict after_admitted report_verdict after_report own_verdict after_own
owned_0 = refl

owned_1 : let j = (judged_at twins one_answers 1).judge in is_forged j.me (origin_of 0) j ≡ false
unfolding random_started word_of after_word words.started report_of gaps_of pages_of near_names leaps_on turns_on after_kept_line sent_by_kept_line
    verdict_on judge_after answers is_known known_from is_bound_elsewhere spoken other_with without_origin is_admitted after_admitting is_fetched speaking after_answer after_fetching after_hearing is_elsewhere admitted_verdict after_admitted report_verdict after_report own_verdict after_own
owned_1 = refl

before : (judged_at twins answered 0).judge.has_twin ≡ false
unfolding random_started word_of after_word words.started report_of gaps_of pages_of near_names leaps_on turns_on after_kept_line sent_by_kept_line
    verdict_on judge_after answers is_known known_from is_bound_elsewhere spoken other_with without_origin is_admitted after_admitting is_fetched speaking after_answer after_fetching after_hearing is_elsewhere admitted_verdict after_admitted report_verdict after_report own_verdict after_own
before = refl

now_0 : present (judged_at twins (at 1 1 (Starts (start 2 1) []) ∷ at 1 0 (Starts (start 1 1) []) ∷ []) 0).kept.host ≡ 1
unfolding random_started word_of after_word words.started report_of gaps_of pages_of near_names leaps_on turns_on after_kept_line sent_by_kept_line
    verdict_on judge_after answers is_known known_from is_bound_elsewhere spoken other_with without_origin is_admitted after_admitting is_fetched speaking after_answer after_fetching after_hearing is_elsewhere admitted_verdict after_admitted report_verdict after_report own_verdict after_own
now_0 = refl

now_1 : present (judged_at twins (at 2000000 0 (Takes (Passed 2000000 Nothing)) ∷ at 1 1 (Starts (start 2 1) []) ∷ at 1 0 (Starts (start 1 1) []) ∷ []) 1).kept.host ≡ 1
unfolding random_started word_of after_word words.started report_of gaps_of pages_of near_names leaps_on turns_on after_kept_line sent_by_kept_line
    verdict_on judge_after answers is_known known_from is_bound_elsewhere spoken other_with without_origin is_admitted after_admitting is_fetched speaking after_answer after_fetching after_hearing is_elsewhere admitted_verdict after_admitted report_verdict after_report own_verdict after_own
now_1 = refl

now_2 : present (judged_at twins answered 0).kept.host ≡ 2000000
unfolding random_started word_of after_word words.started report_of gaps_of pages_of near_names leaps_on turns_on after_kept_line sent_by_kept_line
    verdict_on judge_after answers is_known known_from is_bound_elsewhere spoken other_with without_origin is_admitted after_admitting is_fetched speaking after_answer after_fetching after_hearing is_elsewhere admitted_verdict after_admitted report_verdict after_report own_verdict after_own
now_2 = refl

now_3 : present (judged_at twins one_sees 0).kept.host ≡ 2000002
unfolding random_started word_of after_word words.started report_of gaps_of pages_of near_names leaps_on turns_on after_kept_line sent_by_kept_line
    verdict_on judge_after answers is_known known_from is_bound_elsewhere spoken other_with without_origin is_admitted after_admitting is_fetched speaking after_answer after_fetching after_hearing is_elsewhere admitted_verdict after_admitted report_verdict after_report own_verdict after_own
now_3 = refl

twins_taken : AreTaken twins one_answers
twins_taken = (omega (arith, now_3), (omega (arith, now_2), (omega (arith, now_1), (omega (arith, now_0), ((is_opening 2 1, tt), ((is_opening 1 1, tt), tt))))))

sent_1 : IsSentAfter (RemembersTwin twins 1 2000001 first_report) twins 1 answered (answer 10)
sent_1 = record {
  later = [];
  call = at 2000001 1 (Takes (CameFrom 2000001 (origin_of 0) (reports 10 2000000 [])));
  earlier = at 2000000 0 (Takes (Passed 2000000 Nothing)) ∷ at 1 1 (Starts (start 2 1) []) ∷ at 1 0 (Starts (start 1 1) []) ∷ [];
  split = refl;
  here = refl;
  line = CameFrom 2000001 (origin_of 0) (reports 10 2000000 []);
  takes = refl;
  sends = among (AskPages 10) (answer 10) _ twin_answers;
  after = remembers_one;
}

sent_0 : IsSentAfter (RemembersTwin twins 0 4000000 second_report) twins 0 one_answers second_answer
sent_0 = record {
  later = [];
  call = at 4000000 0 (Takes (Passed 4000000 Nothing));
  earlier = one_sees;
  split = refl;
  here = refl;
  line = Passed 4000000 Nothing;
  takes = refl;
  sends = among (AskPages 10) second_answer _ one_reports;
  after = remembers_other;
}

in_time_0 : IsInTime first_report 2000001 2000002 (judged_at twins answered 0).judge
in_time_0 = record { own = alone _ 2000000 own_0; fresh = omega arith; clocks = omega arith }

in_time_1 : IsInTime second_report 4000000 4000001 (judged_at twins one_answers 1).judge
in_time_1 = record { own = alone _ 2000001 own_1; fresh = omega arith; clocks = omega arith }

twin_0 : IsOfTwin (origin_of 1) 2000001 (judged_at twins answered 0).judge
twin_0 = record { other = not_own_0; owned = owned_0 }

twin_1 : IsOfTwin (origin_of 0) 4000000 (judged_at twins one_answers 1).judge
twin_1 = record { other = not_own_1; owned = owned_1 }

pub twins_have_met : TwinsHaveMet
twins_have_met = record {
  taken = twins_taken;
  one_sent = sent_1;
  one_in_time = in_time_0;
  one_twin = twin_0;
  before = before;
  one = twins_see twins answered (at 2000002 0 (Takes (CameFrom 2000002 (origin_of 1) (answer 10)))) 1 2000002 2000001 (origin_of 1) no_page [] (echo 10 2000000 0 ∷ []) first_report
      twins_taken.1.1 refl sent_1 (omega arith) refl in_time_0 twin_0;
  other_sent = sent_0;
  other_in_time = in_time_1;
  other_twin = twin_1;
  other = twins_see twins one_answers (at 4000001 1 (Takes (CameFrom 4000001 (origin_of 0) second_answer))) 0 4000001 4000000 (origin_of 0) no_page [] (echo 10 2000001 1999998 ∷ []) second_report
      twins_taken refl sent_0 (omega arith) refl in_time_1 twin_1;
}
