-- Examples: the two members that meet keep to all that is asked for one to know the other, and so do twins for each to see the other.
use Rattle.std.specs.Prelude.{◌≡◌, ℕ, true, false, List, [], ◌∷◌, Some}
use Rattle.wb_codec.specs.declared.datagram.Datagram.{Datagram}
use Rattle.wb_keeper.specs.declared.keeper.Heard.{Heard}
use Rattle.wb_judge.specs.Members.{IsFit}
use Rattle.wb_judging.specs.Handing.{facts_of}
use Rattle.wb_judging.specs.declared.call.Call.TheVariants.{CameFrom, Passed}
use Rattle.wb_judging.specs.declared.news.News.TheVariants.{Nothing}
use Rattle.wb_judged_sessions.specs.Answering.{HasRoomFor, IsInTime, IsSentAfter, last_taken}
use Rattle.wb_judged_sessions.specs.Examples.{at, numbers}
use Rattle.wb_judged_sessions.specs.Knowing.{IsKnownSince}
use Rattle.wb_judged_sessions.specs.Meeting.{answered, echo, one_knows, origin_of, reports}
use Rattle.wb_judged_sessions.specs.Calls.{JudgedCall, Takes}
use Rattle.wb_judged_sessions.specs.Sessions.{At, judged_at}
use Rattle.wb_judged_sessions.specs.Terms.{AreTaken}
use Rattle.wb_judged_sessions.specs.Twins.{IsOfTwin, RemembersTwin}

-- the report of the one that the other took in: when it was sent, and when it came
abbrev pub first_report : Heard
first_report = record { sent = 2000000; at = 2000001 }

-- what the other reports then
abbrev pub answer : ℕ → Datagram
answer number = reports number 2000001 (echo 10 2000000 0 ∷ [])

-- All that the law asks for, of two members that are known by their numbers 10 and 11. So the one knows the other.
pub record IsAnswered : Type 0 where
  pub taken : AreTaken numbers answered
  pub sent : IsSentAfter (λ told. last_taken numbers 10 1 told ≡ Some first_report) numbers 1 answered (answer 11)
  pub in_time : IsInTime first_report 2000001 2000002 (judged_at numbers answered 0).judge
  pub room : HasRoomFor (origin_of 1) 11 2000002 (judged_at numbers answered 0).judge
  pub fit : let h = judged_at numbers answered 0 in IsFit (origin_of 1) (answer 11) (facts_of 2000002 (answer 11) h.kept) h.judge
  pub known : IsKnownSince (origin_of 1) 11 2000002 (judged_at numbers one_knows 0).judge

-- the same where both have the number 10
abbrev pub twins : ℕ → ℕ
twins i = 10

-- The answer comes to the one, which answers in its turn, and that comes to the other.
abbrev pub one_sees : List (At JudgedCall)
one_sees = at 2000002 0 (Takes (CameFrom 2000002 (origin_of 1) (answer 10))) ∷ answered

abbrev pub one_answers : List (At JudgedCall)
one_answers = at 4000000 0 (Takes (Passed 4000000 Nothing)) ∷ one_sees

abbrev pub second_answer : Datagram
second_answer = reports 10 4000000 (echo 10 2000001 1999998 ∷ [])

abbrev pub both_see : List (At JudgedCall)
both_see = at 4000001 1 (Takes (CameFrom 4000001 (origin_of 0) second_answer)) ∷ one_answers

abbrev pub second_report : Heard
second_report = record { sent = 2000001; at = 2000002 }

-- All that the law asks for, twice. So first the one sees that it has a twin, and then the other.
pub record TwinsHaveMet : Type 0 where
  pub taken : AreTaken twins one_answers
  pub one_sent : IsSentAfter (RemembersTwin twins 1 2000001 first_report) twins 1 answered (answer 10)
  pub one_in_time : IsInTime first_report 2000001 2000002 (judged_at twins answered 0).judge
  pub one_twin : IsOfTwin (origin_of 1) 2000001 (judged_at twins answered 0).judge
  pub before : (judged_at twins answered 0).judge.has_twin ≡ false
  pub one : (judged_at twins one_sees 0).judge.has_twin ≡ true
  pub other_sent : IsSentAfter (RemembersTwin twins 0 4000000 second_report) twins 0 one_answers second_answer
  pub other_in_time : IsInTime second_report 4000000 4000001 (judged_at twins one_answers 1).judge
  pub other_twin : IsOfTwin (origin_of 0) 4000000 (judged_at twins one_answers 1).judge
  pub other : (judged_at twins both_see 1).judge.has_twin ≡ true
