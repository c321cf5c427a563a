-- Examples: one of the two members that meet tries to hush the other, which knows it. The other repairs and requests all the same.
use Rattle.std.specs.Prelude.{◌≡◌, true, List, [], ◌∷◌, ◌++◌}
use Rattle.wb_names.specs.History.{name_of}
use Rattle.wb_names.specs.Values.{DrawopValue, NameValue}
use Rattle.wb_codec.specs.declared.datagram.Datagram.TheVariants.{Draw, Request, Session}
use Rattle.wb_recovery.specs.declared.timers.AnswerTimer.{AnswerTimer}
use Rattle.wb_recovery.specs.declared.timers.AskTimer.{AskTimer}
use Rattle.wb_judge.specs.Judge.{knows}
use Rattle.wb_judging.specs.declared.call.Call.TheVariants.{CameFrom, Passed, UserDrew}
use Rattle.wb_judging.specs.declared.news.News.TheVariants.{Nothing}
use Rattle.wb_judged_sessions.specs.Examples.{at, deletes, numbers, page}
use Rattle.wb_judged_sessions.specs.Meeting.{both_know, origin_of}
use Rattle.wb_judged_sessions.specs.Calls.{JudgedCall, Takes}
use Rattle.wb_judged_sessions.specs.Sessions.{At, judged_at}
use Rattle.wb_judged_sessions.specs.Terms.{AreTaken}
use Rattle.wb_judged_sessions.specs.Unhushed.{IsToRepair, IsToRequest, Sends, StaysFirm}

-- ---- a repair

-- The user of the one draws, at the time of day that its clock shows. The other requests the drawing, and then sends a copy of it.
abbrev pub drawing : DrawopValue
drawing = record { name = name_of page 10 1; time = 4100004; op = deletes }

abbrev pub requested : List (At JudgedCall)
requested = at 4200000 0 (Takes (CameFrom 4200000 (origin_of 1) (Request 11 drawing.name))) ∷ at 4100000 0 (Takes (UserDrew 4100000 page deletes)) ∷ both_know

abbrev pub copied : List (At JudgedCall)
copied = at 4200001 0 (Takes (CameFrom 4200001 (origin_of 1) (Draw drawing))) ∷ []

-- when it repairs
abbrev pub answer : AnswerTimer
answer = record { due = 4210121; delay = 10000 }

pub record RepairsAllTheSame : Type 0 where
  pub taken : AreTaken numbers (copied ++ requested)
  pub known : knows (origin_of 1) 4200001 (judged_at numbers requested 0).judge ≡ true
  pub waits : IsToRepair drawing answer (judged_at numbers requested 0)
  pub firm : StaysFirm answer.due drawing.name numbers 0 copied requested
  pub repairs : Sends (Draw drawing) (Passed answer.due Nothing) (judged_at numbers (copied ++ requested) 0)

-- ---- a request

-- The other tells that it has drawn, and then sends a request for that under another number.
abbrev pub missing : NameValue
missing = name_of page 11 1

abbrev pub told : List (At JudgedCall)
told = at 4100000 0 (Takes (CameFrom 4100000 (origin_of 1) (Session 11 4100000 page (record { source = 11; high = 1 } ∷ []) []))) ∷ both_know

abbrev pub put_off : List (At JudgedCall)
put_off = at 4100001 0 (Takes (CameFrom 4100001 (origin_of 1) (Request 12 missing))) ∷ []

-- when it requests
abbrev pub ask : AskTimer
ask = record { level = 0; due = 4137489; deaf = 0; delay = 10000 }

pub record RequestsAllTheSame : Type 0 where
  pub taken : AreTaken numbers (put_off ++ told)
  pub known : knows (origin_of 1) 4100001 (judged_at numbers told 0).judge ≡ true
  pub waits : IsToRequest missing ask (judged_at numbers told 0)
  pub firm : StaysFirm ask.due missing numbers 0 put_off told
  pub requests : Sends (Request 10 missing) (Passed ask.due Nothing) (judged_at numbers (put_off ++ told) 0)
