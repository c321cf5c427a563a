-- Two judged members that meet, as an example: each hears a report of the other that answers one of its own.
use Rattle.std.specs.Prelude.{◌≡◌, ℕ, ◌+◌, List, [], ◌∷◌, None}
use Rattle.wb_names.specs.declared.echo.Echo.{Echo}
use Rattle.wb_names.specs.declared.name.PageId.{PageId}
use Rattle.wb_codec.specs.declared.datagram.Datagram.{Datagram}
use Rattle.wb_codec.specs.declared.datagram.Datagram.TheVariants.{AskPages, Session}
use Rattle.wb_judge.specs.declared.origin.Origin.{Origin}
use Rattle.wb_progress.specs.Turns.{Terms}
use Rattle.wb_judging.specs.declared.call.Call.TheVariants.{CameFrom, Passed}
use Rattle.wb_judging.specs.declared.news.News.TheVariants.{Nothing}
use Rattle.wb_judging.specs.Laws.{sends_in}
use Rattle.wb_judging.specs.Performing.{events_of}
use Rattle.wb_judged_sessions.specs.Examples.{at, numbers, start}
use Rattle.wb_judged_sessions.specs.Known.{ComeInTime, KnowEachOther}
use Rattle.wb_judged_sessions.specs.Knowing.{IsKnownSince}
use Rattle.wb_judged_sessions.specs.Calls.{JudgedCall, Starts, Takes}
use Rattle.wb_judged_sessions.specs.Sessions.{At, judged_at}

-- where the member at the place `i` speaks from
abbrev pub origin_of : ℕ → Origin
origin_of i = record { place = 70 + i; owner = None }

abbrev pub no_page : PageId
no_page = record { creator = 0; number = 0 }

-- a report of a member that holds nothing
abbrev pub reports : ℕ → ℕ → List Echo → Datagram
reports number moment echoes = Session number moment no_page [] echoes

abbrev pub echo : ℕ → ℕ → ℕ → Echo
echo source sent held = record { source = source; sent = sent; held = held }

-- Both start. The one reports after two seconds, and the other answers it.
abbrev pub answered : List (At JudgedCall)
answered =
    at 2000001 1 (Takes (CameFrom 2000001 (origin_of 0) (reports 10 2000000 [])))
    ∷ at 2000000 0 (Takes (Passed 2000000 Nothing)) ∷ at 1 1 (Starts (start 2 1) []) ∷ at 1 0 (Starts (start 1 1) []) ∷ []

-- The answer comes. Two seconds later the one reports again, which answers the other.
abbrev pub one_knows : List (At JudgedCall)
one_knows = at 2000002 0 (Takes (CameFrom 2000002 (origin_of 1) (reports 11 2000001 (echo 10 2000000 0 ∷ [])))) ∷ answered

abbrev pub both_know : List (At JudgedCall)
both_know =
    at 4000001 1 (Takes (CameFrom 4000001 (origin_of 0) (reports 10 4000000 (echo 11 2000001 1999998 ∷ []))))
    ∷ at 4000000 0 (Takes (Passed 4000000 Nothing)) ∷ one_knows

-- A second later the other reports once more, and that comes too.
abbrev pub again : Datagram
again = reports 11 5000000 (echo 10 4000000 999999 ∷ [])

abbrev pub sent_again : List (At JudgedCall)
sent_again = at 5000000 1 (Takes (Passed 5000000 Nothing)) ∷ both_know

abbrev pub came_again : List (At JudgedCall)
came_again = at 5000001 0 (Takes (CameFrom 5000001 (origin_of 1) again)) ∷ sent_again

abbrev pub told_again : List (At JudgedCall)
told_again = at 5000002 1 (Takes (Passed 5000002 Nothing)) ∷ came_again

-- From when both know each other they keep to these terms: what is sent comes within a microsecond, and each is called within a second.
abbrev pub terms : Terms
terms = record { live = 0 ∷ 1 ∷ []; quiet = 4000001; delivery = 1; late = 1000000; far = 1000000; asking = 4; answering = 2; drift = 0; lag = λ i. 0 }

-- Then each knows the other since the last report of that one has come. What comes was sent, and besides it they ask for pages. The session keeps to all
-- that is asked of members that stay known.
pub record HaveMet : Type 0 where
  pub first : sends_in (events_of (Passed 2000000 Nothing) (judged_at numbers (at 1 1 (Starts (start 2 1) []) ∷ at 1 0 (Starts (start 1 1) []) ∷ []) 0)) ≡ AskPages 10 ∷ reports 10 2000000 [] ∷ []
  pub second : sends_in (events_of (CameFrom 2000001 (origin_of 0) (reports 10 2000000 []))
      (judged_at numbers (at 2000000 0 (Takes (Passed 2000000 Nothing)) ∷ at 1 1 (Starts (start 2 1) []) ∷ at 1 0 (Starts (start 1 1) []) ∷ []) 1)) ≡ AskPages 11 ∷ reports 11 2000001 (echo 10 2000000 0 ∷ []) ∷ []
  pub third : sends_in (events_of (Passed 4000000 Nothing) (judged_at numbers one_knows 0)) ≡ AskPages 10 ∷ reports 10 4000000 (echo 11 2000001 1999998 ∷ []) ∷ []
  pub one : IsKnownSince (origin_of 1) 11 2000002 (judged_at numbers both_know 0).judge
  pub other : IsKnownSince (origin_of 0) 10 4000001 (judged_at numbers both_know 1).judge
  pub come : ComeInTime numbers (λ j i. origin_of i) terms told_again
  pub know : KnowEachOther numbers (λ j i. origin_of i) terms 2000002 told_again
