-- A third session that the laws are about, with a hole. The first of the two hosts draws three frames, and the network brings the second only the last of
-- them. The second asks for the two below it, and the network loses that too. From `quiet` on nothing is lost: the second asks again, and gets both. The
-- lines go on until after the law of holes says so. They are those that two `wb host` were handed, with the bytes that these printed.
use Rattle.std.specs.Prelude.{◌≡◌, ℕ, ◌+◌, ◌*◌, ◌<◌, ◌≤◌, true, List, [], ◌∷◌, drop}
use Rattle.wb_names.specs.History.{name_of}
use Rattle.wb_names.specs.Values.{DrawopValue, MarkValue, NameValue}
use Rattle.wb_codec.specs.declared.datagram.Datagram.TheVariants.{AskPages, Draw, PageState, Request, Session}
use Rattle.wb_gaps.specs.Gaps.{IsMissing}
use Rattle.wb_progress.specs.InTime.{known_from}
use Rattle.wb_progress.specs.Turns.{Terms}
use Rattle.wb_member.specs.Judged.{holds}
use Rattle.wb_recovery.specs.declared.limits.TheConstants.{MOST_TIMERS}
use Rattle.wb_policy.specs.declared.limits.TheConstants.{COST}
use Rattle.wb_keeping.specs.Laws.{Added, Came, KeptLine, Ticked}
use Rattle.wb_kept_progress.specs.Crowded.{spent_in}
use Rattle.wb_kept_progress.specs.Examples.{call, frame, heard, hosts, page, terms_of}
use Rattle.wb_kept_progress.specs.Filling.{OnlyHolesAreLacked, filled_by}
use Rattle.wb_kept_progress.specs.Rounds.{OneLacksAtMost}
use Rattle.wb_kept_progress.specs.Sessions.{Opening}
use Rattle.wb_kept_progress.specs.Timed.{At, time_of}
use Rattle.wb_kept_progress.specs.Whole.{HolesAreHeld, IsHeldBySome, IsTimelySession, WaitAtMost, there}

-- ---- hosts, and what they draw and tell

-- the hosts of the other two sessions, but all reports together take one byte a second: each host reports about once a minute
abbrev pub seldom : ℕ → Opening
seldom i = record (hosts i) { rate = 1 }

abbrev pub numbered : ℕ → NameValue
numbered n = name_of page 10 n

-- the drawings of member 10, in each of which is a frame
abbrev pub drawing_of : ℕ → DrawopValue
drawing_of n = record { name = numbered n; time = 4 + n; op = frame }

abbrev pub tops : List MarkValue
tops = record { source = 10; high = 3 } ∷ []

-- ---- the session

-- Each host is called within a second. No delay is above a tenth of a second, and the clock of the second host goes slow by a ten-thousandth.
abbrev pub holed : Terms
holed = record (terms_of 2000000 1000000 20000 (λ i. 99999 + 99980 * i)) { far = 100000 }

-- the newest line is the first
abbrev pub holed_lines : List (At KeptLine)
holed_lines =
    call 108977289 1 (Ticked 108766413) ∷
    call 107100484 0 (Ticked 107000485) ∷
    call 106576362 1 (Ticked 106365726) ∷
    call 104677638 0 (Ticked 104577639) ∷
    call 104186371 1 (Ticked 103975974) ∷
    call 102266054 0 (Ticked 102166055) ∷
    call 101807230 1 (Ticked 101597071) ∷
    call 99865645 0 (Ticked 99765646) ∷
    call 99438854 1 (Ticked 99228932) ∷
    call 97476324 0 (Ticked 97376325) ∷
    call 97081160 1 (Ticked 96871473) ∷
    call 95098005 0 (Ticked 94998006) ∷
    call 94734063 1 (Ticked 94524611) ∷
    call 92730603 0 (Ticked 92630604) ∷
    call 92397480 1 (Ticked 92188262) ∷
    call 90374033 0 (Ticked 90274034) ∷
    call 90071330 1 (Ticked 89862344) ∷
    call 88028211 0 (Ticked 87928212) ∷
    call 87755530 1 (Ticked 87546776) ∷
    call 85693054 0 (Ticked 85593055) ∷
    call 85450000 1 (Ticked 85241476) ∷
    call 83368479 0 (Ticked 83268480) ∷
    call 83154659 1 (Ticked 82946365) ∷
    call 81054404 0 (Ticked 80954405) ∷
    call 80869427 1 (Ticked 80661362) ∷
    call 78750748 0 (Ticked 78650749) ∷
    call 78594226 1 (Ticked 78386388) ∷
    call 76457430 0 (Ticked 76357431) ∷
    call 76328976 1 (Ticked 76121365) ∷
    call 74174370 0 (Ticked 74074371) ∷
    call 74073600 1 (Ticked 73866214) ∷
    call 71921488 1 (Came 71714317 (Session 10 71801489 page tops (heard 11 67159228 4515545))) ∷
    call 71901488 0 (Ticked 71801489) ∷
    call 71828020 1 (Ticked 71620859) ∷
    call 69638705 0 (Ticked 69538706) ∷
    call 69592160 1 (Ticked 69385222) ∷
    call 67385943 0 (Came 67285944 (Session 11 67159228 page tops (heard 10 33016996 34225525))) ∷
    call 67365943 1 (Ticked 67159228) ∷
    call 65617086 0 (Ticked 65517087) ∷
    call 65149294 1 (Ticked 64942801) ∷
    call 63384133 0 (Ticked 63284134) ∷
    call 62942139 1 (Ticked 62735866) ∷
    call 61160970 0 (Ticked 61060971) ∷
    call 60744403 1 (Ticked 60538350) ∷
    call 58947521 0 (Ticked 58847522) ∷
    call 58556012 1 (Ticked 58350178) ∷
    call 56743711 0 (Ticked 56643712) ∷
    call 56376893 1 (Ticked 56171277) ∷
    call 54549465 0 (Ticked 54449466) ∷
    call 54206973 1 (Ticked 54001574) ∷
    call 52364709 0 (Ticked 52264710) ∷
    call 52046180 1 (Ticked 51840997) ∷
    call 50189369 0 (Ticked 50089370) ∷
    call 49894443 1 (Ticked 49689475) ∷
    call 48023372 0 (Ticked 47923373) ∷
    call 47751691 1 (Ticked 47546937) ∷
    call 45866646 0 (Ticked 45766647) ∷
    call 45617853 1 (Ticked 45413313) ∷
    call 43719119 0 (Ticked 43619120) ∷
    call 43492860 1 (Ticked 43288532) ∷
    call 41580720 0 (Ticked 41480721) ∷
    call 41376642 1 (Ticked 41172526) ∷
    call 39451378 0 (Ticked 39351379) ∷
    call 39269130 1 (Ticked 39065225) ∷
    call 37331023 0 (Ticked 37231024) ∷
    call 37170257 1 (Ticked 36966561) ∷
    call 35219585 0 (Ticked 35119586) ∷
    call 35079953 1 (Ticked 34876467) ∷
    call 33136995 1 (Came 32933703 (Session 10 33016996 page tops (heard 11 22512130 10382615))) ∷
    call 33116995 0 (Ticked 33016996) ∷
    call 32998152 1 (Ticked 32794874) ∷
    call 31023184 0 (Ticked 30923185) ∷
    call 30924788 1 (Ticked 30721717) ∷
    call 28938084 0 (Ticked 28838085) ∷
    call 28859794 1 (Ticked 28656930) ∷
    call 26861628 0 (Ticked 26761629) ∷
    call 26803105 1 (Ticked 26600446) ∷
    call 24793749 0 (Ticked 24693750) ∷
    call 24754655 1 (Ticked 24552201) ∷
    call 22734380 0 (Came 22634381 (Session 11 22512130 page tops [])) ∷
    call 22714380 1 (Ticked 22512130) ∷
    call 20751076 0 (Ticked 20651077) ∷
    call 20682216 1 (Ticked 20480169) ∷
    call 18708530 0 (Ticked 18608531) ∷
    call 18658098 1 (Ticked 18456254) ∷
    call 16674298 0 (Ticked 16574299) ∷
    call 16641964 1 (Ticked 16440321) ∷
    call 14648315 0 (Ticked 14548316) ∷
    call 14633751 1 (Ticked 14432309) ∷
    call 12633397 1 (Ticked 12432155) ∷
    call 12630517 0 (Ticked 12530518) ∷
    call 10640841 1 (Came 10439798 (PageState 10 page tops)) ∷
    call 10620841 0 (Ticked 10520842) ∷
    call 9304583 0 (Came 9204584 (AskPages 11)) ∷
    call 9284583 1 (Ticked 9083676) ∷
    call 7521630 0 (Ticked 7421631) ∷
    call 7517222 1 (Ticked 7316492) ∷
    call 5547776 1 (Ticked 5347243) ∷
    call 5535945 0 (Ticked 5435946) ∷
    call 3598133 0 (Came 3498134 (AskPages 11)) ∷
    call 3598133 0 (Came 3498134 (PageState 11 page tops)) ∷
    call 3598133 0 (Came 3498134 (Request 11 (numbered 2))) ∷
    call 3598133 0 (Came 3498134 (Request 11 (numbered 1))) ∷
    call 3578133 1 (Came 3377797 (Draw (drawing_of 2))) ∷
    call 3578133 1 (Came 3377797 (Draw (drawing_of 1))) ∷
    call 3558133 0 (Ticked 3458134) ∷
    call 2578567 1 (Came 2378331 (AskPages 10)) ∷
    call 2558567 0 (Came 2458568 (Request 11 (numbered 2))) ∷
    call 2558567 0 (Came 2458568 (Request 11 (numbered 1))) ∷
    call 2538567 1 (Ticked 2338335) ∷
    call 1723903 0 (Ticked 1623904) ∷
    call 1474546 1 (Ticked 1274420) ∷
    call 440000 1 (Came 239977 (Draw (drawing_of 3))) ∷
    call 420000 0 (Added 320001 page 7 frame) ∷
    call 410000 0 (Added 310001 page 6 frame) ∷
    call 400000 0 (Added 300001 page 5 frame) ∷
    call 200000 1 (Ticked 1) ∷
    call 100000 0 (Ticked 1) ∷
    []

-- the first twelve, after which the second host lacks two of the three drawings
abbrev pub unfilled_lines : List (At KeptLine)
unfilled_lines = drop 106 holed_lines

-- ---- what it meets

-- After some of its calls a host lacks a number below one that it holds, and one that goes on held that number.
pub record IsHoleAt (hosts : ℕ → Opening) (terms : Terms) (trace calls : List (At KeptLine)) (i : ℕ) (n : NameValue) : Type 0 where
  pub missing : IsMissing (there hosts calls i).host.is.held n.page [] n.source n.seq
  pub held : IsHeldBySome hosts terms trace n

-- All premises of the law of holes hold, and these are not empty: when requests begin to be answered, the second host lacks two numbers. It gets both, and
-- the session goes on until after the law says so. Credit pays for five crowds, beside two rounds that bring one name each.
pub record HoledMeets : Type 0 where
  pub session : IsTimelySession seldom holed holed_lines
  pub waits : WaitAtMost seldom holed holed_lines 0
  pub lacks : OneLacksAtMost seldom holed holed_lines 2
  pub held : HolesAreHeld seldom holed holed_lines
  pub only : OnlyHolesAreLacked seldom holed holed_lines holed.quiet
  pub credit : spent_in holed 2 (2 + 5) ≤ 5 * (MOST_TIMERS * COST)
  pub late : known_from holed ≤ time_of unfilled_lines
  pub first : IsHoleAt seldom holed holed_lines unfilled_lines 1 (numbered 1)
  pub second : IsHoleAt seldom holed holed_lines unfilled_lines 1 (numbered 2)
  pub first_comes : holds (there seldom holed_lines 1).host (numbered 1) ≡ true
  pub second_comes : holds (there seldom holed_lines 1).host (numbered 2) ≡ true
  pub goes_on : filled_by holed holed.quiet 0 (2 + 5) < time_of holed_lines
