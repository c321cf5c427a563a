-- A fourth session that the laws are about, with a long delay before `quiet`. A forged report says that the way between the two hosts takes more than a
-- second, and tells the second of a drawing, which the network has lost. So it waits long before it asks, and that is lost too. From `quiet` on nothing is
-- lost, and each delay is half a second at most; the request timer that stands then was set by the long one. The second host asks again, and gets the
-- drawing. All but the forged line are those that two `wb host` were handed, with the bytes that these printed.
use Rattle.std.specs.Prelude.{◌≡◌, ◌+◌, ◌*◌, ◌<◌, true, List, [], ◌∷◌, Some}
use Rattle.wb_codec.specs.declared.datagram.Datagram.TheVariants.{AskPages, Draw, PageState, Request, Session}
use Rattle.wb_recovery.specs.declared.timers.AskTimer.{AskTimer}
use Rattle.wb_progress.specs.Turns.{Terms}
use Rattle.wb_member.specs.Judged.{holds}
use Rattle.wb_policy.specs.Turns.{nowhere}
use Rattle.wb_keeping.specs.Laws.{Added, Came, KeptLine, Ticked}
use Rattle.wb_kept_progress.specs.Examples.{call, drawing, drawn, frame, heard, hosts, marks, page, terms_of}
use Rattle.wb_kept_progress.specs.Timed.{At, performed, start_of, timers_after, until}
use Rattle.wb_kept_progress.specs.Whole.{IsTimelySession, there}

-- Each host is called within 10 milliseconds. From `quiet` on no delay is above half a second. The clock of the second host goes slow by a ten-thousandth.
abbrev pub once_far : Terms
once_far = record (terms_of 8000000 10000 2000 (λ i. 99999 + 599930 * i)) { far = 500000 }

-- the newest line is the first
abbrev pub once_far_lines : List (At KeptLine)
once_far_lines =
    call 12069569 1 (Came 11368434 (Draw drawing)) ∷
    call 12060204 1 (Ticked 11359069) ∷
    call 12049569 0 (Ticked 11949570) ∷
    call 12029043 0 (Came 11929044 (Request 11 drawn)) ∷
    call 12009043 1 (Ticked 11307914) ∷
    call 11613749 0 (Came 11513750 (Session 11 10892661 nowhere [] (heard 10 10401363 1072280))) ∷
    call 11593749 1 (Ticked 10892661) ∷
    call 11459068 0 (Ticked 11359069) ∷
    call 10987541 1 (Ticked 10286514) ∷
    call 10521362 1 (Came 9820381 (Session 10 10401363 page marks (heard 11 8201170 1579373))) ∷
    call 10501362 0 (Ticked 10401363) ∷
    call 10386513 0 (Ticked 10286514) ∷
    call 9923194 1 (Ticked 9222273) ∷
    call 9322272 0 (Ticked 9222273) ∷
    call 8921989 0 (Came 8821990 (Session 11 8201170 nowhere [] (heard 10 8364802 417146))) ∷
    call 8901989 1 (Ticked 8201170) ∷
    call 8867096 1 (Ticked 8166281) ∷
    call 8484801 1 (Came 7784024 (Session 10 8364802 page marks (heard 11 6621574 1122566))) ∷
    call 8464801 0 (Ticked 8364802) ∷
    call 8266280 0 (Ticked 8166281) ∷
    call 7819184 1 (Ticked 7118474) ∷
    call 7342235 0 (Came 7242236 (Session 11 6621574 nowhere [] (heard 10 6732929 469260))) ∷
    call 7322235 1 (Ticked 6621574) ∷
    call 7218473 0 (Ticked 7118474) ∷
    call 7204255 1 (Came 6503606 (AskPages 10)) ∷
    call 7184255 0 (Ticked 7084256) ∷
    call 7135609 1 (Ticked 6434967) ∷
    call 6852928 1 (Came 6152314 (Session 10 6732929 page marks (heard 11 4088225 2024296))) ∷
    call 6832928 0 (Ticked 6732929) ∷
    call 6779395 1 (Ticked 6078789) ∷
    call 6178788 0 (Ticked 6078789) ∷
    call 5747666 1 (Ticked 5047163) ∷
    call 5147162 0 (Ticked 5047163) ∷
    call 4959419 1 (Came 4258995 (PageState 10 page marks)) ∷
    call 4939419 0 (Ticked 4839420) ∷
    call 4907611 0 (Came 4807612 (AskPages 11)) ∷
    call 4887611 1 (Ticked 4187194) ∷
    call 4808632 0 (Came 4708633 (Session 11 4088225 nowhere [] (heard 10 4456591 212021))) ∷
    call 4788632 1 (Ticked 4088225) ∷
    call 4723935 1 (Ticked 4023534) ∷
    call 4576590 1 (Came 3876204 (Session 10 4456591 page marks (heard 11 2212174 1624196))) ∷
    call 4556590 0 (Ticked 4456591) ∷
    call 4123533 0 (Ticked 4023534) ∷
    call 3708139 1 (Ticked 3007840) ∷
    call 3500000 1 (Came 2799721 (Session 10 1 page marks (heard 11 1 0))) ∷
    call 3107839 0 (Ticked 3007840) ∷
    call 3000000 0 (Added 2900001 page 5 frame) ∷
    call 2932394 0 (Came 2832395 (Session 11 2212174 nowhere [] (heard 10 2445635 346725))) ∷
    call 2912394 1 (Ticked 2212174) ∷
    call 2700218 1 (Ticked 2000019) ∷
    call 2620293 1 (Came 1920102 (AskPages 10)) ∷
    call 2600293 0 (Ticked 2500294) ∷
    call 2570825 0 (Came 2470826 (AskPages 11)) ∷
    call 2565634 1 (Came 1865449 (Session 10 2445635 nowhere [] (heard 11 113039 1712585))) ∷
    call 2550825 1 (Ticked 1850641) ∷
    call 2545634 0 (Ticked 2445635) ∷
    call 2100018 0 (Ticked 2000019) ∷
    call 1700109 1 (Ticked 1000010) ∷
    call 1560690 1 (Came 860605 (AskPages 10)) ∷
    call 1540690 0 (Ticked 1440691) ∷
    call 1414539 0 (Came 1314540 (AskPages 11)) ∷
    call 1394539 1 (Ticked 694471) ∷
    call 1100009 0 (Ticked 1000010) ∷
    call 833049 0 (Came 733050 (Session 11 113039 nowhere [] (heard 10 653913 39133))) ∷
    call 813049 1 (Ticked 113039) ∷
    call 782761 0 (Came 682762 (AskPages 11)) ∷
    call 773912 1 (Came 73906 (Session 10 653913 nowhere [] [])) ∷
    call 762761 1 (Ticked 62756) ∷
    call 753912 0 (Ticked 653913) ∷
    call 700000 1 (Ticked 1) ∷
    call 176330 0 (Ticked 76331) ∷
    call 100000 0 (Ticked 1) ∷
    []

-- The session keeps to the terms. At `quiet` a request timer of the second host stands that was set by a longer delay, and the drawing comes.
pub record OnceFarMeets : Type 0 where
  pub session : IsTimelySession hosts once_far once_far_lines
  pub ask : AskTimer
  pub stands : (timers_after (λ j. start_of (hosts j)) (until once_far.quiet (performed hosts once_far_lines)) 1 drawn).ask ≡ Some ask
  pub long : once_far.far < ask.delay
  pub comes : holds (there hosts once_far_lines 1).host drawn ≡ true
