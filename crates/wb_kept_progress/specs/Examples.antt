-- Two sessions that the laws are about, as examples. Two hosts are opened one after the other. The first draws a frame, and the
-- network loses it. From `quiet` on nothing is lost, and nobody draws. The second hears a report of the first, and asks for the
-- drawing; it is repaired. The lines are those that two `wb host` were handed, with the bytes that these printed.
use Rattle.std.specs.Prelude.{◌≡◌, ℕ, ◌+◌, ◌*◌, ◌<◌, ◌≤◌, true, List, [], ◌∷◌}
use Rattle.wb_names.specs.History.{name_of}
use Rattle.wb_names.specs.Values.{DrawopValue, MarkValue, NameValue}
use Rattle.wb_names.specs.declared.echo.Echo.{Echo}
use Rattle.wb_names.specs.declared.name.PageId.{PageId}
use Rattle.wb_names.specs.declared.parts.Figure.TheVariants.{Frame}
use Rattle.wb_names.specs.declared.parts.Op.{Op}
use Rattle.wb_names.specs.declared.parts.Op.TheVariants.{Drawn}
use Rattle.wb_codec.specs.declared.datagram.Datagram.TheVariants.{AskPages, Draw, PageState, Request, Session}
use Rattle.wb_progress.specs.Turns.{Terms, settled_by}
use Rattle.wb_member.specs.Judged.{holds}
use Rattle.wb_policy.specs.Turns.{nowhere}
use Rattle.wb_recovery.specs.declared.limits.TheConstants.{MOST_TIMERS}
use Rattle.wb_policy.specs.declared.limits.TheConstants.{COST}
use Rattle.wb_keeping.specs.Laws.{Added, Came, KeptLine, Ticked}
use Rattle.wb_kept_progress.specs.Promises.{Holds}
use Rattle.wb_kept_progress.specs.Crowded.{spent_in}
use Rattle.wb_kept_progress.specs.Rounds.{OneLacksAtMost, PlacesAreFilled, rounds_by}
use Rattle.wb_kept_progress.specs.Sessions.{Opening}
use Rattle.wb_kept_progress.specs.Timed.{At, performed, time_of, until}
use Rattle.wb_kept_progress.specs.Whole.{IsHeldBySome, IsLackedAt, NewAreKept, ReportWithin, Sizes, slowest, there, whole_by}

-- ---- hosts, and what they draw and tell

-- Members 10, 11, .. with boards of eight cells, whose clocks begin at 1. Reports take 4,000 bytes a second.
abbrev pub hosts : ℕ → Opening
hosts i = record {
  constants = record { c1 = 2; c2 = 2; d1 = 1; d2 = 1 };
  number = 10 + i;
  cells = 8;
  seed = 100 + i;
  moments = 1 ∷ [];
  rate = 4000;
  listen = 0;
}

abbrev pub page : PageId
page = record { creator = 10; number = 1 }

abbrev pub frame : Op
frame = Drawn Frame (record { x0 = 0; y0 = 0; x1 = 4; y1 = 2; glyph = 42 })

-- the first drawing of member 10
abbrev pub drawn : NameValue
drawn = name_of page 10 1

abbrev pub drawing : DrawopValue
drawing = record { name = drawn; time = 5; op = frame }

abbrev pub marks : List MarkValue
marks = record { source = 10; high = 1 } ∷ []

abbrev pub heard : (source sent held : ℕ) → List Echo
heard source sent held = record { source = source; sent = sent; held = held } ∷ []

abbrev pub call : (time place : ℕ) → KeptLine → At KeptLine
call time place line = record { time = time; place = place; event = line }

-- ---- two sessions

-- the terms of two live hosts
abbrev pub terms_of : (quiet late drift : ℕ) → (ℕ → ℕ) → Terms
terms_of quiet late drift lag = record {
  live = 0 ∷ 1 ∷ [];
  quiet = quiet;
  delivery = 50000;
  late = late;
  far = 1000000;
  asking = 4;
  answering = 2;
  drift = drift;
  lag = lag;
}

-- Each host is called within 10 milliseconds. The second begins 0.6 seconds later, and its clock goes slow by a ten-thousandth.
abbrev pub lively : Terms
lively = terms_of 2000000 10000 1000 (λ i. 99999 + 599930 * i)

-- the newest line is the first
abbrev pub lively_lines : List (At KeptLine)
lively_lines =
    call 6208734 0 (Ticked 6108735) ∷
    call 5741127 1 (Ticked 5040624) ∷
    call 5172117 0 (Ticked 5072118) ∷
    call 4823607 0 (Came 4723608 (Session 11 4103198 page marks (heard 10 4471564 212023))) ∷
    call 4803607 1 (Ticked 4103198) ∷
    call 4728213 1 (Ticked 4027812) ∷
    call 4591563 1 (Came 3891175 (Session 10 4471564 page marks (heard 11 2222156 1629186))) ∷
    call 4571563 0 (Ticked 4471564) ∷
    call 4143497 0 (Ticked 4043498) ∷
    call 3723113 1 (Ticked 3022812) ∷
    call 3122812 0 (Ticked 3022813) ∷
    call 2942377 0 (Came 2842378 (Session 11 2222156 page marks (heard 10 2455617 346726))) ∷
    call 2922377 1 (Ticked 2222156) ∷
    call 2790230 1 (Came 2090022 (PageState 10 page marks)) ∷
    call 2770230 0 (Ticked 2670231) ∷
    call 2719779 1 (Came 2019579 (Draw drawing)) ∷
    call 2710200 1 (Ticked 2010000) ∷
    call 2699779 0 (Ticked 2599780) ∷
    call 2665213 0 (Came 2565214 (Request 11 drawn)) ∷
    call 2645213 1 (Ticked 1945020) ∷
    call 2635266 1 (Came 1935074 (AskPages 10)) ∷
    call 2615266 0 (Ticked 2515267) ∷
    call 2585799 0 (Came 2485800 (AskPages 11)) ∷
    call 2575616 1 (Came 1875430 (Session 10 2455617 page marks [])) ∷
    call 2565799 1 (Ticked 1865614) ∷
    call 2555616 0 (Ticked 2455617) ∷
    call 2110000 0 (Ticked 2010001) ∷
    call 1705100 1 (Ticked 1005001) ∷
    call 1550672 0 (Ticked 1450673) ∷
    call 1500000 0 (Added 1400001 page 5 frame) ∷
    call 1404522 1 (Ticked 704453) ∷
    call 1105000 0 (Ticked 1005001) ∷
    call 818040 1 (Ticked 118030) ∷
    call 767752 1 (Ticked 67747) ∷
    call 758903 0 (Ticked 658904) ∷
    call 700000 1 (Ticked 1) ∷
    call 181321 0 (Ticked 81322) ∷
    call 100000 0 (Ticked 1) ∷
    []

-- Each host is called within 55 seconds.
abbrev pub patient : Terms
patient = terms_of 70000000 55000000 200000 (λ i. 999999 + 5999301 * i)

abbrev pub patient_lines : List (At KeptLine)
patient_lines =
    call 2227000872 1 (Came 2219840173 (Session 10 2225980873 page marks (heard 11 2219800173 0))) ∷
    call 2226980872 0 (Came 2225980873 (Session 11 2219800173 page marks (heard 10 2170167813 55773060))) ∷
    call 2226960872 1 (Ticked 2219800173) ∷
    call 2171187812 1 (Came 2164027113 (Session 10 2170167813 page marks (heard 11 2163987113 0))) ∷
    call 2171167812 0 (Came 2170167813 (Session 11 2163987113 page marks (heard 10 2114364931 55762882))) ∷
    call 2171147812 1 (Ticked 2163987113) ∷
    call 2115384930 1 (Came 2108224231 (Session 10 2114364931 page marks (heard 11 2108184231 0))) ∷
    call 2115364930 0 (Came 2114364931 (Session 11 2108184231 page marks (heard 10 2058572148 55752783))) ∷
    call 2115344930 1 (Ticked 2108184231) ∷
    call 2059592147 1 (Came 2052431448 (Session 10 2058572148 page marks (heard 11 2052391448 0))) ∷
    call 2059572147 0 (Came 2058572148 (Session 11 2052391448 page marks (heard 10 2002789386 55742762))) ∷
    call 2059552147 1 (Ticked 2052391448) ∷
    call 2003809385 1 (Came 1996648686 (Session 10 2002789386 page marks (heard 11 1996608686 0))) ∷
    call 2003789385 0 (Came 2002789386 (Session 11 1996608686 page marks (heard 10 1947016567 55732819))) ∷
    call 2003769385 1 (Ticked 1996608686) ∷
    call 1948036566 1 (Came 1940875867 (Session 10 1947016567 page marks (heard 11 1940835867 0))) ∷
    call 1948016566 0 (Came 1947016567 (Session 11 1940835867 page marks (heard 10 1891253614 55722953))) ∷
    call 1947996566 1 (Ticked 1940835867) ∷
    call 1892273613 1 (Came 1885112914 (Session 10 1891253614 page marks (heard 11 1885072914 0))) ∷
    call 1892253613 0 (Came 1891253614 (Session 11 1885072914 page marks (heard 10 1835680103 55533511))) ∷
    call 1892233613 1 (Ticked 1885072914) ∷
    call 1836700102 1 (Came 1829539403 (Session 10 1835680103 page marks (heard 11 1829499403 0))) ∷
    call 1836680102 0 (Came 1835680103 (Session 11 1829499403 page marks (heard 10 1780084336 55555767))) ∷
    call 1836660102 1 (Ticked 1829499403) ∷
    call 1781104335 1 (Came 1773943636 (Session 10 1780084336 page marks (heard 11 1718170817 55732819))) ∷
    call 1781085326 0 (Came 1780085327 (Session 11 1773904627 page marks (heard 10 1724311517 55733810))) ∷
    call 1781084335 0 (Ticked 1780084336) ∷
    call 1781065326 1 (Ticked 1773904627) ∷
    call 1725351516 0 (Came 1724351517 (Session 11 1718170817 page marks (heard 10 1724311517 0))) ∷
    call 1725331516 1 (Came 1718170817 (Session 10 1724311517 page marks (heard 11 1662523635 55607182))) ∷
    call 1725311516 0 (Ticked 1724311517) ∷
    call 1669724334 1 (Came 1662563635 (Session 10 1668704335 page marks (heard 11 1662523635 0))) ∷
    call 1669704334 0 (Came 1668704335 (Session 11 1662523635 page marks (heard 10 1612982129 55682206))) ∷
    call 1669684334 1 (Ticked 1662523635) ∷
    call 1614002128 1 (Came 1606841429 (Session 10 1612982129 page marks (heard 11 1551103555 55703449))) ∷
    call 1613989574 0 (Came 1612989575 (Session 11 1606808879 page marks (heard 10 1557238680 55705324))) ∷
    call 1613982128 0 (Ticked 1612982129) ∷
    call 1613969574 1 (Ticked 1606808879) ∷
    call 1558278679 0 (Came 1557278680 (Session 11 1551103555 page marks (heard 10 1557238680 0))) ∷
    call 1558258679 1 (Came 1551103555 (Session 10 1557238680 page marks (heard 11 1495424101 55645022))) ∷
    call 1558238679 0 (Ticked 1557238680) ∷
    call 1502613657 1 (Came 1495464097 (Session 10 1501593658 page marks (heard 11 1495424101 0))) ∷
    call 1502593657 0 (Came 1501593658 (Session 11 1495424101 page marks (heard 10 1445893053 55655039))) ∷
    call 1502573657 1 (Ticked 1495424101) ∷
    call 1446913052 1 (Came 1439769062 (Session 10 1445893053 page marks (heard 11 1384059878 55674756))) ∷
    call 1446901377 0 (Came 1445901378 (Session 11 1439737390 page marks (heard 10 1390178297 55677512))) ∷
    call 1446893052 0 (Ticked 1445893053) ∷
    call 1446881377 1 (Ticked 1439737390) ∷
    call 1391218296 0 (Came 1390218297 (Session 11 1384059878 page marks (heard 10 1390178297 0))) ∷
    call 1391198296 1 (Came 1384059878 (Session 10 1390178297 page marks (heard 11 1328423226 55602216))) ∷
    call 1391178296 0 (Ticked 1390178297) ∷
    call 1335596080 1 (Came 1328463222 (Session 10 1334576081 page marks (heard 11 1328423226 0))) ∷
    call 1335576080 0 (Came 1334576081 (Session 11 1328423226 page marks (heard 10 1278911186 55619333))) ∷
    call 1335556080 1 (Ticked 1328423226) ∷
    call 1279931185 1 (Came 1272803893 (Session 10 1278911186 page marks (heard 11 1272763897 0))) ∷
    call 1279911185 0 (Came 1278911186 (Session 11 1272763897 page marks (heard 10 1223255278 55610346))) ∷
    call 1279891185 1 (Ticked 1272763897) ∷
    call 1224275277 1 (Came 1217153551 (Session 10 1223255278 page marks (heard 11 1217113555 0))) ∷
    call 1224255277 0 (Came 1223255278 (Session 11 1217113555 page marks (heard 10 1167608287 55601430))) ∷
    call 1224235277 1 (Ticked 1217113555) ∷
    call 1168628286 1 (Came 1161512125 (Session 10 1167608287 page marks (heard 11 1161472129 0))) ∷
    call 1168608286 0 (Came 1167608287 (Session 11 1161472129 page marks (heard 10 1111970145 55592583))) ∷
    call 1168588286 1 (Ticked 1161472129) ∷
    call 1112990144 1 (Came 1105879546 (Session 10 1111970145 page marks (heard 11 1105839550 0))) ∷
    call 1112970144 0 (Came 1111970145 (Session 11 1105839550 page marks (heard 10 1056340783 55583803))) ∷
    call 1112950144 1 (Ticked 1105839550) ∷
    call 1057360782 1 (Came 1050255747 (Session 10 1056340783 page marks (heard 11 1050215751 0))) ∷
    call 1057340782 0 (Came 1056340783 (Session 11 1050215751 page marks (heard 10 1000720132 55575093))) ∷
    call 1057320782 1 (Ticked 1050215751) ∷
    call 1001740131 1 (Came 994640658 (Session 10 1000720132 page marks (heard 11 994600662 0))) ∷
    call 1001720131 0 (Came 1000720132 (Session 11 994600662 page marks (heard 10 945108125 55566449))) ∷
    call 1001700131 1 (Ticked 994600662) ∷
    call 946128124 1 (Came 939034213 (Session 10 945108125 page marks (heard 11 938994217 0))) ∷
    call 946108124 0 (Came 945108125 (Session 11 938994217 page marks (heard 10 889504695 55557874))) ∷
    call 946088124 1 (Ticked 938994217) ∷
    call 890524694 1 (Came 883436343 (Session 10 889504695 page marks (heard 11 883396347 0))) ∷
    call 890504694 0 (Came 889504695 (Session 11 883396347 page marks (heard 10 833909775 55549364))) ∷
    call 890484694 1 (Ticked 883396347) ∷
    call 834929774 1 (Came 827846983 (Session 10 833909775 page marks (heard 11 827806987 0))) ∷
    call 834909774 0 (Came 833909775 (Session 11 827806987 page marks (heard 10 778323300 55540921))) ∷
    call 834889774 1 (Ticked 827806987) ∷
    call 779343299 1 (Came 772266066 (Session 10 778323300 page marks (heard 11 772226070 0))) ∷
    call 779323299 0 (Came 778323300 (Session 11 772226070 page marks (heard 10 722745204 55532542))) ∷
    call 779303299 1 (Ticked 772226070) ∷
    call 723765203 1 (Came 716693528 (Session 10 722745204 page marks (heard 11 716653532 0))) ∷
    call 723745203 0 (Came 722745204 (Session 11 716653532 page marks (heard 10 667175422 55524229))) ∷
    call 723725203 1 (Ticked 716653532) ∷
    call 668195421 1 (Came 661129303 (Session 10 667175422 page marks (heard 11 661089307 0))) ∷
    call 668175421 0 (Came 667175422 (Session 11 661089307 page marks (heard 10 611613890 55515980))) ∷
    call 668155421 1 (Ticked 661089307) ∷
    call 612633889 1 (Came 605573327 (Session 10 611613890 page marks (heard 11 605533331 0))) ∷
    call 612613889 0 (Came 611613890 (Session 11 605533331 page marks (heard 10 556060543 55507796))) ∷
    call 612593889 1 (Ticked 605533331) ∷
    call 557080542 1 (Came 550025535 (Session 10 556060543 page marks (heard 11 549985539 0))) ∷
    call 557060542 0 (Came 556060543 (Session 11 549985539 page marks (heard 10 500515318 55499674))) ∷
    call 557040542 1 (Ticked 549985539) ∷
    call 501535317 1 (Came 494485865 (Session 10 500515318 page marks (heard 11 494445869 0))) ∷
    call 501515317 0 (Came 500515318 (Session 11 494445869 page marks (heard 10 444978152 55491616))) ∷
    call 501495317 1 (Ticked 494445869) ∷
    call 445998151 1 (Came 438954253 (Session 10 444978152 page marks (heard 11 438914257 0))) ∷
    call 445978151 0 (Came 444978152 (Session 11 438914257 page marks (heard 10 389448983 55483620))) ∷
    call 445958151 1 (Ticked 438914257) ∷
    call 390468982 1 (Came 383430637 (Session 10 389448983 page marks (heard 11 383390641 0))) ∷
    call 390448982 0 (Came 389448983 (Session 11 383390641 page marks (heard 10 333927750 55475685))) ∷
    call 390428982 1 (Ticked 383390641) ∷
    call 334947749 1 (Came 327914956 (Session 10 333927750 page marks (heard 11 327874960 0))) ∷
    call 334927749 0 (Came 333927750 (Session 11 327874960 page marks (heard 10 278414390 55467813))) ∷
    call 334907749 1 (Ticked 327874960) ∷
    call 279434389 1 (Came 272407147 (Session 10 278414390 page marks (heard 11 217645659 54726965))) ∷
    call 279414389 0 (Came 278414390 (Session 11 272367151 page marks (heard 10 223647425 54721492))) ∷
    call 279414389 0 (Came 278414390 (PageState 11 page marks)) ∷
    call 279394389 1 (Ticked 272367151) ∷
    call 224687424 0 (Came 223687425 (Session 11 217645659 page marks (heard 10 169079612 54562356))) ∷
    call 224687424 0 (Came 223687425 (Request 11 drawn)) ∷
    call 224667424 1 (Came 217645659 (Session 10 223647425 page marks (heard 11 163081550 54529566))) ∷
    call 224667424 1 (Came 217645659 (AskPages 10)) ∷
    call 224667424 1 (Came 217645659 (Draw drawing)) ∷
    call 224647424 0 (Ticked 223647425) ∷
    call 170117858 0 (Came 169117859 (Session 11 163081550 nowhere [] (heard 10 114507813 54564589))) ∷
    call 170117858 0 (Came 169117859 (AskPages 11)) ∷
    call 170117858 0 (Came 169117859 (Request 11 drawn)) ∷
    call 170099611 1 (Came 163083303 (Session 10 169079612 page marks (heard 11 108516961 54531799))) ∷
    call 170099611 1 (Came 163083303 (AskPages 10)) ∷
    call 170099611 1 (Came 163083303 (PageState 10 page marks)) ∷
    call 170097858 1 (Ticked 163081550) ∷
    call 170079611 0 (Ticked 169079612) ∷
    call 115547812 0 (Came 114547813 (Session 11 108516961 nowhere [] [])) ∷
    call 115547812 0 (Came 114547813 (AskPages 11)) ∷
    call 115527812 1 (Came 108516961 (Session 10 114507813 page marks [])) ∷
    call 115527812 1 (Came 108516961 (AskPages 10)) ∷
    call 115507812 0 (Ticked 114507813) ∷
    call 61568202 1 (Ticked 54562747) ∷
    call 60000000 0 (Added 59000001 page 5 frame) ∷
    call 55576321 0 (Ticked 54576322) ∷
    call 7000000 1 (Ticked 1) ∷
    call 1000000 0 (Ticked 1) ∷
    []

-- ---- what they meet

-- their boards have at most one slice, which counts twice, and no holes; one name is lacked
abbrev pub sizes_in : Terms → Sizes
sizes_in terms = slowest terms 2 0 0 1

-- All premises of the laws hold, and the second host lacks the drawing once what was on its way has arrived.
pub record Meets (terms : Terms) (trace : List (At KeptLine)) (wait since : ℕ) : Type 0 where
  -- of the law that sessions become whole
  pub whole : Holds hosts terms trace (sizes_in terms) wait 1
  -- of the law by rounds, and of that in crowds
  pub reports : ReportWithin hosts terms trace since (sizes_in terms).pause
  pub lacks : OneLacksAtMost hosts terms trace 1
  pub kept : NewAreKept hosts terms trace since
  pub filled : (places : ℕ) → PlacesAreFilled hosts terms trace since places
  -- the drawing was lost, and comes
  pub held : IsHeldBySome hosts terms trace drawn
  pub lost : IsLackedAt hosts terms trace (until (settled_by terms) (performed hosts trace)) (record { place = 1; name = drawn })
  pub comes : holds (there hosts trace 1).host drawn ≡ true

-- The first session ends before the laws say that it is whole. Credit pays for eight crowds, beside one round that brings the drawing.
abbrev pub LivelyMeets : Type 0
LivelyMeets = Meets lively lively_lines 0 2600000 × (spent_in lively 1 9 ≤ 8 * (MOST_TIMERS * COST))

-- The second goes on after these times.
abbrev pub PatientMeets : Type 0
PatientMeets =
    Meets patient patient_lines 0 115530000
    × (whole_by patient (sizes_in patient) 0 1 < time_of patient_lines)
    × (rounds_by patient 115530000 (sizes_in patient).pause 0 1 < time_of patient_lines)
