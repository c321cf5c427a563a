-- What follows for a judged member, whatever comes in.
use Rattle.std.specs.Prelude.{◌≡◌, ◌⊎◌, ℕ, ◌+◌, ◌≤◌, Bool, true, false, ◌&&◌, List, [], ◌∷◌, ◌++◌, None, Some, All, AllPairs, Contains, filter, length, map, nat_eq, nat_le, not}
use Rattle.std.specs.List.{list_any}
use Rattle.wb_names.specs.Arrivals.{history_after}
use Rattle.wb_names.specs.Values.{DrawopValue}
use Rattle.wb_names.specs.declared.echo.Echo.{Echo}
use Rattle.wb_names.specs.declared.name.PageId.{PageId}
use Rattle.wb_names.specs.declared.name.TheConstants.{FIRST_FORGED}
use Rattle.wb_gaps.specs.Gaps.{IsMissing}
use Rattle.wb_codec.specs.declared.datagram.Datagram.{Datagram}
use Rattle.wb_codec.specs.declared.datagram.Datagram.TheVariants.{Draw}
use Rattle.wb_judge.specs.Adding.{own_echo}
use Rattle.wb_judge.specs.Days.{time_of_day}
use Rattle.wb_judge.specs.Judge.{is_firm, is_full, knows, owner_of}
use Rattle.wb_judge.specs.Judging.{draws}
use Rattle.wb_judge.specs.Laws.{StandOnce, is_answer, speaker_in}
use Rattle.wb_judge.specs.Strange.{names_of, row_of}
use Rattle.wb_judge.specs.Told.{was_told}
use Rattle.wb_judge.specs.declared.limits.TheConstants.{AHEAD_KNOWN, MOST_OTHERS}
use Rattle.wb_judge.specs.declared.origin.Origin.{Origin}
use Rattle.wb_member.specs.Judged.{holds}
use Rattle.wb_member.specs.Opened.{present}
use Rattle.wb_policy.specs.Choices.{own_echo as echo_of}
use Rattle.wb_keeping.specs.Laws.{KeptLine, Came, Ticked, after_kept, fault_of}
use Rattle.wb_judging.specs.Calling.{call_fault}
use Rattle.wb_judging.specs.Echoing.{echoing, with_echo}
use Rattle.wb_judging.specs.Handing.{handed}
use Rattle.wb_judging.specs.Judged.{Call, CameFrom, Held, Judged, Passed, giver_of, moment_of}
use Rattle.wb_judging.specs.News.{is_day}
use Rattle.wb_judging.specs.Performing.{after_judged, events_of, judging, sent_by_kept_line}
use Rattle.wb_judging.specs.declared.event.Event.{Event}
use Rattle.wb_judging.specs.declared.record.Giver.TheVariants.{Others}
use Rattle.wb_judging.specs.declared.record.RecordLine.{RecordLine}
use Rattle.wb_judging.specs.declared.record.RecordLine.TheVariants.{Known, Mark, Owner, Said, Strange, Tick}
use Rattle.wb_judging.specs.declared.event.Event.TheVariants.{Became, Dropped, Drew, Fetch, NoDatagram, Record, Send, Warn}

-- ---- a judged member is a kept member

abbrev pub after_all : List Call → Judged → Judged
after_all [] h = h
after_all (line ∷ lines) h = after_all lines (after_judged line h)

-- what its kept member is handed
abbrev pub expanded : List Call → Judged → List KeptLine
expanded [] h = []
expanded (line ∷ lines) h = handed line h ∷ expanded lines (after_judged line h)

-- It is the kept member that was handed these lines, one in the place of each.
abbrev pub JudgedMembersAreKept : Type 0
JudgedMembersAreKept = (lines : List Call) (h : Judged) → ((after_all lines h).kept ≡ after_kept (expanded lines h) h.kept) × (length (expanded lines h) ≡ length lines)

-- In the place of a datagram that came it is handed that datagram or a tick, so nothing comes in that did not come, nor twice, nor later.
abbrev pub TheSameOrATick : Type 0
TheSameOrATick = (now : ℕ) (o : Origin) (v : Datagram) (h : Judged) → (handed (CameFrom now o v) h ≡ Came now v) ⊎ (handed (CameFrom now o v) h ≡ Ticked now)

-- the datagrams among some events
abbrev pub sends_in : List Event → List Datagram
sends_in [] = []
sends_in (Send v ∷ events) = v ∷ sends_in events
sends_in (NoDatagram ∷ events) = sends_in events
sends_in (Dropped why ∷ events) = sends_in events
sends_in (Record line ∷ events) = sends_in events
sends_in (Drew name ∷ events) = sends_in events
sends_in (Became fate ∷ events) = sends_in events
sends_in (Fetch o lacking ∷ events) = sends_in events
sends_in (Warn warning ∷ events) = sends_in events

-- It sends what its kept member sends, in that order, where a report has one echo besides.
abbrev pub SendsAsKept : Type 0
SendsAsKept = (line : Call) (h : Judged) → sends_in (events_of line h) ≡ map (echoing (own_echo (moment_of line h) (judging line h))) (sent_by_kept_line (handed line h) h.kept)

-- To all members of other numbers a report with that echo says the same as without it.
abbrev pub OthersHearTheSame : Type 0
OthersHearTheSame = (e : Echo) (echoes : List Echo) (number : ℕ) → ¬ (e.source ≡ number) → echo_of number (with_echo (Some e) echoes) ≡ echo_of number echoes

-- ---- the network refuses nothing

-- Nothing that others give is refused, unless its moment is before the present one.
abbrev pub TheNetworkRefusesNothing : Type 0
TheNetworkRefusesNothing = (line : Call) (h : Judged) → h.judge.me ≡ h.kept.host.is.number → giver_of line ≡ Others → present h.kept.host ≤ moment_of line h
    → fault_of (handed line h) h.kept ≡ None

-- ---- members and strangers

-- A member's drawop is handed in if it is not ours, is no more than a day ahead, and has a cell; but a copy of what is held is not while its name is firm.
abbrev pub MembersAreHandedIn : Type 0
MembersAreHandedIn = (now : ℕ) (o : Origin) (d : DrawopValue) (h : Judged) → knows o now h.judge ≡ true → ¬ (d.name.source ≡ h.judge.me)
    → (holds h.kept.host d.name && is_firm d.name now h.judge) ≡ false → d.time ≤ time_of_day h.judge.clock now + AHEAD_KNOWN → (draws d.op && is_full (length h.kept.host.is.held) h.judge) ≡ false
    → handed (CameFrom now o (Draw d)) h ≡ Came now (Draw d)

-- What a stranger gives of what is held is as if it had not come: it puts off no repair.
abbrev pub StrangersHushNobody : Type 0
StrangersHushNobody = (now : ℕ) (o : Origin) (d : DrawopValue) (h : Judged) → knows o now h.judge ≡ false → holds h.kept.host d.name ≡ true
    → handed (CameFrom now o (Draw d)) h ≡ Ticked now

-- What a stranger gives leaves no number of any page missing that was not missing before, unless a member told a number as high.
abbrev pub StrangersLeaveNoHoles : Type 0
StrangersLeaveNoHoles = (now : ℕ) (o : Origin) (d : DrawopValue) (h : Judged) → knows o now h.judge ≡ false → was_told (row_of d.name) d.name.seq h.judge.told ≡ false
    → (page : PageId) (source n : ℕ) → IsMissing (after_judged (CameFrom now o (Draw d)) h).kept.host.is.held page [] source n → IsMissing h.kept.host.is.held page [] source n

-- An origin becomes known by an answer that came from there, and by nothing else.
abbrev pub OnlyAnswersMakeKnown : Type 0
OnlyAnswersMakeKnown = (now : ℕ) (o p : Origin) (v : Datagram) (h : Judged) (later : ℕ) → knows p later (after_judged (CameFrom now o v) h).judge ≡ true
    → (knows p later h.judge ≡ true) ⊎ (knows p now h.judge ≡ true) ⊎ ((o ≡ p) × (is_answer v now h.judge ≡ true))

-- ---- the time of day

abbrev pub is_told : Call → Bool
is_told (Passed now news) = is_day news
is_told call = false

-- The driver alone tells the time of day, from which our drawings get their times.
abbrev pub NobodyMovesOurTime : Type 0
NobodyMovesOurTime = (line : Call) (h : Judged) (later : ℕ) → is_told line ≡ false → time_of_day (after_judged line h).judge.clock later ≡ time_of_day h.judge.clock later

-- ---- the record

-- the lines that some events record
abbrev pub lines_in : List Event → List RecordLine
lines_in [] = []
lines_in (Record line ∷ events) = line ∷ lines_in events
lines_in (NoDatagram ∷ events) = lines_in events
lines_in (Dropped why ∷ events) = lines_in events
lines_in (Drew name ∷ events) = lines_in events
lines_in (Send v ∷ events) = lines_in events
lines_in (Became fate ∷ events) = lines_in events
lines_in (Fetch o lacking ∷ events) = lines_in events
lines_in (Warn warning ∷ events) = lines_in events

-- The record of many lines: it has what they record, and what was handed in from it.
abbrev pub record_of : Call → Judged → List RecordLine
record_of (Held line) h = line ∷ []
record_of line h = lines_in (events_of line h)

abbrev pub record_by : List Call → Judged → List RecordLine
record_by [] h = []
record_by (line ∷ lines) h = record_of line h ++ record_by lines (after_judged line h)

-- the drawops of some lines of the record
abbrev pub drawops_in : RecordLine → List DrawopValue
drawops_in (Tick now) = []
drawops_in (Said d) = d ∷ []
drawops_in (Known d) = d ∷ []
drawops_in (Strange d) = d ∷ []
drawops_in (Mark speaker page mark) = []
drawops_in (Owner number place owner) = []

abbrev pub drawops_of : List RecordLine → List DrawopValue
drawops_of [] = []
drawops_of (line ∷ lines) = drawops_in line ++ drawops_of lines

-- What its board holds is what a board holds that takes the drawops of the record, in their order, each name once.
abbrev pub TheRecordIsTheBoard : Type 0
TheRecordIsTheBoard = (lines : List Call) (h : Judged)
    → (after_all lines h).kept.host.is.held ≡ history_after h.kept.host.is.cells h.kept.host.is.held (drawops_of (record_by lines h))

-- each that is strange is held, and its name stands once
pub record IsSound (h : Judged) : Type 0 where
  pub held : All (λ g. holds h.kept.host g.name ≡ true) h.judge.strange.given
  pub once : StandOnce h.judge.strange.given

-- They hold the same drawops in the same order, of which the same are strange, and take as many.
pub record AreAlike (h other : Judged) : Type 0 where
  pub cells : h.kept.host.is.cells ≡ other.kept.host.is.cells
  pub held : h.kept.host.is.held ≡ other.kept.host.is.held
  pub most : h.judge.strange.most ≡ other.judge.strange.most
  pub strange : names_of h.judge.strange.given ≡ names_of other.judge.strange.given

-- However its moments, its number and its network differ, a member that begins anew and is handed the record of another, line by line, is alike.
abbrev pub ItBeginsAgain : Type 0
ItBeginsAgain = (lines : List Call) (h anew : Judged) → IsSound h → AreAlike h anew
    → AreAlike (after_all lines h) (after_all (map Held (record_by lines h)) anew)

-- a drawop is of another number, or has a number below 2^31
abbrev pub is_in_reach : ℕ → DrawopValue → Bool
is_in_reach number d = not (nat_eq d.name.source number && nat_le FIRST_FORGED d.name.seq)

-- a member that holds no drawop of its own from there on, as a new one
pub record IsInReach (h : Judged) : Type 0 where
  pub own : h.judge.me ≡ h.kept.host.is.number
  pub held : All (λ d. is_in_reach h.kept.host.is.number d ≡ true) h.kept.host.is.held

-- none of these calls is refused
abbrev pub AreCalled : List Call → Judged → Type 0
AreCalled [] h = Unit {0}
AreCalled (line ∷ lines) h = (call_fault line h ≡ None) × AreCalled lines (after_judged line h)

-- If it has the same number, it refuses no line of that record.
abbrev pub RecordLinesAreTaken : Type 0
RecordLinesAreTaken = (lines : List Call) (h anew : Judged) → IsInReach h → AreCalled lines h → anew.kept.host.is.number ≡ h.kept.host.is.number
    → AreCalled (map Held (record_by lines h)) anew

-- Where the network keeps origins: whose report gives a number an owner that had none, is recorded as that owner.
abbrev pub OwnersAreRecorded : Type 0
OwnersAreRecorded = (now : ℕ) (o : Origin) (v : Datagram) (h : Judged) (number owner : ℕ) → speaker_in v ≡ Some number → owner_of number h.judge ≡ None
    → owner_of number (after_judged (CameFrom now o v) h).judge ≡ Some owner → Contains (record_of (CameFrom now o v) h) (Owner number o.place owner)

-- a line of the record names an owner of a number
abbrev pub names_owner : ℕ → RecordLine → Bool
names_owner number (Owner n place owner) = nat_eq n number
names_owner number line = false

abbrev pub is_owner : RecordLine → Bool
is_owner (Owner number place owner) = true
is_owner line = false

-- A member that begins anew and is handed a record, which names 1,024 owners at most, knows of each number the first owner that it names.
abbrev pub OwnersOutliveStarts : Type 0
OwnersOutliveStarts = (older newer : List RecordLine) (number place owner : ℕ) (anew : Judged) → anew.judge.others ≡ [] → nat_eq number anew.judge.me ≡ false
    → length (filter is_owner (older ++ Owner number place owner ∷ newer)) ≤ MOST_OTHERS → list_any (names_owner number) older ≡ false
    → owner_of number (after_all (map Held (older ++ Owner number place owner ∷ newer)) anew).judge ≡ Some owner

-- no line of the record stands after a datagram that is sent
abbrev pub is_record : Event → Bool
is_record (Record line) = true
is_record NoDatagram = false
is_record (Dropped why) = false
is_record (Drew name) = false
is_record (Send v) = false
is_record (Became fate) = false
is_record (Fetch o lacking) = false
is_record (Warn warning) = false

abbrev pub is_send : Event → Bool
is_send (Send v) = true
is_send NoDatagram = false
is_send (Dropped why) = false
is_send (Record line) = false
is_send (Drew name) = false
is_send (Became fate) = false
is_send (Fetch o lacking) = false
is_send (Warn warning) = false

-- All that is to be recorded comes before all that is to be sent.
abbrev pub RecordsComeFirst : Type 0
RecordsComeFirst = (line : Call) (h : Judged) → AllPairs (λ one other. is_send one ≡ true → is_record other ≡ false) (events_of line h)
