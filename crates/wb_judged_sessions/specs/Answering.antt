-- How two members come to know each other: the one reports, and the other hears that and reports in its turn, which answers the one.
use Rattle.std.specs.Prelude.{◌≡◌, ◌≢◌, ℕ, ◌+◌, ◌-◌, ◌<◌, ◌≤◌, Bool, true, false, ◌&&◌, List, [], ◌∷◌, ◌++◌, Contains, Option, Some, None, is_none, is_some, length, nat_eq, if◌then◌else◌}
use Rattle.wb_names.specs.Values.{MarkValue}
use Rattle.wb_names.specs.declared.echo.Echo.{Echo}
use Rattle.wb_names.specs.declared.name.PageId.{PageId}
use Rattle.wb_codec.specs.declared.datagram.Datagram.{Datagram}
use Rattle.wb_codec.specs.declared.datagram.Datagram.TheVariants.{AskPages, Draw, PageState, Request, Session}
use Rattle.wb_keeper.specs.Keeper.{sender_of, senders_of}
use Rattle.wb_keeper.specs.declared.keeper.Heard.{Heard}
use Rattle.wb_judge.specs.Answers.{by_their_clock}
use Rattle.wb_judge.specs.Judge.{Judge, is_forged}
use Rattle.wb_judge.specs.Judging.{is_admitted}
use Rattle.wb_judge.specs.Laws.{is_answer, speaker_in}
use Rattle.wb_judge.specs.Members.{IsFit, is_hush}
use Rattle.wb_judge.specs.Origins.{same_origin}
use Rattle.wb_judge.specs.Reports.{echo_to}
use Rattle.wb_judge.specs.declared.limits.TheConstants.{FRESH, SILENCE}
use Rattle.wb_judge.specs.declared.origin.Origin.{Origin}
use Rattle.wb_member.specs.Opened.{has_room_for, present, ticked}
use Rattle.wb_policy.specs.declared.limits.TheConstants.{MOST_ECHOES}
use Rattle.wb_keeping.specs.Laws.{Added, Came, KeptLine, Ticked, Tuned}
use Rattle.wb_keeping.specs.Performing.{Keeping}
use Rattle.wb_judging.specs.Handing.{facts_of, handed, verdict_on}
use Rattle.wb_judging.specs.Judged.{Judged}
use Rattle.wb_judging.specs.declared.call.Call.{Call}
use Rattle.wb_judging.specs.declared.call.Call.TheVariants.{CameFrom, Held, Passed, UserDrew}
use Rattle.wb_judging.specs.Laws.{sends_in}
use Rattle.wb_judging.specs.Performing.{after_judged, events_of}
use Rattle.wb_laws_kept.specs.Listening.{heard_of}
use Rattle.wb_judged_sessions.specs.Knowing.{HasRoom, IsKnownSince, LeavesKnown}
use Rattle.wb_judged_sessions.specs.Laws.{HasNotStarted}
use Rattle.wb_judged_sessions.specs.Calls.{JudgedCall, Starts, Takes, Tunes}
use Rattle.wb_judged_sessions.specs.Sessions.{At, judged_at}
use Rattle.wb_judged_sessions.specs.Terms.{AreTaken}

-- ---- one member is answered

-- There is room for a number that answers from an origin: nobody else owns the number, and it was heard before, or is one of 256 new ones, and of one
-- more each second.
pub record HasRoomFor (o : Origin) (number now : ℕ) (j : Judge) : Type 0 where
  pub owned : is_forged number o j ≡ false
  pub admitted : is_admitted o number true now j ≡ true

-- A report that answers is handed in if there is room for its number, which is another's, and its mark of ours is not forged.
abbrev pub AnswersAreHandedIn : Type 0
AnswersAreHandedIn = (now : ℕ) (o : Origin) (number : ℕ) (v : Datagram) (h : Judged) → speaker_in v ≡ Some number → is_answer v now h.judge ≡ true → number ≢ h.judge.me
    → HasRoomFor o number now h.judge → IsFit o v (facts_of now v h.kept) h.judge → handed (CameFrom now o v) h ≡ Came now v

-- Whatever a judge is: a report that answers and is handed in makes its number known at its origin since then.
abbrev pub AnswersMakeKnown : Type 0
AnswersMakeKnown = (now : ℕ) (o : Origin) (number : ℕ) (v : Datagram) (h : Judged) → speaker_in v ≡ Some number → is_answer v now h.judge ≡ true
    → handed (CameFrom now o v) h ≡ Came now v → IsKnownSince o number now (after_judged (CameFrom now o v) h).judge

-- ---- what a member echoes

-- a report under a number that comes, and that the lists of a keeper have room for: the moment that it names, and the moment of its coming
abbrev pub taken_from : (number now : ℕ) → Datagram → Keeping → Option Heard → Option Heard
taken_from number now (Draw d) k before = before
taken_from number now (Session s sent page marks echoes) k before =
    if nat_eq s number && has_room_for (heard_of now (Session s sent page marks echoes) k) (ticked now k.host) then Some (record { sent = sent; at = now }) else before
taken_from number now (Request asker name) k before = before
taken_from number now (AskPages asker) k before = before
taken_from number now (PageState s page marks) k before = before

abbrev pub taken_in : ℕ → KeptLine → Keeping → Option Heard → Option Heard
taken_in number (Came now v) k before = taken_from number now v k before
taken_in number (Ticked now) k before = before
taken_in number (Added now page time op) k before = before
taken_in number (Tuned constants) k before = before

abbrev pub taken_by : ℕ → JudgedCall → Judged → Option Heard → Option Heard
taken_by number (Starts start given) h before = None
taken_by number (Takes line) h before = taken_in number (handed line h) h.kept before
taken_by number (Tunes constants) h before = before

-- the last report under a number that the member at a place took in since its program started
abbrev pub last_taken : (ℕ → ℕ) → (number place : ℕ) → List (At JudgedCall) → Option Heard
last_taken numbers number place [] = None
last_taken numbers number place (e ∷ older) =
    if nat_eq e.place place then taken_by number e.event (judged_at numbers older place) (last_taken numbers number place older)
    else last_taken numbers number place older

-- What a member echoes of another is the last report of it that it took in: the moment that this named, and how long ago it came.
abbrev pub LastTakenIsEchoed : Type 0
LastTakenIsEchoed =
    (numbers : ℕ → ℕ) (older : List (At JudgedCall)) (e : At JudgedCall) (line : Call) (number sender moment : ℕ) (page : PageId) (marks : List MarkValue) (echoes : List Echo) (echo : Echo)
    → AreTaken numbers (e ∷ older) → e.event ≡ Takes line → number ≢ numbers e.place
    → Contains (sends_in (events_of line (judged_at numbers older e.place))) (Session sender moment page marks echoes) → echo_to number echoes ≡ Some echo
    → (heard : Heard) × (last_taken numbers number e.place (e ∷ older) ≡ Some heard) × (echo.sent ≡ heard.sent) × (echo.held ≡ moment - heard.at)

-- If it remembers 32 senders at most, it echoes each that it took in a report of.
abbrev pub FewAreEchoed : Type 0
FewAreEchoed =
    (numbers : ℕ → ℕ) (older : List (At JudgedCall)) (e : At JudgedCall) (line : Call) (number sender moment : ℕ) (page : PageId) (marks : List MarkValue) (echoes : List Echo) (heard : Heard)
    → AreTaken numbers (e ∷ older) → e.event ≡ Takes line → number ≢ numbers e.place
    → Contains (sends_in (events_of line (judged_at numbers older e.place))) (Session sender moment page marks echoes) → last_taken numbers number e.place (e ∷ older) ≡ Some heard
    → let host = (judged_at numbers (e ∷ older) e.place).kept.host in
    length (senders_of host.is.number host.is.calls) ≤ MOST_ECHOES → is_some (echo_to number echoes) ≡ true

-- ---- two members

-- One of some calls is a line with which the member at a place sends a datagram. What it has taken in by then is stated.
pub record IsSentAfter (HasTaken : List (At JudgedCall) → Type 0) (numbers : ℕ → ℕ) (place : ℕ) (calls : List (At JudgedCall)) (v : Datagram) : Type 0 where
  pub later : List (At JudgedCall)
  pub call : At JudgedCall
  pub earlier : List (At JudgedCall)
  pub split : calls ≡ later ++ call ∷ earlier
  pub here : call.place ≡ place
  pub line : Call
  pub takes : call.event ≡ Takes line
  pub sends : Contains (sends_in (events_of line (judged_at numbers earlier place))) v
  pub after : HasTaken (call ∷ earlier)

-- We reported at a moment, which our judge still remembers. The other heard that, and reported at a moment of its own clock, which comes to us no later
-- than 256 seconds after we reported. The clock of the other told no more between the two than ours since then, and one part in 4,096 of it.
pub record IsInTime (heard : Heard) (moment now : ℕ) (j : Judge) : Type 0 where
  pub own : Contains j.own heard.sent
  pub fresh : now ≤ heard.sent + FRESH
  pub clocks : moment - heard.at ≤ by_their_clock (now - heard.sent)

-- Our judge remembers the moment of a report for 256 seconds, or until our program starts anew.
abbrev pub ReportsAreRemembered : Type 0
ReportsAreRemembered =
    (numbers : ℕ → ℕ) (newer older : List (At JudgedCall)) (e : At JudgedCall) (line : Call) (sender moment : ℕ) (page : PageId) (marks : List MarkValue) (echoes : List Echo)
    → AreTaken numbers (newer ++ e ∷ older) → e.event ≡ Takes line → Contains (sends_in (events_of line (judged_at numbers older e.place))) (Session sender moment page marks echoes)
    → HasNotStarted newer e.place → present (judged_at numbers (newer ++ e ∷ older) e.place).kept.host < moment + FRESH
    → Contains (judged_at numbers (newer ++ e ∷ older) e.place).judge.own moment

-- Another member took in a report of ours, and its own report after that echoes us. That comes to us from an origin: so the other is known there since then.
abbrev pub TheyComeToKnow : Type 0
TheyComeToKnow =
    (numbers : ℕ → ℕ) (calls : List (At JudgedCall)) (e : At JudgedCall) (other now moment : ℕ) (o : Origin) (page : PageId) (marks : List MarkValue) (echoes : List Echo) (heard : Heard)
    → let me = numbers e.place in
    let v = Session (numbers other) moment page marks echoes in
    let h = judged_at numbers calls e.place in
    AreTaken numbers calls → numbers other ≢ me
    → IsSentAfter (λ told. last_taken numbers me other told ≡ Some heard) numbers other calls v → is_some (echo_to me echoes) ≡ true
    → e.event ≡ Takes (CameFrom now o v) → IsInTime heard moment now h.judge → HasRoomFor o (numbers other) now h.judge → IsFit o v (facts_of now v h.kept) h.judge
    → IsKnownSince o (numbers other) now (judged_at numbers (e ∷ calls) e.place).judge

-- ---- from then on

abbrev pub is_report_of : ℕ → Datagram → Bool
is_report_of number (Draw d) = false
is_report_of number (Session s sent page marks echoes) = nat_eq s number
is_report_of number (Request asker name) = false
is_report_of number (AskPages asker) = false
is_report_of number (PageState s page marks) = false

-- when a report under a number was last handed in from an origin, by a line or before it
abbrev pub heard_by_line : Origin → ℕ → Call → Judged → ℕ → ℕ
heard_by_line o number (CameFrom now p v) h before = if is_report_of number v && (same_origin p o && is_none (verdict_on now p v h).why) then now else before
heard_by_line o number (Passed now news) h before = before
heard_by_line o number (UserDrew now page op) h before = before
heard_by_line o number (Held line) h before = before

abbrev pub heard_by_call : Origin → ℕ → JudgedCall → Judged → ℕ → ℕ
heard_by_call o number (Starts start given) h before = before
heard_by_call o number (Takes line) h before = heard_by_line o number line h before
heard_by_call o number (Tunes constants) h before = before

-- at a place, by newer calls over older ones, after which it was known since a moment
abbrev pub heard_at : (ℕ → ℕ) → Origin → (number place since : ℕ) → (newer older : List (At JudgedCall)) → ℕ
heard_at numbers o number place since [] older = since
heard_at numbers o number place since (e ∷ newer) older =
    let before = heard_at numbers o number place since newer older in
    if nat_eq e.place place then heard_by_call o number e.event (judged_at numbers (newer ++ older) place) before else before

-- No program starts by a call, the judge has room, and the line leaves a number known that was heard at a moment.
abbrev pub IsLeftKnown : Origin → (number at : ℕ) → JudgedCall → Judged → Type 0
IsLeftKnown o number at (Starts start given) h = ⊥
IsLeftKnown o number at (Takes line) h = HasRoom h.judge × LeavesKnown o number at line h
IsLeftKnown o number at (Tunes constants) h = Unit {0}

-- So it is with each of the newer calls at the place. What comes there comes within 192 seconds after the last report of that number, whoever sends it.
abbrev pub AreLeftKnown : (ℕ → ℕ) → Origin → (number place since : ℕ) → (newer older : List (At JudgedCall)) → Type 0
AreLeftKnown numbers o number place since [] older = Unit {0}
AreLeftKnown numbers o number place since (e ∷ newer) older =
    (e.place ≡ place → IsLeftKnown o number (heard_at numbers o number place since newer older) e.event (judged_at numbers (newer ++ older) place))
    × AreLeftKnown numbers o number place since newer older

-- Then it is known since its last report there,
abbrev pub KnownGoOn : Type 0
KnownGoOn = (numbers : ℕ → ℕ) (o : Origin) (number place since : ℕ) (newer older : List (At JudgedCall)) → number ≢ numbers place
    → IsKnownSince o number since (judged_at numbers older place).judge → AreLeftKnown numbers o number place since newer older
    → IsKnownSince o number (heard_at numbers o number place since newer older) (judged_at numbers (newer ++ older) place).judge

-- and within ten minutes of that each datagram of it is handed in that is fit, and would not hush us of a firm name.
abbrev pub KnownAreHandedIn : Type 0
KnownAreHandedIn = (now : ℕ) (o : Origin) (number at : ℕ) (v : Datagram) (h : Judged) → number ≢ h.judge.me → IsKnownSince o number at h.judge → now ≤ at + SILENCE
    → ((s : ℕ) → sender_of v ≡ Some s → s ≡ number) → IsFit o v (facts_of now v h.kept) h.judge → is_hush v (facts_of now v h.kept) h.judge ≡ false
    → handed (CameFrom now o v) h ≡ Came now v
