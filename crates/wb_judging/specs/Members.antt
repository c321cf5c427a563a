-- What of a member is handed in to a kept member, and what that can do without.
use Rattle.std.specs.Prelude.{◌≡◌, ℕ, ◌+◌, ◌<◌, ◌≤◌, ◌&&◌, Bool, true, false, List, None, length, not}
use Rattle.wb_names.specs.Values.{DrawopValue, MarkValue}
use Rattle.wb_names.specs.declared.echo.Echo.{Echo}
use Rattle.wb_names.specs.declared.name.PageId.{PageId}
use Rattle.wb_codec.specs.declared.datagram.Datagram.{Datagram}
use Rattle.wb_codec.specs.declared.datagram.Datagram.TheVariants.{AskPages, Draw, PageState, Request, Session}
use Rattle.wb_judge.specs.Days.{time_of_day}
use Rattle.wb_judge.specs.Judge.{Judge, is_full, knows}
use Rattle.wb_judge.specs.Judging.{draws}
use Rattle.wb_judge.specs.Laws.{IsBounded}
use Rattle.wb_judge.specs.Members.{IsFit, IsSpoken, Speaks, is_hush}
use Rattle.wb_judge.specs.Origins.{same_origin}
use Rattle.wb_judge.specs.Others.{other_of}
use Rattle.wb_judge.specs.declared.limits.TheConstants.{AHEAD_KNOWN, MOST_OTHERS, SILENCE}
use Rattle.wb_judge.specs.declared.origin.Origin.{Origin}
use Rattle.wb_member.specs.Judged.{holds}
use Rattle.wb_member.specs.Opened.{Opened}
use Rattle.wb_keeping.specs.Laws.{Came}
use Rattle.wb_judging.specs.Handing.{facts_of, handed}
use Rattle.wb_judging.specs.Judged.{Call, CameFrom, Held, Judged, Passed, UserDrew}
use Rattle.wb_judging.specs.News.{LeavesOrigin}
use Rattle.wb_judging.specs.Performing.{after_judged}
use Rattle.wb_judging.specs.declared.record.RecordLine.{RecordLine}
use Rattle.wb_judging.specs.declared.record.RecordLine.TheVariants.{Owner}

-- What a kept member needs to have all that others hold, and to give what it holds: a drawop that it lacks, a request for what it holds, and each report.
-- It can do without a copy of what it holds, a request for what it lacks, a question and a page state.
abbrev pub needs : Opened → Datagram → Bool
needs host (Draw d) = not (holds host d.name)
needs host (Session sender sent page marks echoes) = true
needs host (Request asker name) = holds host name
needs host (AskPages asker) = false
needs host (PageState sender page marks) = false

-- A datagram came from a member that speaks from there, and is fit, as a judge has it.
pub record IsOfMember (now : ℕ) (o : Origin) (v : Datagram) (h : Judged) : Type 0 where
  pub known : knows o now h.judge ≡ true
  pub spoken : IsSpoken o v h.judge
  pub fit : IsFit o v (facts_of now v h.kept) h.judge

-- What is fit in plain words: a drawop of another number, no more than a day ahead, that has a cell; and, once we listen no more, each report and page state.
abbrev pub OthersDrawopsAreFit : Type 0
OthersDrawopsAreFit = (now : ℕ) (o : Origin) (d : DrawopValue) (h : Judged) → ¬ (d.name.source ≡ h.judge.me) → d.time ≤ time_of_day h.judge.clock now + AHEAD_KNOWN
    → (draws d.op && is_full (length h.kept.host.is.held) h.judge) ≡ false → IsFit o (Draw d) (facts_of now (Draw d) h.kept) h.judge

abbrev pub ReportsAreFit : Type 0
ReportsAreFit = (now : ℕ) (o : Origin) (h : Judged) → h.kept.policy.ready ≤ now
    → ((sender sent : ℕ) (page : PageId) (marks : List MarkValue) (echoes : List Echo) → let v = Session sender sent page marks echoes in IsFit o v (facts_of now v h.kept) h.judge)
    × ((sender : ℕ) (page : PageId) (marks : List MarkValue) → let v = PageState sender page marks in IsFit o v (facts_of now v h.kept) h.judge)

-- Of a member each datagram of the five kinds is handed in, but for what would hush us of a firm name.
abbrev pub EachKindIsHandedIn : Type 0
EachKindIsHandedIn = (now : ℕ) (o : Origin) (v : Datagram) (h : Judged) → IsOfMember now o v h → is_hush v (facts_of now v h.kept) h.judge ≡ false → handed (CameFrom now o v) h ≡ Came now v

-- So all of it is handed in that the kept member needs.
abbrev pub NeededIsHandedIn : Type 0
NeededIsHandedIn = (now : ℕ) (o : Origin) (v : Datagram) (h : Judged) → IsOfMember now o v h → needs h.kept.host v ≡ true → handed (CameFrom now o v) h ≡ Came now v

-- ---- members stay members

-- A number speaks from an origin that is known until a moment.
pub record IsMemberUntil (o : Origin) (number until : ℕ) (h : Judged) : Type 0 where
  pub known : knows o until h.judge ≡ true
  pub speaks : Speaks o number h.judge

-- The record gives an owner to a number only under which nobody was heard yet, while there is room for one more.
abbrev pub FindsRoom : RecordLine → Judge → Type 0
FindsRoom (Owner number place owner) j = (other_of number j.others ≡ None) × (length j.others < MOST_OTHERS)
FindsRoom line j = Unit {0}

-- By a line only members speak, and whoever is gone is another. What comes from the member itself comes no longer than ten minutes before that moment.
abbrev pub LeavesMember : Origin → ℕ → Call → Judged → Type 0
LeavesMember o until (CameFrom now p v) h = (knows p now h.judge ≡ true) × IsSpoken p v h.judge × (same_origin p o ≡ true → until ≤ now + SILENCE)
LeavesMember o until (Passed now news) h = LeavesOrigin o news
LeavesMember o until (UserDrew now page op) h = Unit {0}
LeavesMember o until (Held line) h = FindsRoom line h.judge

-- Such a line leaves it a member.
abbrev pub MembersStay : Type 0
MembersStay = (line : Call) (h : Judged) (o : Origin) (number until : ℕ) → IsBounded h.judge → LeavesMember o until line h → IsMemberUntil o number until h → IsMemberUntil o number until (after_judged line h)

-- What comes from a member makes it one for ten minutes more.
abbrev pub MembersAreKnownAgain : Type 0
MembersAreKnownAgain = (now : ℕ) (o : Origin) (v : Datagram) (h : Judged) (number until : ℕ) → IsBounded h.judge → knows o now h.judge ≡ true → IsSpoken o v h.judge → Speaks o number h.judge
    → until ≤ now + SILENCE → IsMemberUntil o number until (after_judged (CameFrom now o v) h)
