-- What a judged member does for a line, and which events it gives.
use Rattle.std.specs.Prelude.{◌≡◌, ℕ, List, [], ◌++◌, Option, Some, None, drop, length}
use Rattle.wb_names.specs.Values.{DrawopValue}
use Rattle.wb_codec.specs.declared.datagram.Datagram.{Datagram}
use Rattle.wb_codec.specs.declared.datagram.Datagram.TheVariants.{AskPages, Draw, PageState, Request, Session}
use Rattle.wb_judge.specs.Adding.{own_echo}
use Rattle.wb_judge.specs.Judge.{Judge}
use Rattle.wb_member.specs.Opened.{Opened, becomes}
use Rattle.wb_keeping.specs.Laws.{KeptLine, Added, Came, Ticked, Tuned, doing_of}
use Rattle.wb_keeping.specs.Performing.{IsKeptAt, Keeping, KeptValue, after_doing, sent_by_doing}
use Rattle.wb_keeping.specs.Refusing.{drawn_as}
use Rattle.wb_judging.specs.Events.{advice, dropped_events, fate_of, gain_events, told}
use Rattle.wb_judging.specs.Handing.{facts_of, handed, judge_after, verdict_on}
use Rattle.wb_judging.specs.Hearing.{after_fate, after_recalling, after_sends}
use Rattle.wb_judging.specs.Judged.{Call, CameFrom, Held, Judged, Passed, giver_of, moment_of}
use Rattle.wb_judging.specs.News.{after_news, news_events}
use Rattle.wb_judging.specs.Recording.{freed_lines, gain_lines, mark_lines, owner_lines}
use Rattle.wb_judging.specs.declared.event.Event.{Event}
use Rattle.wb_judging.specs.declared.event.Fate.{Fate}
use Rattle.wb_judging.specs.declared.record.Giver.{Giver}
use Rattle.wb_judging.specs.declared.record.RecordLine.{RecordLine}

-- ---- what a kept member does for a line

unfoldable pub after_kept_line : KeptLine → Keeping → Keeping
after_kept_line line k = after_doing (doing_of line) k

unfoldable pub sent_by_kept_line : KeptLine → Keeping → List Datagram
sent_by_kept_line line k = sent_by_doing (doing_of line) k

abbrev pub came_fate : Datagram → Opened → Option Fate
came_fate (Draw d) host = Some (fate_of (becomes d host))
came_fate (Session sender sent page marks echoes) host = None
came_fate (Request asker name) host = None
came_fate (AskPages asker) host = None
came_fate (PageState sender page marks) host = None

-- what became of the drawop that was handed in or drawn
abbrev pub fate_by : KeptLine → Keeping → Option Fate
fate_by (Came now v) k = came_fate v k.host
fate_by (Ticked now) k = None
fate_by (Added now page time op) k = Some (fate_of (drawn_as page time op k.host))
fate_by (Tuned constants) k = None

-- what the board holds more than before
abbrev pub gained : KeptLine → Keeping → List DrawopValue
gained line k = drop (length k.host.is.held) (after_kept_line line k).host.is.held

-- ---- what becomes of the judge

-- the judge, before it hears what is sent
abbrev pub judging : Call → Judged → Judge
judging (CameFrom now o v) h = after_fate now o v (fate_by (handed (CameFrom now o v) h) h.kept) (judge_after now o v h)
judging (Passed now news) h = after_news now news h.judge
judging (Held line) h = after_recalling line (fate_by (handed (Held line) h) h.kept) h.judge
judging call h = h.judge

-- ---- a line

abbrev pub first_events : Call → Judged → List Event
first_events (CameFrom now o v) h = dropped_events (verdict_on now o v h).why
first_events (Passed now news) h = news_events news
first_events call h = []

abbrev pub last_events : Call → Judged → List Event
last_events (CameFrom now o v) h = advice (verdict_on now o v h) (facts_of now v h.kept).lacking
last_events call h = []

-- what is recorded before what the board gained: what the origin gave that has answered by this datagram, a mark of ours, and a new owner
abbrev pub first_lines : Call → Judged → List RecordLine
first_lines (CameFrom now o v) h =
    freed_lines o h.judge.strange.given (judge_after now o v h).strange.given h.kept.host.is.held
    ++ (mark_lines now v (verdict_on now o v h).why h.kept ++ owner_lines o v h.judge (judge_after now o v h))
first_lines call h = []

-- all that is recorded after these lines, as a kept member does a line at a judge
abbrev pub lines_by : List RecordLine → Giver → KeptLine → Keeping → Judge → List RecordLine
lines_by first giver line k j = first ++ gain_lines giver j.strange.given (gained line k)

abbrev pub lines_of : Call → Judged → List RecordLine
lines_of line h = lines_by (first_lines line h) (giver_of line) (handed line h) h.kept (judging line h)

-- the events of that
abbrev pub told_by : ℕ → List RecordLine → Giver → KeptLine → Keeping → Judge → List Event
told_by now first giver line k j =
    told (gain_events now (lines_by first giver line k j) (gained line k)) (own_echo now j) (sent_by_kept_line line k) (fate_by line k)

abbrev pub events_of : Call → Judged → List Event
events_of line h =
    first_events line h ++ (told_by (moment_of line h) (first_lines line h) (giver_of line) (handed line h) h.kept (judging line h) ++ last_events line h)

abbrev pub after_judged : Call → Judged → Judged
after_judged line h = record {
  kept = after_kept_line (handed line h) h.kept;
  judge = after_sends (sent_by_kept_line (handed line h) h.kept) (judging line h);
}

-- ---- what code holds

pub record JudgedValue : Type 0 where
  pub kept : KeptValue
  pub judge : Judge

-- Which judged member that is: its judge has the number of its board.
pub record IsJudgedAt (v : JudgedValue) (h : Judged) : Type 0 where
  pub kept : IsKeptAt v.kept h.kept
  pub judge : v.judge ≡ h.judge
  pub own : h.judge.me ≡ h.kept.host.is.number

-- A line was performed: whichever judged member the code was at, these are its events, and it is where the line leads.
abbrev pub Performs : Call → JudgedValue → List Event → JudgedValue → Type 0
Performs line old events new = (h : Judged) → IsJudgedAt old h → (events ≡ events_of line h) × IsJudgedAt new (after_judged line h)

-- A kept member performed a line: whichever it was; how many drawops were held before; what was sent; and what became of a drawop.
abbrev pub KeptDoes : KeptLine → KeptValue → KeptValue → ℕ → List Datagram → Option Fate → Type 0
KeptDoes line old new held sent fate = (k : Keeping) → IsKeptAt old k
    → (held ≡ length k.host.is.held) × (sent ≡ sent_by_kept_line line k) × (fate ≡ fate_by line k) × IsKeptAt new (after_kept_line line k)

-- A kept member performed a line after these events and lines of the record, and its judge heard what it sent.
abbrev pub Goes : ℕ → List RecordLine → Giver → KeptLine → List Event → JudgedValue → List Event → JudgedValue → Type 0
Goes now lines giver line first old events new = (k : Keeping) → IsKeptAt old.kept k
    → (events ≡ first ++ told_by now lines giver line k old.judge) × IsKeptAt new.kept (after_kept_line line k) × (new.judge ≡ after_sends (sent_by_kept_line line k) old.judge)
