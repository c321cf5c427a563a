-- What the judge hands to the kept member in the place of each line: the same, or a tick of that moment.
use Rattle.std.specs.Prelude.{ℕ, ◌-◌, Bool, false, List, [], ◌∷◌, Option, Some, None, length, nat_eq, nat_lt, take, if◌then◌else◌}
use Rattle.std.specs.List.{sum_by}
use Rattle.wb_names.specs.Values.{MarkValue}
use Rattle.wb_names.specs.declared.name.PageId.{PageId}
use Rattle.wb_codec.specs.declared.datagram.Datagram.{Datagram}
use Rattle.wb_codec.specs.declared.datagram.Datagram.TheVariants.{AskPages, Draw, PageState, Request, Session}
use Rattle.wb_judge.specs.Days.{time_of_day}
use Rattle.wb_judge.specs.Judging.{after_judging, verdict}
use Rattle.wb_judge.specs.declared.facts.Facts.{Facts}
use Rattle.wb_judge.specs.declared.origin.Origin.{Origin}
use Rattle.wb_judge.specs.declared.verdict.Verdict.{Verdict}
use Rattle.wb_judge.specs.declared.verdict.Why.{Why}
use Rattle.wb_judge.specs.Judge.{Judge}
use Rattle.wb_member.specs.Judged.{highest, holds}
use Rattle.wb_member.specs.Opened.{Opened, last_number, present}
use Rattle.wb_policy.specs.declared.limits.TheConstants.{MOST_MARKS}
use Rattle.wb_keeping.specs.Laws.{KeptLine, Added, Came, Ticked}
use Rattle.wb_keeping.specs.Performing.{Keeping}
use Rattle.wb_judging.specs.Judged.{Call, CameFrom, Held, Judged, Passed, UserDrew}
use Rattle.wb_judging.specs.declared.record.RecordLine.{RecordLine}
use Rattle.wb_judging.specs.declared.record.RecordLine.TheVariants.{Known, Mark, Owner, Said, Strange, Tick}

-- ---- what the kept member says of itself, and of a datagram

abbrev pub facts_with : ℕ → Bool → ℕ → ℕ → Keeping → Facts
facts_with now held top lacking k = record {
  at = now;
  held = length k.host.is.held;
  listens = nat_lt now k.policy.ready;
  holds = held;
  above = false;
  top = top;
  lacking = lacking;
}

-- a drawop with our number is above all of ours on its page that are held or were heard of
abbrev pub is_raising : PageId → ℕ → Opened → Bool
is_raising page number host = nat_lt (last_number page host) number

-- the greatest number of ours that is held on a page
abbrev pub own_top : PageId → Opened → ℕ
own_top page host = highest page host.is.number host

-- how far a mark of another source is above what is held
abbrev pub lacks : PageId → Opened → MarkValue → ℕ
lacks page host m = if nat_eq m.source host.is.number then 0 else m.high - highest page m.source host

-- the sum of that over as many marks as a report has at most
abbrev pub lacking : PageId → Opened → List MarkValue → ℕ
lacking page host marks = sum_by (lacks page host) (take MOST_MARKS marks)

abbrev pub report_facts : ℕ → PageId → List MarkValue → Keeping → Facts
report_facts now page marks k = facts_with now false (own_top page k.host) (lacking page k.host marks) k

abbrev pub facts_of : ℕ → Datagram → Keeping → Facts
facts_of now (Draw d) k = record (facts_with now (holds k.host d.name) (highest d.name.page d.name.source k.host) 0 k) { above = is_raising d.name.page d.name.seq k.host }
facts_of now (Session sender sent page marks echoes) k = report_facts now page marks k
facts_of now (Request asker name) k = facts_with now (holds k.host name) 0 0 k
facts_of now (AskPages asker) k = facts_with now false 0 0 k
facts_of now (PageState sender page marks) k = report_facts now page marks k

-- ---- what is handed to it

-- what becomes of a datagram that comes from an origin, and of the judge
unfoldable pub verdict_on : ℕ → Origin → Datagram → Judged → Verdict
verdict_on now o v h = verdict o v (facts_of now v h.kept) h.judge

unfoldable pub judge_after : ℕ → Origin → Datagram → Judged → Judge
judge_after now o v h = after_judging o v (facts_of now v h.kept) h.judge

-- a datagram is handed in, unless it is dropped
abbrev pub handed_for : ℕ → Datagram → Option Why → KeptLine
handed_for now v None = Came now v
handed_for now v (Some why) = Ticked now

-- a line of the record: its drawop, or its mark in a page state; a moment of the past is none of the present, and an owner is for the judge
abbrev pub recalled : ℕ → RecordLine → KeptLine
recalled now (Tick past) = Ticked now
recalled now (Said d) = Came now (Draw d)
recalled now (Known d) = Came now (Draw d)
recalled now (Strange d) = Came now (Draw d)
recalled now (Mark speaker page mark) = Came now (PageState speaker page (mark ∷ []))
recalled now (Owner number place owner) = Ticked now

abbrev pub handed : Call → Judged → KeptLine
handed (CameFrom now o v) h = handed_for now v (verdict_on now o v h).why
handed (Passed now news) h = Ticked now
handed (UserDrew now page op) h = Added now page (time_of_day h.judge.clock now) op
handed (Held line) h = recalled (present h.kept.host) line
