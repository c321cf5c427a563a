-- What happens to a judged member: its program starts and is handed its record, or it takes a line.
use Rattle.std.specs.Prelude.{◌≡◌, ℕ, ◌≤◌, true, List, [], ◌∷◌, ◌++◌, Option, None, map}
use Rattle.wb_names.specs.Values.{DrawopValue}
use Rattle.wb_codec.specs.declared.datagram.Datagram.{Datagram}
use Rattle.wb_judge.specs.Judge.{opened as opened_judge}
use Rattle.wb_policy.specs.Policy.{begun}
use Rattle.wb_recovery.specs.Timing.{are_constants}
use Rattle.wb_recovery.specs.declared.tuning.Tuning.{Tuning}
use Rattle.wb_member.specs.Opened.{present}
use Rattle.wb_keeping.specs.Laws.{Added, Came, KeptLine, Ticked, Tuned, doing_of}
use Rattle.wb_keeping.specs.Performing.{after_doing}
use Rattle.wb_judging.specs.Handing.{handed}
use Rattle.wb_judging.specs.Judged.{Judged}
use Rattle.wb_judging.specs.declared.call.Call.{Call}
use Rattle.wb_judging.specs.declared.call.Call.TheVariants.{CameFrom, Held, Passed, UserDrew}
use Rattle.wb_judging.specs.Laws.{after_all, drawops_of, sends_in}
use Rattle.wb_judging.specs.Opening.{opened as opened_judged}
use Rattle.wb_judging.specs.Performing.{after_judged, events_of, gained}
use Rattle.wb_judging.specs.Refusing.{draw_fault, held_fault}
use Rattle.wb_judging.specs.declared.judged_member.Opening.{Opening as Beginning}
use Rattle.wb_judging.specs.declared.record.RecordLine.{RecordLine}
use Rattle.wb_laws_kept.specs.Kept.{gained_by_line}
use Rattle.wb_laws_kept.specs.Openings.{IsOpening, Opening, opened_host}
use Rattle.wb_laws_machines.specs.Maps.{plain}
use Rattle.wb_laws_sessions.specs.Members.{unopened}

-- how a program opens its board and begins to be judged: besides what a self-managing one says, the
-- time of day, the owner of its own origin, and how many drawops of strangers are taken
pub record Start : Type 0 where
  pub opening : Opening
  pub wall : ℕ
  pub here : Option ℕ
  pub strangers : Option ℕ

abbrev pub beginning_of : Start → Beginning
beginning_of s = record {
  cells = s.opening.cells;
  wall = s.wall;
  here = s.here;
  strangers = s.strangers;
  rate = s.opening.rate;
  listen = s.opening.listen;
  seed = s.opening.seed;
}

-- the member of a number, once it is judged
abbrev pub started : ℕ → Start → Judged
started number s = opened_judged (beginning_of s) (opened_host number s.opening)

-- and before its program first started
abbrev pub unstarted : ℕ → Judged
unstarted number = record {
  kept = record { host = unopened number; policy = begun 0 1 0 0 };
  judge = opened_judge number 0 0 0 None None;
}

-- A program starts (`board`, `judge`) and is handed its record (`held`), or it takes a line: `came`
-- from an origin that its driver tells, `tick`, `add`, `wall`, `gone`, or once more `held`. Or its
-- driver sets the constants of the timers (`tuning`), of which the judge hears nothing.
pub data JudgedCall : Type 0 where
  Starts : (start : Start) (given : List RecordLine) → JudgedCall
  Takes : (line : Call) → JudgedCall
  Tunes : (constants : Tuning) → JudgedCall

-- what a member is after a call
abbrev pub after_call : JudgedCall → Judged → Judged
after_call (Starts start given) h = after_all (map Held given) (started h.kept.host.is.number start)
after_call (Takes line) h = after_judged line h
after_call (Tunes constants) h = record h { kept = after_doing (doing_of (Tuned constants)) h.kept }

-- ---- what they draw, send and bring

-- What its user draws is what its board gains by that.
abbrev pub drawn_by_line : Call → Judged → List DrawopValue
drawn_by_line (UserDrew now page op) h = gained (handed (UserDrew now page op) h) h.kept
drawn_by_line (CameFrom now o v) h = []
drawn_by_line (Passed now news) h = []
drawn_by_line (Held line) h = []

abbrev pub drawn_by : JudgedCall → Judged → List DrawopValue
drawn_by (Starts start given) h = []
drawn_by (Takes line) h = drawn_by_line line h
drawn_by (Tunes constants) h = []

-- all that a member sends by some lines
abbrev pub sent_by_lines : List Call → Judged → List Datagram
sent_by_lines [] h = []
sent_by_lines (line ∷ lines) h = sends_in (events_of line h) ++ sent_by_lines lines (after_judged line h)

abbrev pub sent_by : JudgedCall → Judged → List Datagram
sent_by (Starts start given) h = sent_by_lines (map Held given) (started h.kept.host.is.number start)
sent_by (Takes line) h = sends_in (events_of line h)
sent_by (Tunes constants) h = []

-- the drawops that a call hands in: of the record, or one that came and that the judge lets in
abbrev pub brought_by : JudgedCall → Judged → List DrawopValue
brought_by (Starts start given) h = drawops_of given
brought_by (Takes line) h = gained_by_line (handed line h)
brought_by (Tunes constants) h = []

-- a line without the echo of a report under the number of its sender, which no other member reads
abbrev pub plain_line : KeptLine → KeptLine
plain_line (Came now v) = Came now (plain v)
plain_line (Ticked now) = Ticked now
plain_line (Added now page time op) = Added now page time op
plain_line (Tuned constants) = Tuned constants

-- ---- no line is refused

-- Time does not go back; the user draws if nobody has the number too and a cell is left; of the
-- record no line has a number of ours that we would never reach; and constants are in their ranges.
-- Nothing else is ever refused.
abbrev pub IsLineTaken : Call → Judged → Type 0
IsLineTaken (CameFrom now o v) h = present h.kept.host ≤ now
IsLineTaken (Passed now news) h = present h.kept.host ≤ now
IsLineTaken (UserDrew now page op) h = draw_fault now page op h ≡ None
IsLineTaken (Held line) h = held_fault line h ≡ None

abbrev pub AreLinesTaken : List Call → Judged → Type 0
AreLinesTaken [] h = Unit {0}
AreLinesTaken (line ∷ lines) h = IsLineTaken line h × AreLinesTaken lines (after_judged line h)

abbrev pub IsTaken : JudgedCall → Judged → Type 0
IsTaken (Starts start given) h =
    IsOpening start.opening × AreLinesTaken (map Held given) (started h.kept.host.is.number start)
IsTaken (Takes line) h = IsLineTaken line h
IsTaken (Tunes constants) h = are_constants constants ≡ true
