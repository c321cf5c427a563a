-- Judged members as a machine: what happens is a start of their program with its record, a line, or new
-- constants.
use Rattle.std.specs.Prelude.{◌≡◌, ℕ, List, [], ◌∷◌, Option, Some, None, map}
use Rattle.wb_keeping.specs.Laws.{Tuned}
use Rattle.wb_keeping.specs.Performing.{Keeping}
use Rattle.wb_judging.specs.Handing.{handed}
use Rattle.wb_judging.specs.Judged.{Judged}
use Rattle.wb_judging.specs.declared.call.Call.{Call}
use Rattle.wb_judging.specs.declared.call.Call.TheVariants.{CameFrom, Held, Passed, UserDrew}
use Rattle.wb_judging.specs.Laws.{expanded}
use Rattle.wb_laws_machines.specs.Machines.{Machine}
use Rattle.wb_laws_machines.specs.Maps.{Map}
use Rattle.wb_judged_sessions.specs.Calls.{after_call, brought_by, drawn_by, IsTaken, JudgedCall, plain_line, sent_by, started, Starts, Takes, Tunes, unstarted}
use Rattle.wb_laws_kept.specs.Calls.{Begins, Call as KeptCall, Handed}

abbrev pub moment_of_line : Call → Option ℕ
moment_of_line (CameFrom now o v) = Some now
moment_of_line (Passed now news) = Some now
moment_of_line (UserDrew now page op) = Some now
moment_of_line (Held line) = None

abbrev pub moment_of : JudgedCall → Option ℕ
moment_of (Starts start given) = None
moment_of (Takes line) = moment_of_line line
moment_of (Tunes constants) = None

abbrev pub judged : Machine Judged JudgedCall
judged = record {
  start = unstarted;
  member = λ h. h.kept.host;
  after = after_call;
  sends = sent_by;
  drawn = drawn_by;
  gained = brought_by;
  moment = λ call h. moment_of call;
  IsTaken = IsTaken;
}

-- The same as calls of a self-managing member: a start is one with an empty record, and then each line
-- of the record is handed in. In the place of a line the judge hands in that line or a tick.
abbrev pub calls_of : JudgedCall → Judged → List KeptCall
calls_of (Starts start given) h =
    Begins start.opening [] ∷ map Handed (expanded (map Held given) (started h.kept.host.is.number start))
calls_of (Takes line) h = Handed (plain_line (handed line h)) ∷ []
calls_of (Tunes constants) h = Handed (Tuned constants) ∷ []

-- it makes these calls; a judge has the number of its member
abbrev pub judged_map : Map Judged JudgedCall Keeping KeptCall
judged_map = record {
  state = λ h. h.kept;
  events = calls_of;
  IsSound = λ h. h.judge.me ≡ h.kept.host.is.number;
}
