-- Self-managing members: what happens is a start of their program, or a call.
use Rattle.std.specs.Prelude.{ℕ, List, [], ◌++◌, Option, Some, None, map, option_to_list}
use Rattle.wb_names.specs.Values.{DrawopValue}
use Rattle.wb_member.specs.Opened.{Opened, becomes, ticked}
use Rattle.wb_keeping.specs.Kept.{drawing}
use Rattle.wb_keeping.specs.Laws.{Added, Came, KeptLine, Ticked, Tuned}
use Rattle.wb_keeping.specs.Performing.{Keeping, view_of}
use Rattle.wb_policy.specs.Policy.{begun}
use Rattle.wb_laws_sessions.specs.Members.{new_where, Deed, Does, unopened, member}
use Rattle.wb_laws_machines.specs.Machines.{Machine, sent_by_all}
use Rattle.wb_laws_machines.specs.Maps.{Map}
use Rattle.wb_laws_kept.specs.Calls.{after_call, Begins, Call, drawop_in, drawops_in, Handed, IsTaken, lines_of_call, opens_of_call}

-- what its member does in a call
abbrev pub deeds_of : Call → Keeping → List Deed
deeds_of call k = opens_of_call call ++ map Does (lines_of_call call k)

-- its user draws one drawop, if the board takes it anew
abbrev pub drawn_by_line : KeptLine → Keeping → List DrawopValue
drawn_by_line (Added now page time op) k =
    let host = ticked now k.host in
    let its = drawing (view_of host) page time op in
    new_where its (becomes its host)
drawn_by_line (Came now v) k = []
drawn_by_line (Ticked now) k = []
drawn_by_line (Tuned constants) k = []

abbrev pub drawn_by : Call → Keeping → List DrawopValue
drawn_by (Begins o given) k = []
drawn_by (Handed line) k = drawn_by_line line k

-- from the record, or from others
abbrev pub gained_by_line : KeptLine → List DrawopValue
gained_by_line (Came now v) = option_to_list (drawop_in v)
gained_by_line (Ticked now) = []
gained_by_line (Added now page time op) = []
gained_by_line (Tuned constants) = []

abbrev pub gained_by : Call → List DrawopValue
gained_by (Begins o given) = drawops_in given
gained_by (Handed line) = gained_by_line line

abbrev pub moment_of_line : KeptLine → Option ℕ
moment_of_line (Came now v) = Some now
moment_of_line (Ticked now) = Some now
moment_of_line (Added now page time op) = Some now
moment_of_line (Tuned constants) = None

abbrev pub moment_of : Call → Option ℕ
moment_of (Begins o given) = None
moment_of (Handed line) = moment_of_line line

abbrev pub unkept : ℕ → Keeping
unkept number = record { host = unopened number; policy = begun 0 1 0 0 }

abbrev pub kept : Machine Keeping Call
kept = record {
  start = unkept;
  member = λ k. k.host;
  after = after_call;
  sends = λ call k. sent_by_all member (deeds_of call k) k.host;
  drawn = drawn_by;
  gained = λ call k. gained_by call;
  moment = λ call k. moment_of call;
  IsTaken = IsTaken;
}

-- its member does those deeds
abbrev pub kept_map : Map Keeping Call Opened Deed
kept_map = record { state = λ k. k.host; events = deeds_of; IsSound = λ k. Unit {0} }
