use Rattle.std.proofs.Common.{List, ◌∙◌, ap, map, sym}
use Rattle.wb_names.specs.Values.{NameValue}
use Rattle.wb_keeping.specs.Kept.{Line, Doing, end, Calls, stops_for}
use Rattle.wb_keeping.specs.Performing.{DoesQuietly}
use Rattle.wb_keeping.specs.Steps.{performs_all}
use Rattle.wb_keeping.proofs.Performed.{at_inside, quiet_as}
use Rattle.wb_keeping.proofs.AskedTimers as asked
use Rattle.wb_keeping.proofs.kept_member.KeptMember.end.Goals as goal

pub returns-clause-does : goal.returns-clause-does
returns-clause-does c =
    let lines = stops_for c.deref.result.now in
    let did : DoesQuietly (performs_all lines) c.args.self.now c.stop_all.new.self = c.stop_all.ensures in
    quiet_as end (performs_all lines) (λ k at.
    ap (λ (ls : List Line). let d : Doing = record { policy = k.policy; lines = ls } in d)
    (asked.stops_seen k.host ∙ ap (λ (ns : List NameValue). stops_for ns) (sym (c.deref.ensures.value ∙ c.in_ok-names.ensures k.host (at_inside k c.self.view_is at).member)))) did
