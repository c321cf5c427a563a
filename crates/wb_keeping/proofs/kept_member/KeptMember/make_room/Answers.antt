use Rattle.std.proofs.Common.{List, ◌∙◌, ap, sym}
use Rattle.wb_member.specs.declared.calls.Call.TheVariants.{Stop}
use Rattle.wb_keeping.specs.Kept.{Doing, performs, stops_one, Calls}
use Rattle.wb_keeping.specs.Performing.{sees}
use Rattle.wb_keeping.specs.Steps.{performs_all, makes_room}
use Rattle.wb_keeping.proofs.Performed.{quiet_as}
use Rattle.wb_keeping.proofs.Wanted as wanted
use Rattle.wb_policy.specs.Wanting.{giving_way}
use Rattle.wb_policy.specs.declared.wanting.AskedName.{AskedName}
use Rattle.wb_keeping.proofs.kept_member.KeptMember.make_room.Goals as goal

pub returns-then-is_asked-clause-does : goal.returns-then-is_asked-clause-does
returns-then-is_asked-clause-does c =
    let n = c.args.name.now in
    quiet_as (makes_room n c.args.is_covered) (performs (Calls (Stop n))) (λ k at. wanted.room_asked n c.args.is_covered (sees k.host) k.policy (sym (c.is_asked.ensures k at) ∙ c.if-is_asked.true)) c.stop.ensures

pub returns-clause-does : goal.returns-clause-does
returns-clause-does c =
    let n = c.args.name.now in
    let covered = c.args.is_covered in
    let these = c.deref.result.now in
    quiet_as (makes_room n covered) (performs_all (stops_one (giving_way covered these))) (λ k at.
    wanted.room_made n covered (sees k.host) k.policy (sym (c.is_asked.ensures k at) ∙ c.if-is_asked.false)
    ∙ ap (λ (as_seen : List AskedName). let d : Doing = record { policy = k.policy; lines = stops_one (giving_way covered as_seen) } in d) (sym (c.deref.ensures.value ∙ c.in_ok-asked.ensures k at))) c.stop_one.ensures
