use Rattle.wb_keeping.specs.Kept.{Says, performs}
use Rattle.wb_keeping.specs.Performing.{KeptValue, LeavesSome}
use Rattle.wb_keeping.proofs.Performed.{at_inside}
use Rattle.wb_keeping.proofs.LeftSome.{on_err}
use Rattle.wb_codec.specs.declared.datagram.Datagram.TheVariants.{Draw}
use Rattle.wb_keeping.proofs.kept_member.KeptMember.draw.Goals as goal

pub returns-in_err-send-in-Some-New-clause-left : goal.returns-in_err-send-in-Some-New-clause-left
returns-in_err-send-in-Some-New-clause-left c =
    let line = performs (Says (Draw c.args.drawop.now)) in
    let taken : KeptValue = record { member = c.accept.new.self; policy = c.self.inside.policy } in
    let left : LeavesSome line c.args.self.now taken = record { at = λ k at. (1, (c.in_ok-reply.ensures.accepted k.host (at_inside k c.self.view_is at).member).1) } in
    on_err _ left
