use Rattle.std.proofs.Common.{◌∙◌}
use Rattle.wb_member.proofs.HeardActs.{had_room}
use Rattle.wb_member.proofs.member.Member.call.Goals as goal

pub returns-in_ok-hear-in-Hear-clause-sent : goal.returns-in_ok-hear-in-Hear-clause-sent
returns-in_ok-hear-in-Hear-clause-sent c = λ host at.
    let sent = c.in_ok-hear-in-Hear.ensures.sent host at in
    let room = had_room c.in-Hear.datagram host c.hear.result c.in_ok-hear-in-Hear.field-0 c.in_ok-hear-in-Hear.was (c.hear.ensures.fault host at) in
    rw (c.in-Hear.is, room) (c.sending-in-Hear.ensures.sent ∙ sent.0, sent.1)
