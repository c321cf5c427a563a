use Rattle.wb_member.proofs.member.tell_arrived.Goals as goal

pub returns : goal.returns
returns c = rw c.moment-now.ensures.moment at c.in-Ok.ensures.ok
