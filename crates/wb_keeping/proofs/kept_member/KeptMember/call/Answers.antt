use Rattle.wb_keeping.proofs.kept_member.KeptMember.call.Goals as goal

pub returns-in-Came-clause-sent : goal.returns-in-Came-clause-sent
returns-in-Came-clause-sent c = rw c.in-Came.is c.handle_datagram.ensures.sent

pub returns-in-Added-clause-sent : goal.returns-in-Added-clause-sent
returns-in-Added-clause-sent c = rw c.in-Added.is c.add.ensures.sent

pub returns-in-Added-clause-left : goal.returns-in-Added-clause-left
returns-in-Added-clause-left c = rw c.in-Added.is c.add.ensures.left
