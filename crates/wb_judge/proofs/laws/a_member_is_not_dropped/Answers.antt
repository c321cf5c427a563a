use Rattle.wb_judge.proofs.Members.{a_member_is_not_dropped}
use Rattle.wb_judge.proofs.laws.a_member_is_not_dropped.Goals as goal

pub returns : goal.returns
returns c = a_member_is_not_dropped
