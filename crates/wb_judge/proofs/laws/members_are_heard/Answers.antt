use Rattle.wb_judge.proofs.MembersHeard.{members_are_heard}
use Rattle.wb_judge.proofs.laws.members_are_heard.Goals as goal

pub returns : goal.returns
returns c = members_are_heard
