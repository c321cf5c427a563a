use Rattle.wb_policy.proofs.Gaps.{idle_turns_are_rare, success_hurries, turns_are_paced}
use Rattle.wb_policy.proofs.laws.turns_keep_a_pace.Goals as goal

pub returns : goal.returns
returns c = record { paced = turns_are_paced; hurried = success_hurries; rare = idle_turns_are_rare }
