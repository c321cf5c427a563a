use Rattle.std.proofs.Common.{◌≡◌, ◌++◌, drop}
use Rattle.wb_policy.specs.Choices.{have_answered}
use Rattle.wb_keeping.specs.Performing.{IsKeptAt, Keeping, view_of}
use Rattle.wb_keeping.specs.Views.{is_known}
use Rattle.wb_keeping.proofs.kept_member.KeptMember.answered.Given as goal

abbrev pub invariant-loop-echo : goal.invariant-loop-echo
invariant-loop-echo l = (k : Keeping) → IsKeptAt l.self k → l.answered.items ++ have_answered (is_known (view_of k.host)) (drop l.echo-index l.all) ≡ have_answered (is_known (view_of k.host)) l.all
