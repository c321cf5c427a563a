use Rattle.std.proofs.Common.{◌≡◌, drop}
use Rattle.wb_keeper.specs.TakingIn.{has_all}
use Rattle.wb_keeper.proofs.keeper.hearing.have_all.Given as goal

abbrev pub invariant-loop-mark : goal.invariant-loop-mark
invariant-loop-mark l = has_all l.heard l.told ≡ has_all l.heard (drop l.mark-index l.told)
