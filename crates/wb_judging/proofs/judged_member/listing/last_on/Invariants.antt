use Rattle.std.proofs.Common.{◌≡◌, drop}
use Rattle.wb_judging.specs.Asking.{last_from}
use Rattle.wb_judging.proofs.judged_member.listing.last_on.Given as goal

abbrev pub invariant-loop-place : goal.invariant-loop-place
invariant-loop-place l = last_from l.page l.place l.last (drop l.place l.drawops) ≡ last_from l.page 0 0 l.drawops
