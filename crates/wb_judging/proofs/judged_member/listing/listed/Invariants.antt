use Rattle.std.proofs.Common.{◌≡◌, map, take}
use Rattle.wb_judging.specs.Asking.{listed}
use Rattle.wb_judging.proofs.judged_member.listing.listed.Given as goal

abbrev pub invariant-loop-page : goal.invariant-loop-page
invariant-loop-page l = l.all.items ≡ map (listed l.judge.me l.judge.strange.given l.drawops) (take l.page-index l.pages)
