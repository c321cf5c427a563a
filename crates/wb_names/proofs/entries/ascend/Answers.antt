use Rattle.std.proofs.lemmas.Grind.{common_steps}
use Rattle.std.proofs.Common.{◌≡◌, length, arith, subst}
use Rattle.std.proofs.lemmas.List.{get_or_read}
use Rattle.wb_names.proofs.Ascents.{Climbs, climb, climbed, descends_read}
use Rattle.wb_names.proofs.entries.ascend.Goals as goal
use Rattle.wb_names.proofs.entries.ascend.Goals.{else-place-gt0-via-then-place-gt0+else-source, else-place-gt0-via-else-place-gt0}

pub returns-then-source : goal.returns-then-source
returns-then-source g c = descends_read g.E.Entry.source _ c.loop-place.place _ _ (omega arith) (omega arith) c.index-entries-place.is c.index-entries-place-then-place-gt0.is (omega (arith, c.source-source.ensures.source, c.source.ensures.source))

pub loop-place-preserved : goal.loop-place-preserved
loop-place-preserved g c = grind (arith, common_steps, climb, get_or_read)

pub returns : goal.returns
returns g c =
    let all : c.loop-place.place ≡ length c.args.entries.now = omega arith in
    climbed g.E.Entry.source g.E.Entry.IsPositive _ (subst (Climbs g.E.Entry.source g.E.Entry.IsPositive c.args.entries.now) all c.loop-place.invariant)
