use Rattle.std.proofs.Common.{arith}
use Rattle.std.proofs.lemmas.List.Sums.{sum_by_more}
use Rattle.wb_judging.specs.Missing.{range_len}
use Rattle.wb_judging.proofs.missing.ranges_len.Goals as goal

pub loop-gap-preserved : goal.loop-gap-preserved
loop-gap-preserved c =
    let more = sum_by_more range_len c.args.gaps.now c.loop-gap.gap-index (record { source = 0; first = 0; last = 0 }) c.loop-gap-test.true in
    omega (arith, more, c.range_len.ensures, c.saturating_add-total.ensures, c.loop-gap.invariant)
