use Rattle.std.proofs.Common.{rules, ◌≡◌, [], length, ap, arith}
use Rattle.wb_gaps.specs.Merging.{joined}
use Rattle.wb_gaps.proofs.JoinedMarks.{joined_count}
use Rattle.wb_gaps.proofs.joined.count_sources.Goals as goal

pub loop-count-init : goal.loop-count-init
loop-count-init c = record { counted = omega arith; few = (joined_count c.args.first.now c.args.second.now c.requires.first c.requires.second).1 }

pub returns : goal.returns
returns c =
    let all = (joined_count c.args.first.now c.args.second.now c.requires.first c.requires.second).0 in
    let none : joined c.loop-count.left.first.now c.loop-count.left.second.now ≡ [] = search rules in
    let ended : length (joined c.loop-count.left.first.now c.loop-count.left.second.now) ≡ 0 = ap length none in
    let counted = c.loop-count.invariant.counted in
    omega arith
