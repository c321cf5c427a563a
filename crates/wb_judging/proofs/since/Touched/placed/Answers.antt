use Rattle.std.proofs.Common.{◌∙◌, ◌++◌, ap}
use Rattle.std.specs.Prelude.{Bool}
use Rattle.wb_judging.specs.Since.{is_among, placed_if}
use Rattle.wb_judging.proofs.Patching.{placed_end, placed_step}
use Rattle.wb_judging.proofs.since.Touched.placed.Goals as goal

pub loop-place-preserved : goal.loop-place-preserved
loop-place-preserved c =
    let place = c.loop-place.place in
    let before = c.loop-place.placed.items in
    let d = c.index-drawops-place.result in
    placed_step (is_among c.args.self.now) place c.args.drawops.now d before _ c.loop-place-test.true c.index-drawops-place.is
    (c.in_ok-add_if.ensures ∙ ap (λ (b : Bool). before ++ placed_if b place d) c.has.ensures) c.loop-place.invariant

pub returns : goal.returns
returns c = placed_end (is_among c.args.self.now) c.loop-place.place c.args.drawops.now c.loop-place.placed.items c.loop-place-test.false c.loop-place.invariant
