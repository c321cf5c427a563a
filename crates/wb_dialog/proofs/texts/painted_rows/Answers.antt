use Rattle.std.proofs.Common.{ℕ, ap, arith, flat_map, ◌∙◌}
use Rattle.std.specs.List.{range_with_len}
use Rattle.wb_dialog.specs.Texts.{painted_row}
use Rattle.wb_dialog.proofs.Rows.{one_more, painted_none}
use Rattle.wb_dialog.proofs.texts.painted_rows.Goals as goal

pub loop-init : goal.loop-init
loop-init c = record { within = omega arith; rows = λ shown is. painted_none shown c.args.width c.args.height c.args.canvas.now _ is c.new-text.ensures.items }

pub loop-preserved : goal.loop-preserved
loop-preserved c = record {
  within = omega (arith, c.loop-test.true);
  rows = λ shown is. one_more shown c.args.width c.args.height c.loop.counter c.loop.rest.now c.loop.text.items c.loop-test.true (c.loop.invariant.rows shown is) _ _ c.in_ok-rest.ensures.others c.in_ok-rest.ensures.text;
}

pub returns : goal.returns
returns c = λ shown is.
    (c.loop.invariant.rows shown is).written
    ∙ ap (λ (n : ℕ). flat_map (painted_row shown c.args.width) (range_with_len 0 n)) (omega (arith, c.loop-test.false, c.loop.invariant.within))
