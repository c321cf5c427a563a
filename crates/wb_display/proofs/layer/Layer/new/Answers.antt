use Rattle.std.proofs.Common.{arith}
use Rattle.wb_display.proofs.Layers.{nothing_shown}
use Rattle.wb_display.proofs.layer.Layer.new.Goals as goal

pub invariant_of-result : goal.invariant_of-result
invariant_of-result c = rw (c.new-2.ensures.empty, c.new-3.ensures.items) (record {
  held = record {
    names = λ i j d ij h. absurd (omega arith);
    keys = λ k d h. absurd (omega arith);
    last_words = c.new.ensures.none;
  };
  view = nothing_shown c.new.result.page;
})
