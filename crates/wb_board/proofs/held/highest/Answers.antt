use Rattle.std.proofs.Common.{ℕ, ◌∙◌, ap, sym}
use Rattle.std.specs.Prelude.{max}
use Rattle.wb_board.proofs.LastNumbers.{highest_more}
use Rattle.wb_board.proofs.held.highest.Goals as goal

pub loop-drawop-preserved : goal.loop-drawop-preserved
loop-drawop-preserved c =
    c.max-highest.ensures ∙ ap (λ (n : ℕ). max n c.loop-drawop.highest) c.number_on.ensures
    ∙ ap (max _) c.loop-drawop.invariant
    ∙ sym (highest_more c.args.page c.args.source c.args.list.now c.loop-drawop.drawop-index c.drawop-item.result c.loop-drawop-test.true c.drawop-item.is)
