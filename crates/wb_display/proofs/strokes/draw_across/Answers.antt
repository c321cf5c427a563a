use Rattle.std.proofs.Common.{◌+◌, ap, ◌∙◌, arith}
use Rattle.wb_display.specs.Walking.{Progress}
use Rattle.wb_display.proofs.Lines.{line_more, at_step, before_end, same_steps, line_entered, line_done}
use Rattle.wb_display.proofs.strokes.draw_across.Goals as goal

pub put-requires-clause-row : goal.put-requires-clause-row
put-requires-clause-row c =
    let walk = same_steps _ _ _ _ _ _ c.abs_diff-steps.ensures c.after-y.ensures in
    before_end _ _ _ (c.from.ensures ∙ c.at.ensures ∙ at_step _ _ _ _ _ walk) (c.requires.inside.rows c.args.inside.first (omega arith) c.requires.some)

pub put-requires-clause-column : goal.put-requires-clause-column
put-requires-clause-column c = before_end _ _ _ c.along-x.ensures (c.requires.inside.columns c.args.inside.first (omega arith) c.requires.some)

pub put-requires-in-loop-k-clause-row : goal.put-requires-in-loop-k-clause-row
put-requires-in-loop-k-clause-row c =
    let walk = c.step.ensures ∙ ap (λ (p : Progress). record p { gone = p.gone + 1 }) c.loop-k.invariant.walk in
    before_end _ _ _ (c.from-in-loop-k.ensures ∙ c.at-in-loop-k.ensures ∙ at_step _ _ _ _ _ walk) (c.requires.inside.rows (c.loop-k.k + 1) (omega arith) (omega arith))

pub put-requires-in-loop-k-clause-column : goal.put-requires-in-loop-k-clause-column
put-requires-in-loop-k-clause-column c = before_end _ _ _ c.along-x-in-loop-k.ensures (c.requires.inside.columns (c.loop-k.k + 1) (omega arith) (omega arith))

pub loop-k-init : goal.loop-k-init
loop-k-init c =
    let walk = same_steps _ _ _ _ _ _ c.abs_diff-steps.ensures c.after-y.ensures in
    record {
      walk = walk;
      drawn = line_entered _ _ _ _ _ _ _ _ _ c.requires.inside _ _ _ _ c.along-x.ensures (c.from.ensures ∙ c.at.ensures ∙ at_step _ _ _ _ _ walk) c.put.ensures;
    }

pub loop-k-preserved : goal.loop-k-preserved
loop-k-preserved c =
    let walk = c.step.ensures ∙ ap (λ (p : Progress). record p { gone = p.gone + 1 }) c.loop-k.invariant.walk in
    record {
      walk = walk;
      drawn = line_more _ _ _ _ _ _ _ _ _ _ _ _ _ _ c.along-x-in-loop-k.ensures (c.from-in-loop-k.ensures ∙ c.at-in-loop-k.ensures ∙ at_step _ _ _ _ _ walk) c.loop-k.invariant.drawn c.put-in-loop-k.ensures;
    }

pub returns : goal.returns
returns c = line_done _ _ _ _ _ _ _ _ _ c.requires.inside (c.loop-k.k + 1) _ _ (omega (arith, c.requires.level)) (omega (arith, c.requires.some, c.loop-k.auto.k-end (omega arith), c.loop-k-test.false)) c.loop-k.invariant.drawn
