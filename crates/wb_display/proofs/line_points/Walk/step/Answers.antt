use Rattle.std.proofs.Common.{◌∙◌, rules, refl, arith}
use Rattle.wb_display.proofs.Lines.{step_over, step_along}
use Rattle.wb_display.proofs.line_points.Walk.step.Goals as goal

pub invariant_of-self : goal.invariant_of-self
invariant_of-self c = step_over c.self.inside c.from.result c.from-whole.result c.self.invariant (let v = c.self.view_is in search rules) (c.from.ensures ∙ c.abs_diff.ensures) c.from-whole.ensures _ c.if-self-whole.true (λ le. refl) (λ lt. absurd (omega arith))

pub invariant_of-self-else-self : goal.invariant_of-self-else-self
invariant_of-self-else-self c = step_over c.self.inside c.from.result c.from-whole.result c.self.invariant (let v = c.self.view_is in search rules) (c.from.ensures ∙ c.abs_diff.ensures) c.from-whole.ensures _ c.if-self-whole.true (λ le. absurd (omega arith)) (λ lt. refl)

pub invariant_of-self-else-self-whole : goal.invariant_of-self-else-self-whole
invariant_of-self-else-self-whole c = step_along c.self.inside c.from.result c.from-whole.result c.self.invariant (let v = c.self.view_is in search rules) (c.from.ensures ∙ c.abs_diff.ensures) c.from-whole.ensures c.if-self-whole.false
