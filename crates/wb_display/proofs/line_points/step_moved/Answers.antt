use Rattle.std.proofs.Common.{ℕ, ◌<◌, ◌≤◌, subst}
use Rattle.wb_display.proofs.Lines.{step_is, moves_before, moves_after}
use Rattle.wb_display.proofs.line_points.step_moved.Goals as goal

pub returns-clause-before : goal.returns-clause-before
returns-clause-before c k lt = moves_before _ _ _ k c.requires.some c.requires.fits c.requires.reach (subst (λ (t : ℕ). k < t) (step_is c.args.distance c.args.steps c.args.moved _ _ _ c.div_ceil.ensures c.from.ensures c.from-2.ensures) lt)

pub returns-clause-after : goal.returns-clause-after
returns-clause-after c k le = moves_after _ _ _ k c.requires.some c.requires.fits c.requires.reach (subst (λ (t : ℕ). t ≤ k) (step_is c.args.distance c.args.steps c.args.moved _ _ _ c.div_ceil.ensures c.from.ensures c.from-2.ensures) le)
