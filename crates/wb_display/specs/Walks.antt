-- The running error of a coordinate on its way along a line, against the division, and the steps at which a line is on a canvas.
use Rattle.std.specs.Prelude.{◌≡◌, ℕ, ◌+◌, ◌*◌, ◌%◌, ◌<◌, ◌≤◌, ◌⊎◌}
use Rattle.wb_display.specs.Canvas.{distance, line_at}
use Rattle.wb_display.specs.declared.line_points.Steps.{Steps}
use Rattle.wb_display.specs.declared.line_points.Walk.TheInside.{Inside}

-- the remainder of the division whose quotient is the share after k of m steps from a to b
abbrev pub error_at : ℕ → ℕ → ℕ → ℕ → ℕ
error_at a b m k = (2 * k * distance a b + m) % (2 * m)

-- it stands where the division says, and its error is what the division leaves
pub record IsWalk (w : Inside) : Type 0 where
  pub position : w.at ≡ line_at w.from w.to w.steps w.gone
  pub remainder : w.error ≡ error_at w.from w.to w.steps w.gone
  pub reach : distance w.from w.to ≤ w.steps
  pub within : w.gone ≤ w.steps

-- these are the steps at which a line of m steps is on a canvas of w columns and h rows
pub record AreInside (w h x0 y0 x1 y1 m : ℕ) (inside : Steps) : Type 0 where
  pub before : (k : ℕ) → k < inside.first → (w ≤ line_at x0 x1 m k) ⊎ (h ≤ line_at y0 y1 m k)
  pub columns : (k : ℕ) → inside.first ≤ k → k < inside.end → line_at x0 x1 m k < w
  pub rows : (k : ℕ) → inside.first ≤ k → k < inside.end → line_at y0 y1 m k < h
  pub after : (k : ℕ) → inside.end ≤ k → k ≤ m → (w ≤ line_at x0 x1 m k) ⊎ (h ≤ line_at y0 y1 m k)
  pub within : inside.end ≤ m + 1
