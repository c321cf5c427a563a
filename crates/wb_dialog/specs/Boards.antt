-- The board of a host.
use Rattle.std.specs.Prelude.{ℕ}

-- what the line of a board says, but for its workers
pub record BoardValue : Type 0 where
  pub member : ℕ
  pub cells : ℕ
  pub seed : ℕ
