-- A coordinate on its way along a line.
use Rattle.std.specs.Prelude.{ℕ}

-- it has gone so many of the steps that lead from one number to another
pub record Progress : Type 0 where
  pub from : ℕ
  pub to : ℕ
  pub steps : ℕ
  pub gone : ℕ
