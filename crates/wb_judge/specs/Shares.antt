-- What is held that no known origin gave, and how much of it is taken.
use Rattle.std.specs.Prelude.{ℕ, List}
use Rattle.wb_judge.specs.declared.strange.Given.{Given}

-- at most `most` drawops, and of one origin at most `most_of_origin`
pub record Shares : Type 0 where
  pub most : ℕ
  pub most_of_origin : ℕ
  pub given : List Given
