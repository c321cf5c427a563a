-- Shares by their parts.
use Rattle.std.proofs.Common.{ℕ, List}
use Rattle.wb_judge.specs.Shares.{Shares}
use Rattle.wb_judge.specs.declared.strange.Given.{Given}

abbrev pub shares_of : ℕ → ℕ → List Given → Shares
shares_of most most_of_origin given = record { most = most; most_of_origin = most_of_origin; given = given }
