-- The line of a batch of few arrivals.
use Rattle.std.proofs.Common.{◌≡◌, ℕ, ◌+◌, ◌<◌, [], ◌∷◌, ◌++◌, refl}
use Rattle.std.specs.Prelude.{codes}
use Rattle.std.proofs.lemmas.Fmt.{decimal_digit}
use Rattle.wb_names.specs.Arrivals.{counts}
use Rattle.wb_commands.specs.Answers.{batch_line}

pub digits_line : (a b c d : ℕ) → a < 10 → b < 10 → c < 10 → d < 10 → batch_line (counts a b c d) ≡ codes "batch " ++ ((48 + a) ∷ 32 ∷ (48 + b) ∷ 32 ∷ (48 + c) ∷ 32 ∷ (48 + d) ∷ 10 ∷ [])
digits_line a b c d x y z w = rw (decimal_digit a x, decimal_digit b y, decimal_digit c z, decimal_digit d w) refl
