-- The greatest number that has a property, and from where on all up to it have it.
use Rattle.std.specs.Prelude.{◌≡◌, ℕ, ◌-◌, ◌≤◌, ◌⊎◌}

-- high is the greatest number that P holds of, or 0 where it holds of none
pub record IsGreatest (P : ℕ → Type 0) (high : ℕ) : Type 0 where
  pub bound : (n : ℕ) → P n → n ≤ high
  pub reached : (high ≡ 0) ⊎ P high

-- P holds of all numbers from first to high, and not of the one right below first; first is 0 just where high is
pub record IsWholeFrom (P : ℕ → Type 0) (high first : ℕ) : Type 0 where
  pub whole : (n : ℕ) → 1 ≤ n → first ≤ n → n ≤ high → P n
  pub bound : first ≤ high
  pub positive : 1 ≤ high → 1 ≤ first
  pub below : ¬ P (first - 1)
