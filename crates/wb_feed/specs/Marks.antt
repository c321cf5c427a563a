-- Marks at places of a list of drawops.
use Rattle.std.specs.Prelude.{◌≡◌, ℕ, ◌<◌, ◌==◌, ◌||◌, Bool, false, cond, List, [], ◌∷◌, length, slice_index_or}
use Rattle.wb_names.specs.Values.{DrawopValue}

abbrev pub has : ℕ → List ℕ → Bool
has p [] = false
has p (q ∷ qs) = (q == p) || has p qs

-- the drawops that are not marked
abbrev pub unmarked : List Bool → List DrawopValue → List DrawopValue
unmarked [] ds = []
unmarked (m ∷ ms) [] = []
unmarked (m ∷ ms) (d ∷ ds) = cond m (unmarked ms ds) (d ∷ unmarked ms ds)

-- There are `n` marks: those at these places are set, and no others.
pub record Marks (places : List ℕ) (n : ℕ) (marks : List Bool) : Type 0 where
  pub long : length marks ≡ n
  pub each : (p : ℕ) → p < n → slice_index_or marks p false ≡ has p places
