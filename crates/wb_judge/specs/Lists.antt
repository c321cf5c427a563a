-- Lists of at most `most` things: the one that came first goes.
use Rattle.std.specs.Prelude.{ℕ, List, [], ◌∷◌, ◌++◌, drop, length, nat_lt, if◌then◌else◌}

-- with a place for one more
abbrev pub with_place : {X : Type 0} → ℕ → List X → List X
with_place most xs = if nat_lt (length xs) most then xs else drop 1 xs

abbrev pub joined : {X : Type 0} → ℕ → X → List X → List X
joined most x xs = with_place most xs ++ x ∷ []
