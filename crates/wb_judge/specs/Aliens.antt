-- Reports under our number that are not ours: the last of each origin.
use Rattle.std.specs.Prelude.{ℕ, ◌-◌, ◌%◌, Bool, not, ◌&&◌, List, [], ◌∷◌, ◌++◌, Option, None, filter, length, nat_le, nat_lt, slice_get, if◌then◌else◌}
use Rattle.wb_judge.specs.Origins.{same_origin}
use Rattle.wb_judge.specs.declared.aliens.Alien.{Alien}
use Rattle.wb_judge.specs.declared.limits.TheConstants.{FRESH, MOST_ALIENS}

-- when one came, another stays: it is of another origin, and fresh
abbrev pub beside : Alien → Alien → Bool
beside a b = not (same_origin b.origin a.origin) && nat_le (a.at - b.at) FRESH

abbrev pub with_room : Alien → List Alien → List Alien
with_room a others = if nat_lt (length others) MOST_ALIENS then others ++ a ∷ [] else others

-- It is remembered if there is room beside those. So none pushes out another.
abbrev pub with_alien : Alien → List Alien → List Alien
with_alien a aliens = with_room a (filter (beside a) aliens)

-- Each has its turns: the last microseconds of a moment choose the one that is echoed.
abbrev pub alien_at : ℕ → List Alien → Option Alien
alien_at now [] = None
alien_at now (a ∷ aliens) = slice_get (a ∷ aliens) (now % length (a ∷ aliens))
