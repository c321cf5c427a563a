-- How much may be asked for: each name that is asked for is paid for in a quarter of a second.
use Rattle.std.specs.Prelude.{ℕ, ◌+◌, ◌-◌, ◌*◌, Bool, max, nat_le}
use Rattle.wb_policy.specs.declared.limits.TheConstants.{COST, PAYS, PLACES, PLACES_OF_LAST}

-- of the names that may be asked for ahead of what is paid for, one is left
abbrev pub has_credit : ℕ → ℕ → Bool
has_credit owed now = nat_le (max owed now - now) ((PLACES - 1) * COST)

-- and so is one of those that what comes last may take
abbrev pub leaves_some : ℕ → ℕ → Bool
leaves_some owed now = nat_le (max owed now - now) ((PLACES_OF_LAST - 1) * COST)

-- Less is owed than this many timers cost, by one of them at least: so one may give way to another, or start anew, and no more is owed than stands asked.
abbrev pub is_covered : ℕ → ℕ → ℕ → Bool
is_covered count owed now = nat_le (max owed now - now) ((count - 1) * COST)

-- up to which moment names are paid for, once one more is asked for
abbrev pub spent : ℕ → ℕ → ℕ
spent owed now = max owed now + COST

-- And once one that was asked for came, which pays for two: for itself, and for one that is asked for again since its request was lost.
abbrev pub repaid : ℕ → ℕ
repaid owed = owed - PAYS * COST
