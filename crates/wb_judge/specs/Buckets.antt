-- Some at once, and then one in each pause. What was taken is paid for up to a moment.
use Rattle.std.specs.Prelude.{ℕ, ◌+◌, ◌-◌, Bool, max, nat_le}

-- one more is taken: what was taken is not paid for further ahead than this
abbrev pub has_room : ℕ → ℕ → ℕ → Bool
has_room ahead paid now = nat_le (paid - now) ahead

-- up to which moment all is paid for then
abbrev pub paid_after : ℕ → ℕ → ℕ → ℕ
paid_after pause paid now = max paid now + pause
