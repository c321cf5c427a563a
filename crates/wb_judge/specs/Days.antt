-- The time of day goes on from the last that was set.
use Rattle.std.specs.Prelude.{ℕ, ◌+◌, ◌-◌}

-- at a moment the time of day was set
pub record DayClock : Type 0 where
  pub wall : ℕ
  pub at : ℕ

abbrev pub time_of_day : DayClock → ℕ → ℕ
time_of_day clock now = clock.wall + (now - clock.at)
