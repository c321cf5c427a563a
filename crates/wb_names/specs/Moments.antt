-- Which moments there are.
use Rattle.std.specs.Prelude.{ℕ, ◌<◌}
use Rattle.wb_names.specs.declared.moment.TheConstants.{MOMENT_LIMIT}

-- microseconds, below the limit
abbrev pub IsMoment : ℕ → Type 0
IsMoment now = now < MOMENT_LIMIT
