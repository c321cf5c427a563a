-- Which delays there are.
use Rattle.std.specs.Prelude.{ℕ, ◌<◌}
use Rattle.wb_recovery.specs.declared.fault.TheConstants.{DELAY_LIMIT}

-- microseconds, below the limit
abbrev pub IsDelay : ℕ → Type 0
IsDelay delay = delay < DELAY_LIMIT
