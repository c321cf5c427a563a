-- Which delays a host believes, and which it takes for one that it does not know.
use Rattle.std.specs.Prelude.{ℕ, ◌+◌, ◌*◌, ◌/◌, max, min, nat_eq, if◌then◌else◌}
use Rattle.wb_recovery.specs.declared.limits.TheConstants.{UNKNOWN_DELAY}
use Rattle.wb_policy.specs.declared.limits.TheConstants.{LEAST_DELAY, MOST_DELAY}

-- A source that told a delay is known: its delay is never the unknown one.
abbrev pub known : ℕ → ℕ
known micros = if nat_eq micros UNKNOWN_DELAY then UNKNOWN_DELAY + 1 else micros

-- not below ten milliseconds, where computers differ more than networks, and not above a second
abbrev pub bounded : ℕ → ℕ
bounded micros = known (min (max micros LEAST_DELAY) MOST_DELAY)

-- the usual delay once one more was heard: an eighth of the way to it
abbrev pub usual_with : ℕ → ℕ → ℕ
usual_with usual micros = (7 * usual + micros) / 8
