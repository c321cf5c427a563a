-- The delay to another member, from an echo.
use Rattle.std.specs.Prelude.{ℕ, ◌+◌, ◌-◌, ◌/◌, ◌&&◌, nat_le, Option, Some, None, if◌then◌else◌}
use Rattle.wb_recovery.specs.Faults.{is_delay}

-- half of the time on the way, where that is below 2^24 microseconds
abbrev pub delay_from : ℕ → ℕ → ℕ → Option ℕ
delay_from sent held now =
    let delay = (now - sent - held) / 2 in
    if nat_le (sent + held) now && is_delay delay then Some delay else None
