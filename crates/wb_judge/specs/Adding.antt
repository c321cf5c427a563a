-- What we draw, and what our reports echo besides.
use Rattle.std.specs.Prelude.{ℕ, ◌-◌, Bool, ◌&&◌, Option, Some, None, nat_le, if◌then◌else◌}
use Rattle.wb_names.specs.declared.echo.Echo.{Echo}
use Rattle.wb_judge.specs.Aliens.{alien_at}
use Rattle.wb_judge.specs.Judge.{Judge, is_full}
use Rattle.wb_judge.specs.declared.judge.AddFault.{AddFault}
use Rattle.wb_judge.specs.declared.judge.AddFault.TheVariants.{Full, Twin}
use Rattle.wb_judge.specs.declared.aliens.Alien.{Alien}
use Rattle.wb_judge.specs.declared.limits.TheConstants.{FRESH}

-- why nothing can be drawn
abbrev pub adding_fault : Bool → ℕ → Judge → Option AddFault
adding_fault drawing held j = if j.has_twin then Some Twin else if drawing && is_full held j then Some Full else None

-- a report under our number that is not ours, if it came lately
abbrev pub echo_of : ℕ → ℕ → Option Alien → Option Echo
echo_of me now None = None
echo_of me now (Some alien) = if nat_le (now - alien.at) FRESH then Some (record { source = me; sent = alien.sent; held = now - alien.at }) else None

abbrev pub own_echo : ℕ → Judge → Option Echo
own_echo now j = echo_of j.me now (alien_at now j.aliens)
