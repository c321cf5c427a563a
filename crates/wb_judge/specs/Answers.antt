-- Who answers us: whoever echoes a moment at which we reported lately. Nobody who did not hear that report knows the moment.
use Rattle.std.specs.Prelude.{ℕ, ◌+◌, ◌-◌, ◌/◌, Bool, false, ◌&&◌, List, Option, Some, None, nat_eq, nat_le}
use Rattle.std.specs.List.{list_any}
use Rattle.wb_names.specs.declared.echo.Echo.{Echo}
use Rattle.wb_judge.specs.Lists.{joined}
use Rattle.wb_judge.specs.declared.limits.TheConstants.{DRIFT, FRESH, MOST_OWN}

-- the moments of our reports, with one more
abbrev pub reported : ℕ → List ℕ → List ℕ
reported sent own = joined MOST_OWN sent own

-- The longest that a clock tells of a time that ours tells as so long, since clocks do not go alike.
abbrev pub by_their_clock : ℕ → ℕ
by_their_clock ours = ours + ours / DRIFT

-- An echo of us answers if its moment is one of ours and not too old, and it was held no longer than that is ago by the clock of its sender.
unfoldable pub answers : List ℕ → Option Echo → ℕ → Bool
answers own None now = false
answers own (Some e) now = list_any (nat_eq e.sent) own && (nat_le (now - e.sent) FRESH && nat_le e.held (by_their_clock (now - e.sent)))
