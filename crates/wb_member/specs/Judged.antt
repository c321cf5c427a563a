-- What a member shows to whoever judges for it.
use Rattle.std.specs.Prelude.{ℕ, Bool, List, Option, length, nat_le}
use Rattle.wb_names.specs.Values.{NameValue}
use Rattle.wb_names.specs.History.{highest as highest_held}
use Rattle.wb_names.specs.declared.echo.Echo.{Echo}
use Rattle.wb_names.specs.declared.name.PageId.{PageId}
use Rattle.wb_gaps.specs.Holes.{hole_after as hole_held_after}
use Rattle.wb_gaps.specs.declared.holes.Hole.{Hole}
use Rattle.wb_recovery.specs.Events.{asking, timers_of, names_of}
use Rattle.wb_keeper.specs.GivingUp.{level_of}
use Rattle.wb_keeper.specs.Keeper.{delay_to, holds as history_holds}
use Rattle.wb_keeper.specs.Sessions.{echoes_of}
use Rattle.wb_member.specs.Opened.{Opened, events, present}

-- its board has no cell for another drawop
abbrev pub is_full : Opened → Bool
is_full host = nat_le host.is.cells (length host.is.held)

abbrev pub holds : Opened → NameValue → Bool
holds host name = history_holds host.is.held name

-- the names with a request timer, ascending
abbrev pub asked_names : Opened → List NameValue
asked_names host = asking (names_of (events host)) (timers_of host.is.constants (events host))

-- how often the request timer of a name was backed off, if one stands
abbrev pub level : Opened → NameValue → Option ℕ
level host name = level_of (timers_of host.is.constants (events host)) name

-- the delay to a source
abbrev pub delay : Opened → ℕ → ℕ
delay host source = delay_to host.is.number host.is.calls source

-- an echo to each sender that is remembered, ascending
abbrev pub echoes : Opened → List Echo
echoes host = echoes_of host.is.number host.is.calls (present host)

-- the greatest number of a source on a page that is held, or 0
abbrev pub highest : PageId → ℕ → Opened → ℕ
highest page source host = highest_held page source host.is.held

-- the first hole that begins after this number of a source on a page
abbrev pub hole_after : PageId → ℕ → ℕ → Opened → Option Hole
hole_after page source number host = hole_held_after host.is.held page source number
