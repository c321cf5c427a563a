-- What timers tell of what is held, of hosts of all kinds.
use Rattle.std.specs.Prelude.{◌≡◌, ℕ, true, is_some, List, None}
use Rattle.wb_names.specs.Values.{NameValue}
use Rattle.wb_recovery.specs.Events.{timers_of}
use Rattle.wb_keeper.specs.Keeper.{holds}
use Rattle.wb_member.specs.Opened.{events}
use Rattle.wb_host_sessions.specs.Hosts.{HostEvent, hosts}
use Rattle.wb_laws_machines.specs.Machines.{At, member_at}

-- No request timer stands for what a host holds, and a repair timer only for what it holds.
abbrev pub TimersTellHoldings : Type 0
TimersTellHoldings = (numbers : ℕ → ℕ) (trace : List (At HostEvent)) (i : ℕ) (n : NameValue)
    → let host = member_at hosts numbers trace i in
    (holds host.is.held n ≡ true → (timers_of host.is.constants (events host) n).ask ≡ None)
    × (is_some (timers_of host.is.constants (events host) n).answer ≡ true → holds host.is.held n ≡ true)
