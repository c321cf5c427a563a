-- Laws of members are laws of hosts of all kinds.
use Rattle.std.proofs.Common.{◌≡◌, true, List, None, subst}
use Rattle.std.specs.Prelude.{is_some}
use Rattle.wb_recovery.specs.Events.{timers_of}
use Rattle.wb_keeper.specs.Keeper.{holds}
use Rattle.wb_member.specs.Opened.{Opened, events}
use Rattle.wb_laws_machines.specs.Machines.{At, member_at}
use Rattle.wb_laws_machines.specs.Maps.{below}
use Rattle.wb_laws_machines.proofs.Mapped.{member_below}
use Rattle.wb_laws_sessions.specs.Members.{Deed, member}
use Rattle.wb_laws_sessions.proofs.Holding.{answers_are_of_held, none_held_is_asked_for}
use Rattle.wb_host_sessions.specs.Hosts.{hosts}
use Rattle.wb_host_sessions.specs.Members.{hosts_map}
use Rattle.wb_host_sessions.specs.Timers.{TimersTellHoldings}
use Rattle.wb_host_sessions.proofs.Members.{hosts_do}

pub timers_tell_holdings : TimersTellHoldings
timers_tell_holdings numbers trace i n =
    let low : List (At Deed) = below hosts hosts_map numbers trace in
    let same : member_at member numbers low i ≡ member_at hosts numbers trace i = member_below hosts_do numbers trace i in (
      subst (λ (h : Opened). holds h.is.held n ≡ true → (timers_of h.is.constants (events h) n).ask ≡ None) same (none_held_is_asked_for numbers low i n),
      subst (λ (h : Opened). is_some (timers_of h.is.constants (events h) n).answer ≡ true → holds h.is.held n ≡ true) same (answers_are_of_held numbers low i n),
    )
