-- What a keeper sends as time goes on.
use Rattle.std.specs.Prelude.{ℕ, List, Option, Some, filter}
use Rattle.std.specs.List.{find, filter_map}
use Rattle.std.specs.Option.{option_map}
use Rattle.wb_names.specs.Values.{NameValue, DrawopValue}
use Rattle.wb_names.specs.Orders.{same_name}
use Rattle.wb_codec.specs.declared.datagram.Datagram.{Datagram}
use Rattle.wb_codec.specs.declared.datagram.Datagram.TheVariants.{Draw, Request}
use Rattle.wb_recovery.specs.Events.{asking, names_of, timers_of, actions_of}
use Rattle.wb_recovery.specs.Stopping.{receipts}
use Rattle.wb_recovery.specs.Values.{RecoveryValue, timers_in, names_in}
use Rattle.wb_recovery.specs.declared.tuning.Tuning.{Tuning}
use Rattle.wb_recovery.specs.declared.plan.Action.{Action}
use Rattle.wb_recovery.specs.declared.plan.Action.TheVariants.{Ask, Answer}
use Rattle.wb_keeper.specs.Keeper.{KeeperCall, received_of, delay_to, events_of, holds}

-- the member of a name
abbrev pub drawop_of : List DrawopValue → NameValue → Option DrawopValue
drawop_of history name = find (λ d. same_name d.name name) history

-- a request from me, or the drawop that is held; nothing if none is
abbrev pub sent_for : ℕ → List DrawopValue → Action → Option Datagram
sent_for me history (Ask name) = Some (Request me name)
sent_for me history (Answer name) = option_map Draw (drawop_of history name)

abbrev pub sends_for : ℕ → List DrawopValue → List Action → List Datagram
sends_for me history actions = filter_map (sent_for me history) actions

-- the names with a request timer that are held
abbrev pub stopped_in : List DrawopValue → RecoveryValue → List NameValue
stopped_in history recovery = filter (holds history) (asking (names_in recovery) (timers_in recovery))

-- the same, read off the accepted calls
abbrev pub stopped_after : ℕ → Tuning → List KeeperCall → List DrawopValue → List NameValue
stopped_after me constants calls history = filter (holds history) (asking (names_of (events_of me calls)) (timers_of constants (events_of me calls)))

-- what a tick at a moment sends, given the accepted calls before it and the history
abbrev pub sent_by_tick : ℕ → Tuning → List KeeperCall → List DrawopValue → ℕ → List Datagram
sent_by_tick me constants calls history now = sends_for me history (actions_of constants (receipts now (events_of me calls) (received_of (delay_to me calls) (stopped_after me constants calls history))) now)
