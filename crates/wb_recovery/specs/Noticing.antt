-- Notices of many names at once.
use Rattle.std.specs.Prelude.{ℕ, Bool, ◌&&◌, Option, None, Some, unwrap_or, is_some, List, [], ◌∷◌, if◌then◌else◌}
use Rattle.std.specs.List.{fold}
use Rattle.wb_names.specs.Values.{NameValue}
use Rattle.wb_names.specs.Orders.{same_name}
use Rattle.wb_recovery.specs.Events.{Event, Notice}
use Rattle.wb_recovery.specs.Timing.{no_timers}
use Rattle.wb_recovery.specs.declared.missed.Missed.{Missed}
use Rattle.wb_recovery.specs.declared.timers.Timers.{Timers}

-- the calls, once each of these names was missed, in their order
abbrev pub notices : ℕ → List Event → List Missed → List Event
notices now events missed = fold (λ before m. Notice m.name now m.delay m.word ∷ before) events missed

-- the timers without a request timer
abbrev pub without_ask : Timers → Timers
without_ask s = record s { ask = None }

-- of a name that had a record, or none, what is left of it once its request timer is taken away
abbrev pub unset : Bool → Timers → Option Timers
unset had s = if had then Some (without_ask s) else None

-- what is then kept of a name: a request timer that stands is taken away, and nothing else
abbrev pub unset_at : NameValue → NameValue × Bool → Option Timers → Option Timers
unset_at n s kept = if same_name s.0 n && is_some (unwrap_or kept no_timers).ask then unset s.1 (unwrap_or kept no_timers) else kept

-- the same for each of some names, the last first
abbrev pub taken_back : NameValue → List (NameValue × Bool) → Option Timers → Option Timers
taken_back n [] kept = kept
taken_back n (s ∷ set) kept = unset_at n s (taken_back n set kept)
