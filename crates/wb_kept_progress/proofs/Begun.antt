-- Hosts that took in moments before their first line: nothing stands at them.
use Rattle.std.proofs.Common.{◌≡◌, ℕ, List, [], ◌∷◌, ◌∙◌, None, ap}
use Rattle.wb_names.specs.Values.{NameValue}
use Rattle.wb_recovery.specs.Events.{timers_of}
use Rattle.wb_recovery.specs.declared.timers.Timers.{Timers}
use Rattle.wb_progress.proofs.OneCall.{ticks_leave}
use Rattle.wb_member.specs.Opened.{Opened, due_count, events}
use Rattle.wb_member.specs.Random.{words_of}
use Rattle.wb_member.specs.declared.calls.Call.TheVariants.{Tick}
use Rattle.wb_keeping.specs.Kept.{Calls, ticks_at}
use Rattle.wb_keeping.specs.Performing.{after_line, after_lines}

-- what each tick keeps, ticks keep
pub ticks_keep : (P : Opened → Type 0) → ((now : ℕ) (host : Opened) → P host → P (after_line (Calls (Tick now)) host)) → (moments : List ℕ) (host : Opened) → P host → P (after_lines (ticks_at moments) host)
ticks_keep P one [] host is = is
ticks_keep P one (now ∷ moments) host is = ticks_keep P one moments (after_line (Calls (Tick now)) host) (one now host is)

abbrev pub no_timers : Timers
no_timers = record { ask = None; answer = None; quiet = 0 }

abbrev pub HasNoTimers : NameValue → Opened → Type 0
HasNoTimers n host = timers_of host.is.constants (events host) n ≡ no_timers

pub tick_no_timers : (n : NameValue) (now : ℕ) (host : Opened) → HasNoTimers n host → HasNoTimers n (after_line (Calls (Tick now)) host)
tick_no_timers n now host is =
    ticks_leave host.is.number host.is.constants host.is.calls host.is.held now (words_of host.random (due_count now host)) n
    (record { ask = ap (λ (s : Timers). s.ask) is; answer = ap (λ (s : Timers). s.answer) is }) ∙ is
