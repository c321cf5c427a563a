-- Names that a keeper asks for.
use Rattle.std.specs.Prelude.{ℕ, Bool, Option, Some, None, is_some}
use Rattle.wb_names.specs.Values.{NameValue}
use Rattle.wb_recovery.specs.Timing.{is_standing}
use Rattle.wb_recovery.specs.declared.timers.AskTimer.{AskTimer}
use Rattle.wb_recovery.specs.declared.timers.Timers.{Timers}

-- a request timer stands for the name
abbrev pub is_asked : (NameValue → Timers) → NameValue → Bool
is_asked timers name = is_some (timers name).ask

-- a timer stands for the name, of whichever kind
abbrev pub is_timed : (NameValue → Timers) → NameValue → Bool
is_timed timers name = is_standing (timers name)

-- how often a request timer was backed off, if one stands
abbrev pub level : Option AskTimer → Option ℕ
level None = None
level (Some ask) = Some ask.level

abbrev pub level_of : (NameValue → Timers) → NameValue → Option ℕ
level_of timers name = level (timers name).ask
