-- The timers of a name after one of them fired.
use Rattle.std.specs.Prelude.{ℕ, List}
use Rattle.wb_names.specs.Values.{NameValue}
use Rattle.wb_recovery.specs.Timing.{fired_ask, fired_answer, quiet_after}
use Rattle.wb_recovery.specs.Events.{word_for}
use Rattle.wb_recovery.specs.declared.tuning.Tuning.{Tuning}
use Rattle.wb_recovery.specs.declared.timers.Timers.{Timers}

-- Its request timer fired. If the requests of several names fire at once, each takes the word at its own place.
abbrev pub with_ask_fired : Tuning → ℕ → List ℕ → List NameValue → (NameValue → Timers) → NameValue → Timers
with_ask_fired t now words firing timers n = record (timers n) { ask = fired_ask t now (word_for words firing n) (timers n).ask }

-- Its answer timer fired.
abbrev pub with_answer_fired : ℕ → (NameValue → Timers) → NameValue → Timers
with_answer_fired now timers n = record (timers n) { answer = fired_answer now (timers n).answer; quiet = quiet_after now (timers n).quiet (timers n).answer }
