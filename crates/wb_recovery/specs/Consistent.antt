-- How a recovery keeps its timers: by name, with their alarms, and the first moment of each kind.
use Rattle.std.specs.Prelude.{◌≡◌, ℕ, IsTrue, true}
use Rattle.std.specs.BTreeMap.{BTreeMap, IsOrdered}
use Rattle.wb_names.specs.Moments.{IsMoment}
use Rattle.wb_names.specs.Values.{NameValue}
use Rattle.wb_names.specs.Orders.{name_cmp}
use Rattle.wb_recovery.specs.Timing.{are_constants, ask_due, answer_due, AreDelays}
use Rattle.wb_recovery.specs.Alarms.{Keep}
use Rattle.wb_recovery.specs.Values.{timers_at}
use Rattle.wb_recovery.specs.declared.tuning.Tuning.{Tuning}
use Rattle.wb_recovery.specs.declared.timers.Timers.{Timers}
use Rattle.wb_recovery.specs.declared.alarms.Alarms.{Alarms}

pub record IsConsistent (constants : Tuning) (last : ℕ) (kept : BTreeMap NameValue Timers) (ask_alarms answer_alarms : Alarms) : Type 0 where
  pub tuning : IsTrue (are_constants constants)
  pub moment : IsMoment last
  pub ordered : IsOrdered name_cmp kept
  pub delays : (n : NameValue) → AreDelays (timers_at kept.entries n)
  pub asks : Keep (λ n. ask_due (timers_at kept.entries n)) ask_alarms
  pub answers : Keep (λ n. answer_due (timers_at kept.entries n)) answer_alarms
  pub first_ask : ask_alarms.is_exact ≡ true
  pub first_answer : answer_alarms.is_exact ≡ true
