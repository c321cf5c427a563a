-- What is written for an input whose lines are taken in groups, each in one of several ways, and how it ends.
use Rattle.std.specs.Prelude.{◌≡◌, ℕ, List, Bool, Result, Ok, Err}
use Rattle.wb_lines.specs.declared.fault.DriveFault.{DriveFault}
use Rattle.wb_lines.specs.declared.fault.DriveFault.TheVariants as faults
use Rattle.wb_lines.specs.Input.{InputLine, input_lines}
use Rattle.wb_lines.specs.Handling.{Met, Step, goes, stops, ends}
use Rattle.wb_lines.specs.Items.{InputEnd, finished, unreadable, endless, Items, over, group, Grouping, items}
use Rattle.wb_lines.specs.Driving.{Outcome, before, stop}

-- Which steps a handler in a state may do with the group that begins at the line of a number.
abbrev pub Steps : Type 0 → Type 0 → Type 1
Steps S F = S → ℕ → Met → List InputLine → Step S F → Type 0

-- how lines are grouped, what is done with a group, and how many lines are taken at most
pub record GroupRules (S F : Type 0) : Type 1 where
  pub by : Grouping
  pub step : Steps S F
  pub most : ℕ

abbrev pub group_rules : {S F : Type 0} → Grouping → Steps S F → ℕ → GroupRules S F
group_rules by step most = record { by = by; step = step; most = most }

-- the one step of a line that is taken alone
abbrev pub only_step : {S F : Type 0} → (S → ℕ → Met → Step S F) → Steps S F
only_step step = λ s number met joined one. one ≡ step s number met

-- how many lines were taken, or a fault
abbrev pub answer_of : {F : Type 0} → InputEnd → Result ℕ (DriveFault F)
answer_of (finished n) = Ok n
answer_of unreadable = Err faults.Read
answer_of endless = Err faults.Endless

-- This may come of a step at the line of a number, and of what follows it.
abbrev pub Proceeds : {S F : Type 0} → ℕ → Step S F → (S → Outcome F → S → Type 0) → Outcome F → S → Type 0
Proceeds number (goes text next) Rest o t = (rest : Outcome _) × Rest next rest t × (o ≡ before text rest)
Proceeds number (stops text e) Rest o t = o ≡ before text (stop (Err (faults.Line number e)))
Proceeds number (ends text) Rest o t = o ≡ before text (stop (Err faults.Endless))

-- From a state on, this may come of some items, and the state at their end is this one.
abbrev pub IsOutcomeOf : {S F : Type 0} → Steps S F → Items → S → Outcome F → S → Type 0
IsOutcomeOf Does (over end) s o t = (o ≡ stop (answer_of end)) × (t ≡ s)
IsOutcomeOf Does (group number met joined rest) s o t =
    (step : Step _ _) × Does s number met joined step × Proceeds number step (λ next. IsOutcomeOf Does rest next) o t

-- From a state on, it may come of an input; this is cut off if reading fails after it.
abbrev pub IsOutcome : {S F : Type 0} → GroupRules S F → Bool → S → List ℕ → Outcome F → S → Type 0
IsOutcome rules cut s input o t = IsOutcomeOf rules.step (items rules.by rules.most cut (input_lines input)) s o t
