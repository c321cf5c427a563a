-- What is written for the lines of an input, and how it ends.
use Rattle.std.specs.Prelude.{◌≡◌, ◌⊎◌, ℕ, ◌+◌, List, [], ◌∷◌, ◌++◌, Bool, true, false, nat_lt, Option, Some, None, Result, Ok, Err, if◌then◌else◌}
use Rattle.wb_lines.specs.declared.fault.DriveFault.{DriveFault}
use Rattle.wb_lines.specs.declared.fault.DriveFault.TheVariants as faults
use Rattle.wb_lines.specs.Input.{InputLine, input_lines, BeginsWith}
use Rattle.wb_lines.specs.Handling.{Met, Step, goes, stops, ends}
use Rattle.wb_lines.specs.Taking.{met, is_taken, is_passed}

-- What a handler does in a state with the line of a number, and how many lines are taken at most.
pub record Rules (S F : Type 0) : Type 0 where
  pub step : S → ℕ → Met → Step S F
  pub most : ℕ

abbrev pub rules_of : {S F : Type 0} → (S → ℕ → Met → Step S F) → ℕ → Rules S F
rules_of step most = record { step = step; most = most }

-- what is written in all, and the end: how many lines were taken, or a fault
pub data Outcome (F : Type 0) : Type 0 where
  writes : List ℕ → Result ℕ (DriveFault F) → Outcome F

-- an outcome, after a text that was written before
abbrev pub before : {F : Type 0} → List ℕ → Outcome F → Outcome F
before text (writes rest end) = writes (text ++ rest) end

-- nothing more is written
abbrev pub stop : {F : Type 0} → Result ℕ (DriveFault F) → Outcome F
stop end = writes [] end

-- the outcome of a step at the line of this number, before the rest
abbrev pub proceed : {S F : Type 0} → ℕ → Step S F → (S → Outcome F) → Outcome F
proceed number (goes text next) rest = before text (rest next)
proceed number (stops text e) rest = before text (stop (Err (faults.Line number e)))
proceed number (ends text) rest = before text (stop (Err faults.Endless))

-- After n lines and in this state, the outcome of the lines that are left. If the input is cut off, reading fails after them.
abbrev pub outcome_from : {S F : Type 0} → Rules S F → Bool → ℕ → S → List InputLine → Outcome F
outcome_from rules cut n s [] = stop (if cut then Err faults.Read else Ok n)
outcome_from rules cut n s (line ∷ lines) =
    if nat_lt n rules.most
    then (if is_taken cut line
    then proceed (n + 1) (rules.step s (n + 1) (met line)) (λ next. if is_passed line then outcome_from rules cut (n + 1) next lines else stop (Err faults.Endless))
    else stop (Err faults.Read))
    else stop (Err faults.Endless)

-- the outcome of an input from a state on; it is cut off if reading fails after it
abbrev pub outcome : {S F : Type 0} → Rules S F → Bool → S → List ℕ → Outcome F
outcome rules cut s input = outcome_from rules cut 0 s (input_lines input)

-- ---- what is known of it

-- An input is what a source gave: all that it had left, or what it gave before it failed. If its bytes are not known, nothing is said.
abbrev pub Gave : Option (List ℕ) → Option (List ℕ) → Bool → List ℕ → Type 0
Gave (Some all) (Some rest) true input = all ≡ input ++ rest
Gave (Some all) (Some rest) false input = all ≡ input
Gave (Some all) None failed input = ⊥
Gave None rest failed input = Unit {0}

-- an allocation or the sink failed: the text may stop anywhere
abbrev pub IsStop : {F : Type 0} → DriveFault F → Type 0
IsStop faults.Memory = Unit {0}
IsStop faults.Write = Unit {0}
IsStop e = ⊥

abbrev pub is_stop : {F : Type 0} → DriveFault F → Bool
is_stop faults.Memory = true
is_stop faults.Write = true
is_stop e = false

abbrev pub IsStopped : {F : Type 0} → Result ℕ (DriveFault F) → Type 0
IsStopped (Ok n) = ⊥
IsStopped (Err e) = IsStop e

-- The text of the outcome was written, and its end answered; or an allocation or the sink failed, and a front of the text was written.
abbrev pub Meets : {F : Type 0} → Outcome F → List ℕ → Result ℕ (DriveFault F) → Type 0
Meets (writes text end) written result = ((written ≡ text) × (result ≡ end)) ⊎ (IsStopped result × BeginsWith text written)
