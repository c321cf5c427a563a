-- What a filter writes, and how it ends.
use Rattle.std.specs.Prelude.{◌≡◌, ℕ, ◌-◌, ◌^◌, List, [], ◌∷◌, ◌++◌, length, Bool, nat_eq, Result, Ok, Err, if◌then◌else◌}
use Rattle.wb_lines.specs.declared.handler.Stop.{Stop}
use Rattle.wb_lines.specs.declared.handler.Stop.TheVariants as handler_stops
use Rattle.wb_lines.specs.Input.{InputLine, content}
use Rattle.wb_lines.specs.Handling.{Met, whole, too_long, Step, goes, stops, ends}
use Rattle.wb_lines.specs.Driving.{Outcome, rules_of, outcome}
use Rattle.wb_filters.specs.declared.fault.LineFault.{LineFault}
use Rattle.wb_filters.specs.declared.filtering.Direction.{Direction}
use Rattle.wb_filters.specs.declared.filtering.Direction.TheVariants.{Hex, Words}
use Rattle.wb_filters.specs.declared.filtering.Filter.{Filter}
use Rattle.wb_filters.specs.Turning.{hexed, worded}
use Rattle.wb_filters.specs.Comments.{comment}

-- ---- one line

abbrev pub turned : Direction → List ℕ → Result (List ℕ) LineFault
turned Hex line = hexed line
turned Words line = worded line

-- one that keeps going writes a comment in the place of a line that can't be turned
abbrev pub told_on : Bool → ℕ → Result (List ℕ) LineFault → Result (List ℕ) LineFault
told_on keeps number (Ok text) = Ok text
told_on keeps number (Err e) = if keeps then Ok (comment number e) else Err e

-- What ends a line after its content, which stays as it was: a line feed, before which a carriage return may stand.
abbrev pub line_end : Bool → List ℕ → List ℕ → List ℕ
line_end ended content bytes = if ended then (if nat_eq (length content) (length bytes) then 10 ∷ [] else 13 ∷ 10 ∷ []) else []

abbrev pub ending : InputLine → List ℕ
ending line = line_end line.ended (content line) line.bytes

abbrev pub ended_by : List ℕ → Result (List ℕ) LineFault → Result (List ℕ) LineFault
ended_by end (Ok text) = Ok (text ++ end)
ended_by end (Err e) = Err e

-- what the line of this number becomes, with its end
abbrev pub said_of : Filter → ℕ → InputLine → Result (List ℕ) LineFault
said_of filter number line = ended_by (ending line) (told_on filter.keeps_going number (turned filter.direction (content line)))

-- ---- all lines

-- a filter writes what a line becomes, or stops at it
abbrev pub written : Filter → Result (List ℕ) LineFault → Step Filter LineFault
written filter (Ok text) = goes text filter
written filter (Err e) = stops [] e

-- It does not go on after a line that is too long.
abbrev pub filter_step : Filter → ℕ → Met → Step Filter LineFault
filter_step filter number (whole line) = written filter (said_of filter number line)
filter_step filter number too_long = ends []

-- the most lines of an input
abbrev pub most_filter_lines : ℕ
most_filter_lines = 2 ^ 64 - 1

-- the outcome of an input, which is cut off if reading fails after it
abbrev pub filter_outcome : Filter → Bool → List ℕ → Outcome LineFault
filter_outcome filter cut input = outcome (rules_of filter_step most_filter_lines) cut filter input

-- ---- what the code answers

-- What becomes of a line without its end; or an allocation failed.
abbrev pub MayAnswer : {X : Type 0} → (X → List ℕ) → Result X (Stop LineFault) → Result (List ℕ) LineFault → Type 0
MayAnswer view (Ok x) said = said ≡ Ok (view x)
MayAnswer view (Err (handler_stops.Fault e)) said = said ≡ Err e
MayAnswer view (Err handler_stops.Endless) said = ⊥
MayAnswer view (Err handler_stops.Memory) said = Unit {0}
