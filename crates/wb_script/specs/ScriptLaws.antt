-- Laws of what scripts print: what was printed stays, skipped lines print nothing, and the counts of a batch add up.
use Rattle.std.specs.Prelude.{◌≡◌, ℕ, ◌+◌, ◌<◌, List, [], ◌∷◌, ◌++◌, length, Bool, true, false, Option, Some, None, Ok, Err}
use Rattle.std.specs.Str.Lines.{strip_carriage_return}
use Rattle.wb_names.specs.Values.{DrawopValue}
use Rattle.wb_names.specs.Arrivals.{Counts, counts_of, outcomes_of, history_after}
use Rattle.wb_script.specs.declared.fault.RunFault.{RunFault}
use Rattle.wb_commands.specs.declared.command.Command.TheVariants.{Skip}
use Rattle.wb_script.specs.declared.running.Summary.{Summary}
use Rattle.wb_lines.specs.Ahead.{IsLine}
use Rattle.wb_commands.specs.Parsing.{script_line_of}
use Rattle.wb_script.specs.Script.{Begins, IsAlone, Opens, Part, Arrival, Nothing, End, part_in, most_lines, RunOutcome, prints, run_outcome, IsOutcome}
use Rattle.wb_lines.specs.Input.{InputLine, input_lines}

-- a line feed ends each line
abbrev pub EachEnds : List InputLine → Type 0
EachEnds [] = Unit {0}
EachEnds (line ∷ lines) = (line.ended ≡ true) × EachEnds lines

-- whether arrivals wait for the end of their batch after a line, if it is known whether some waited before it
abbrev pub waits_after : Bool → Part → Bool
waits_after waits (Arrival d) = true
waits_after waits Nothing = waits
waits_after waits (End c) = false

-- the same after some lines
abbrev pub waits_at_end : Bool → List InputLine → Bool
waits_at_end waits [] = waits
waits_at_end waits (line ∷ lines) = waits_at_end (waits_after waits (part_in line)) lines

-- the text of an outcome
abbrev pub outcome_text : RunOutcome → List ℕ
outcome_text (prints text end) = text

-- Whole lines that end with a fault have this outcome whatever follows them.
abbrev pub RefusedScriptStays : Type 0
RefusedScriptStays = (workers : Option ℕ) (front more text : List ℕ) (cut : Bool) (fault : RunFault) → EachEnds (input_lines front)
    → run_outcome workers false front ≡ prints text (Err fault) → run_outcome workers cut (front ++ more) ≡ prints text (Err fault)

-- If no arrival waits after whole lines, the text of each longer script begins with their text.
abbrev pub PrintedStays : Type 0
PrintedStays = (workers : Option ℕ) (front more text : List ℕ) (cut : Bool) (summary : Summary) → EachEnds (input_lines front) → waits_at_end false (input_lines front) ≡ false
    → run_outcome workers false front ≡ prints text (Ok summary) → Begins (run_outcome workers cut (front ++ more)) text

-- A skipped line that a line feed ends changes nothing of the text, wherever it stands, while the lines are not too many.
abbrev pub SkippedPrintsNothing : Type 0
SkippedPrintsNothing = (workers : Option ℕ) (front line more : List ℕ) (cut : Bool) → EachEnds (input_lines front) → IsLine line → script_line_of (strip_carriage_return line) ≡ Ok Skip
    → length (input_lines (front ++ more)) < most_lines → outcome_text (run_outcome workers cut (front ++ (line ++ 10 ∷ more))) ≡ outcome_text (run_outcome workers cut (front ++ more))

-- all that a batch has counted
abbrev pub total : Counts → ℕ
total n = n.fresh + n.again + n.clash + n.left

-- The counts of a batch add up to its arrivals.
abbrev pub CountsAddUp : Type 0
CountsAddUp = (cells : ℕ) (held arrivals : List DrawopValue) → total (counts_of (outcomes_of cells held arrivals)) ≡ length arrivals

-- What is held stays, and what is new comes after it.
abbrev pub HeldStays : Type 0
HeldStays = (cells : ℕ) (held arrivals : List DrawopValue) → (added : List DrawopValue)
    × (history_after cells held arrivals ≡ held ++ added) × (length added ≡ (counts_of (outcomes_of cells held arrivals)).fresh)

-- ---- by how many workers

-- the number of workers that a line names
abbrev pub workers_on : Part → Option ℕ
workers_on (End (Opens member cells workers seed)) = Some workers
workers_on part = None

-- the first of two numbers that is known
abbrev pub first_known : Option ℕ → Option ℕ → Option ℕ
first_known None later = later
first_known (Some before) later = Some before

-- the number of workers that is known at the end of some lines: that of the start, or else of the first board
abbrev pub workers_at_end : Option ℕ → List InputLine → Option ℕ
workers_at_end workers [] = workers
workers_at_end workers (line ∷ lines) = workers_at_end (first_known workers (workers_on (part_in line))) lines

-- What one thread prints is an outcome by any number of workers.
abbrev pub OneThreadIsOutcome : Type 0
OneThreadIsOutcome = (workers : Option ℕ) (cut : Bool) (input : List ℕ) → IsOutcome workers cut input (run_outcome workers cut input)

-- By one worker there is no other outcome.
abbrev pub OneWorkerIsOneThread : Type 0
OneWorkerIsOneThread = (workers : Option ℕ) (cut : Bool) (input : List ℕ) (o : RunOutcome) → IsAlone (workers_at_end workers (input_lines input)) → IsOutcome workers cut input o → o ≡ run_outcome workers cut input

-- What one thread prints does not depend on the number that is handed in.
abbrev pub OneThreadIsFree : Type 0
OneThreadIsFree = (workers others : Option ℕ) (cut : Bool) (input : List ℕ) → run_outcome workers cut input ≡ run_outcome others cut input
