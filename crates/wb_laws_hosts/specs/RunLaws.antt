-- Laws of scripts: what a run of one prints, and what a host prints for its lines.
use Rattle.std.specs.Prelude.{◌≡◌, ◌≤◌, ◌+◌, ◌-◌, ℕ, List, [], ◌∷◌, ◌++◌, length, take, All, Bool, Option, Some, None, Result, Ok, Err}
use Rattle.wb_names.specs.Arrivals.{Counts, counts}
use Rattle.wb_lines.specs.Input.{InputLine, input_lines, content}
use Rattle.wb_commands.specs.Answers.{batch_line}
use Rattle.wb_commands.specs.declared.fault.LineFault.{LineFault}
use Rattle.wb_script.specs.declared.fault.RunFault.{RunFault}
use Rattle.wb_script.specs.declared.fault.RunFault.TheVariants as run_faults
use Rattle.wb_script.specs.declared.running.Summary.{Summary}
use Rattle.wb_script.specs.Hosts.{script_constants}
use Rattle.wb_script.specs.Reordering.{IsReordered, batches_of}
use Rattle.wb_script.specs.Script.{Part, Arrival, Nothing, End, part_in, RunOutcome, prints, run_outcome, IsOutcome}
use Rattle.wb_dialog.specs.Dialog.{answered_lines, ok_line}
use Rattle.wb_dialog.specs.Hosting.{blocks_from, unopened}

-- Each arrival of an input is a batch of its own: between any two stands a line that ends a batch.
abbrev pub ArriveAlone : Bool → List ℕ → Type 0
ArriveAlone cut input = All (λ (batch : List (List ℕ)). length batch ≤ 1) (batches_of content cut 0 (input_lines input))

-- A text is what some blocks print before the lines `ok DUE` that close them. No block is that of a refused line.
abbrev pub IsWithoutOks : List (List ℕ) → List ℕ → Type 0
IsWithoutOks [] text = text ≡ []
IsWithoutOks (block ∷ blocks) text =
    (printed : List ℕ) × (rest : List ℕ) × (due : Option ℕ) × (block ≡ printed ++ ok_line due) × (text ≡ printed ++ rest) × IsWithoutOks blocks rest

-- the blocks of lines, if the timers have the constants of a script
abbrev pub blocks_of : List InputLine → List (List ℕ)
blocks_of lines = blocks_from (unopened script_constants) lines

-- A script in which each arrival is a batch of its own has one outcome, by any number of workers: what one thread prints.
abbrev pub AloneIsOneOrder : Type 0
AloneIsOneOrder = (workers : Option ℕ) (cut : Bool) (input : List ℕ) (o : RunOutcome) → ArriveAlone cut input → IsOutcome workers cut input o → o ≡ run_outcome workers cut input

-- a run came to the end of its input, or to where reading fails
abbrev pub IsRunOut : Result Summary RunFault → Type 0
IsRunOut (Ok summary) = Unit {0}
IsRunOut (Err run_faults.Read) = Unit {0}
IsRunOut (Err run_faults.Write) = ⊥
IsRunOut (Err run_faults.Memory) = ⊥
IsRunOut (Err run_faults.Start) = ⊥
IsRunOut (Err run_faults.Endless) = ⊥
IsRunOut (Err (run_faults.Line number fault)) = ⊥

-- Then what it prints is the transcript of a host without the lines `ok DUE`.
abbrev pub RunIsWithoutOks : Type 0
RunIsWithoutOks = (workers : Option ℕ) (cut : Bool) (input text : List ℕ) (end : Result Summary RunFault) → IsRunOut end → ArriveAlone cut input → IsOutcome workers cut input (prints text end)
    → IsWithoutOks (blocks_of (answered_lines cut (input_lines input))) text

-- If a line of it is refused, it prints what a host prints for the lines before that one.
abbrev pub RefusedIsWithoutOks : Type 0
RefusedIsWithoutOks = (workers : Option ℕ) (cut : Bool) (input text : List ℕ) (number : ℕ) (fault : LineFault) → ArriveAlone cut input → IsOutcome workers cut input (prints text (Err (run_faults.Line number fault)))
    → IsWithoutOks (blocks_of (take (number - 1) (input_lines input))) text

-- ---- batches of several arrivals

-- what is printed at the end of a batch that counted this, if it has arrivals
abbrev pub counted_text : Option Counts → List ℕ
counted_text None = []
counted_text (Some n) = batch_line n

-- what a batch counted, with what its next arrival does
abbrev pub counted_with : Option Counts → Counts → Counts
counted_with None n = n
counted_with (Some m) n = counts (m.fresh + n.fresh) (m.again + n.again) (m.clash + n.clash) (m.left + n.left)

-- A block prints this before the line `ok DUE` that closes it.
abbrev pub Prints : List ℕ → List ℕ → Type 0
Prints block printed = (due : Option ℕ) × (block ≡ printed ++ ok_line due)

-- A line with this block stands in a text, after a batch that counted this so far: what an arrival counts is added, what is skipped
-- prints nothing, and any other line first ends the batch.
abbrev pub AddsUp : Part → List ℕ → Option Counts → List ℕ → (Option Counts → List ℕ → Type 0) → Type 0
AddsUp (Arrival d) block so_far text Rest = (n : Counts) × Prints block (batch_line n) × Rest (Some (counted_with so_far n)) text
AddsUp Nothing block so_far text Rest = Prints block [] × Rest so_far text
AddsUp (End c) block so_far text Rest = (printed : List ℕ) × (rest : List ℕ) × Prints block printed × (text ≡ counted_text so_far ++ (printed ++ rest)) × Rest None rest

-- A text is what the blocks of lines print, but that a batch prints one line, with the sums of what its arrivals count.
abbrev pub IsAddedUp : List InputLine → List (List ℕ) → Option Counts → List ℕ → Type 0
IsAddedUp [] [] so_far text = text ≡ counted_text so_far
IsAddedUp (line ∷ lines) (block ∷ blocks) so_far text = AddsUp (part_in line) block so_far text (λ n rest. IsAddedUp lines blocks n rest)
IsAddedUp lines blocks so_far text = ⊥

-- A text is what a host prints for lines so, none of which it refuses.
abbrev pub PrintsAddedUp : List InputLine → List ℕ → Type 0
PrintsAddedUp lines text = IsAddedUp lines (blocks_of lines) None text

-- An outcome is what a host prints so: for the lines of the input, where the run came to their end, or to where reading fails; or for
-- those before the one that is refused.
abbrev pub IsRunTold : Bool → List ℕ → RunOutcome → Type 0
IsRunTold cut input (prints text (Ok summary)) = PrintsAddedUp (answered_lines cut (input_lines input)) text
IsRunTold cut input (prints text (Err run_faults.Read)) = PrintsAddedUp (answered_lines cut (input_lines input)) text
IsRunTold cut input (prints text (Err (run_faults.Line number fault))) = PrintsAddedUp (take (number - 1) (input_lines input)) text
IsRunTold cut input (prints text (Err run_faults.Write)) = Unit {0}
IsRunTold cut input (prints text (Err run_faults.Memory)) = Unit {0}
IsRunTold cut input (prints text (Err run_faults.Start)) = Unit {0}
IsRunTold cut input (prints text (Err run_faults.Endless)) = Unit {0}

-- What one thread prints for a script is so.
abbrev pub ThreadIsTold : Type 0
ThreadIsTold = (workers : Option ℕ) (cut : Bool) (input : List ℕ) → IsRunTold cut input (run_outcome workers cut input)

-- What any number of workers print is so for a script with the arrivals of each batch in some order.
abbrev pub RunIsTold : Type 0
RunIsTold = (workers : Option ℕ) (cut : Bool) (input : List ℕ) (o : RunOutcome) → IsOutcome workers cut input o → (other : List ℕ) × IsReordered cut input other × IsRunTold cut other o
