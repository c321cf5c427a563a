-- How many lines a script has, if each of them parses, or else its first fault. Nothing is run.
use Rattle.std.specs.Prelude.{◌≡◌, ℕ, ◌≤◌, ◌↔◌, ◌⊎◌, List, [], length, All, Bool, false, Result, Ok, Err, IsOk}
use Rattle.wb_lines.specs.declared.fault.DriveFault.{DriveFault}
use Rattle.wb_lines.specs.declared.fault.DriveFault.TheVariants as drive_faults
use Rattle.wb_lines.specs.Input.{input_lines, content, most_bytes}
use Rattle.wb_lines.specs.Handling.{Met, whole, too_long, Step, goes, stops, ends}
use Rattle.wb_lines.specs.Driving.{Outcome, writes, rules_of, outcome}
use Rattle.wb_commands.specs.declared.fault.LineFault.{LineFault}
use Rattle.wb_script.specs.declared.fault.RunFault.{RunFault}
use Rattle.wb_script.specs.declared.fault.RunFault.TheVariants as run_faults
use Rattle.wb_commands.specs.declared.command.Command.{Command}
use Rattle.wb_commands.specs.Parsing.{script_line_of}
use Rattle.wb_script.specs.Script.{most_lines}

-- A line that parses is passed over, and another stops the check. Nothing is remembered or printed.
abbrev pub parsed_step : Result Command LineFault → Step (Unit {0}) LineFault
parsed_step (Ok line) = goes [] tt
parsed_step (Err e) = stops [] e

abbrev pub check_step : Unit {0} → ℕ → Met → Step (Unit {0}) LineFault
check_step s number (whole line) = parsed_step (script_line_of (content line))
check_step s number too_long = ends []

-- why a check stops, by why its driver does
abbrev pub check_fault : DriveFault LineFault → RunFault
check_fault (drive_faults.Line number e) = run_faults.Line number e
check_fault drive_faults.Read = run_faults.Read
check_fault drive_faults.Write = run_faults.Write
check_fault drive_faults.Memory = run_faults.Memory
check_fault drive_faults.Endless = run_faults.Endless

abbrev pub check_answer : Result ℕ (DriveFault LineFault) → Result ℕ RunFault
check_answer (Ok lines) = Ok lines
check_answer (Err e) = Err (check_fault e)

abbrev pub answer_at_end : Outcome LineFault → Result ℕ RunFault
answer_at_end (writes text end) = check_answer end

-- What a check answers of an input: how many lines it has, or its first fault. If the input is cut off, reading fails after it.
abbrev pub checked : Bool → List ℕ → Result ℕ RunFault
checked cut input = answer_at_end (outcome (rules_of check_step most_lines) cut tt input)

-- A check answers that, or memory ran out.
abbrev pub Checks : Bool → List ℕ → Result ℕ RunFault → Type 0
Checks cut input result = (result ≡ checked cut input) ⊎ (result ≡ Err run_faults.Memory)

-- ---- what it means

-- At most `most_lines` lines, and `most_bytes` bytes in each.
pub record IsWithinScriptLimits (input : List ℕ) : Type 0 where
  pub few : length (input_lines input) ≤ most_lines
  pub short : All (λ line. length line.bytes ≤ most_bytes) (input_lines input)

-- Each line parses.
abbrev pub EachLineParses : List ℕ → Type 0
EachLineParses input = All (λ line. IsOk (script_line_of (content line))) (input_lines input)

-- A number is the answer exactly if it counts the lines, and the input is within the limits and each line parses.
abbrev pub CountsLines : Type 0
CountsLines = (input : List ℕ) (n : ℕ) → (checked false input ≡ Ok n) ↔ ((n ≡ length (input_lines input)) × IsWithinScriptLimits input × EachLineParses input)

-- A line that stops a driver of at most `most` lines is one of those.
abbrev pub IsCounted : ℕ → DriveFault LineFault → Type 0
IsCounted most (drive_faults.Line number e) = number ≤ most
IsCounted most e = Unit {0}
