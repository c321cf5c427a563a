-- What the program does for its words, and the status that tells how it ended.
use Rattle.std.specs.Prelude.{◌≡◌, ◌⊎◌, ℕ, ◌^◌, ◌-◌, List, [], ◌++◌, Bool, true, Option, Result, Ok, Err, codes}
use Rattle.std.specs.Fmt.{decimal}
use Rattle.std.specs.Io.KnownBytes.{Appends}
use Rattle.wb_names.specs.declared.stream.Sink.{Ghosts as SinkOf}
use Rattle.wb_names.specs.declared.stream.Source.{Ghosts as SourceOf}
use Rattle.wb_lines.specs.Driving.{Gave, Meets}
use Rattle.wb_lines.specs.Input.{BeginsWith, input_lines}
use Rattle.wb_lines.specs.declared.fault.DriveFault.{DriveFault}
use Rattle.wb_lines.specs.declared.fault.DriveFault.TheVariants as filter_faults
use Rattle.wb_script.specs.Runs.{RunsScript}
use Rattle.wb_script.specs.Checking.{Checks}
use Rattle.wb_script.specs.Faults.{run_text}
use Rattle.wb_script.specs.declared.fault.RunFault.{RunFault}
use Rattle.wb_script.specs.declared.fault.RunFault.TheVariants as run_faults
use Rattle.wb_script.specs.declared.running.Summary.{Summary}
use Rattle.wb_filters.specs.Comments.{fault_text}
use Rattle.wb_filters.specs.Filtering.{filter_outcome}
use Rattle.wb_filters.specs.declared.fault.LineFault.{LineFault}
use Rattle.wb_dialog.specs.Doing.{Writes}
use Rattle.wb_dialog.specs.Hosting.{IsEndless}
use Rattle.wb_dialog.specs.Kinds.{transcript}
use Rattle.wb_dialog.specs.Refusals.{host_text}
use Rattle.wb_dialog.specs.declared.fault.HostFault.{HostFault}
use Rattle.wb_dialog.specs.declared.fault.HostFault.TheVariants as host_faults
use Rattle.clap.specs.Words.{Text}
use Rattle.wb.specs.CommandLine.{AsksTask}
use Rattle.wb.specs.declared.command.Task.{Task}
use Rattle.wb.specs.declared.command.Task.TheVariants as tasks
use Rattle.wb.specs.declared.serving.Failure.{Failure}
use Rattle.wb.specs.declared.serving.Failure.TheVariants as failures

-- ---- statuses

-- 1: a line is refused, or a limit is passed; 3: reading or writing failed; 4: memory or a thread was refused.
abbrev pub run_status : RunFault → ℕ
run_status (run_faults.Line number fault) = 1
run_status run_faults.Endless = 1
run_status run_faults.Read = 3
run_status run_faults.Write = 3
run_status run_faults.Memory = 4
run_status run_faults.Start = 4

abbrev pub filter_status : DriveFault LineFault → ℕ
filter_status (filter_faults.Line number fault) = 1
filter_status filter_faults.Endless = 1
filter_status filter_faults.Read = 3
filter_status filter_faults.Write = 3
filter_status filter_faults.Memory = 4

abbrev pub host_status : HostFault → ℕ
host_status host_faults.Endless = 1
host_status host_faults.Read = 3
host_status host_faults.Write = 3
host_status host_faults.Memory = 4

abbrev pub failure_status : Failure → ℕ
failure_status (failures.Run fault) = run_status fault
failure_status (failures.Filter fault) = filter_status fault
failure_status (failures.Host fault) = host_status fault

-- 0 just if all was done
abbrev pub ended_status : Result (Unit {0}) Failure → ℕ
ended_status (Ok u) = 0
ended_status (Err failure) = failure_status failure

-- how a task ended, by how its crate ended
abbrev pub as_task : {X F : Type 0} → (F → Failure) → Result X F → Result (Unit {0}) Failure
as_task kind (Ok x) = Ok tt
as_task kind (Err fault) = Err (kind fault)

-- ---- tasks

-- what is written if each line parses
abbrev pub approval : ℕ → List ℕ
approval lines = codes "ok " ++ (decimal lines ++ codes "\n")

-- A text is written; or a front of it, if the sink fails or memory runs out.
abbrev pub IsTextWritten : {U : Type 0} → List ℕ → List ℕ → Result U RunFault → Type 0
IsTextWritten text written (Ok u) = written ≡ text
IsTextWritten text written (Err fault) = BeginsWith text written × ((fault ≡ run_faults.Write) ⊎ (fault ≡ run_faults.Memory))

-- A check that counted lines writes how many, and another nothing. So it ends.
abbrev pub Approves : {U : Type 0} → Result ℕ RunFault → List ℕ → Result U RunFault → Type 0
Approves (Ok lines) written ended = IsTextWritten (approval lines) written ended
Approves (Err fault) written ended = (written ≡ []) × (ended ≡ Err fault)

-- Of an input, which is cut off if reading fails after it, a task wrote this, and so it ended.
abbrev pub PerformsTask : Task → Bool → List ℕ → List ℕ → Result (Unit {0}) Failure → Type 0
PerformsTask (tasks.Run workers) cut input written ended =
    (r : Result Summary RunFault) × RunsScript workers cut input written r × (ended ≡ as_task failures.Run r)
PerformsTask tasks.Check cut input written ended =
    (r : Result ℕ RunFault) × Checks cut input r × ((end : Result (Unit {0}) RunFault) × Approves r written end × (ended ≡ as_task failures.Run end))
PerformsTask (tasks.Turn filter) cut input written ended =
    (r : Result ℕ (DriveFault LineFault)) × Meets (filter_outcome filter cut input) written r × (ended ≡ as_task failures.Filter r)
PerformsTask (tasks.Host tuning) cut input written ended =
    (r : Result (Unit {0}) HostFault) × Writes (transcript tuning cut input) written r
    × (r ≡ Err host_faults.Endless → IsEndless (2 ^ 64 - 1) (input_lines input)) × (ended ≡ as_task failures.Host r)

-- ---- the ends

-- what a source has left before and after, and whether it has failed then
pub record Reading : Type 0 where
  pub left : Option (List ℕ)
  pub rest : Option (List ℕ)
  pub has_failed : Bool

-- what a call read, by its source before and after
abbrev pub reading_between : {R : Type 0} → SourceOf R → R → R → Reading
reading_between R old new = record { left = R.left old; rest = R.left new; has_failed = R.has_failed new }

-- what a sink has taken before and after, and whether it has failed then
pub record Writing : Type 0 where
  pub before : Option (List ℕ)
  pub after : Option (List ℕ)
  pub has_failed : Bool

-- what a call wrote, by its sink before and after
abbrev pub writing_between : {W : Type 0} → SinkOf W → W → W → Writing
writing_between W old new = record { before = W.taken old; after = W.taken new; has_failed = W.has_failed new }

-- ---- lines about failures

-- A sink took a text, or, since it has failed, a front of it.
pub record TookText (sink : Writing) (text : List ℕ) : Type 0 where
  pub written : List ℕ
  pub took : Appends sink.before sink.after written
  pub front : BeginsWith text written
  pub whole : (written ≡ text) ⊎ (sink.has_failed ≡ true)

abbrev pub filter_text : DriveFault LineFault → List ℕ
filter_text (filter_faults.Line number fault) = codes "line " ++ (decimal number ++ (codes ": " ++ fault_text fault))
filter_text filter_faults.Read = codes "read"
filter_text filter_faults.Write = codes "write"
filter_text filter_faults.Memory = codes "memory"
filter_text filter_faults.Endless = codes "endless"

abbrev pub failure_text : Failure → List ℕ
failure_text (failures.Run fault) = run_text fault
failure_text (failures.Filter fault) = filter_text fault
failure_text (failures.Host fault) = host_text fault

-- the line about a failure
abbrev pub complaint : Failure → List ℕ
complaint failure = codes "wb: " ++ (failure_text failure ++ codes "\n")

-- the line if an allocation failed, perhaps that of the line about a failure
abbrev pub no_memory : List ℕ
no_memory = codes "wb: memory\n"

-- If all was done, nothing is written; else the line about the failure, or that there was no memory for it.
abbrev pub Explains : Result (Unit {0}) Failure → Writing → Type 0
Explains (Ok u) errors = errors.after ≡ errors.before
Explains (Err failure) errors = TookText errors (complaint failure) ⊎ TookText errors no_memory

-- the line about a word of the command line that is no text
abbrev pub not_text : List ℕ
not_text = codes "wb: a word of the command line is not UTF-8\n"

-- ---- the program

-- A task was performed between a source and a sink: it read an input, wrote what it performs of that, and ended so. Its status is 3 only
-- if an end has failed.
pub record PerformedTask (task : Task) (source : Reading) (sink : Writing) (ended : Result (Unit {0}) Failure) : Type 0 where
  pub input : List ℕ
  pub written : List ℕ
  pub read : Gave source.left source.rest source.has_failed input
  pub wrote : Appends sink.before sink.after written
  pub answered : PerformsTask task source.has_failed input written ended
  pub failed : ended_status ended ≡ 3 → (source.has_failed ≡ true) ⊎ (sink.has_failed ≡ true)

-- So it was, the second output says why it ended so, and the status tells it.
pub record Served (task : Task) (source : Reading) (sink errors : Writing) (status : ℕ) : Type 0 where
  pub ended : Result (Unit {0}) Failure
  pub performed : PerformedTask task source sink ended
  pub explained : Explains ended errors
  pub answered : status ≡ ended_status ended

-- Nothing was read or written, since an allocation failed (4), which the second output says, or the words ask for no task (2).
pub record DidNothing (words : List Text) (source : Reading) (sink errors : Writing) (status : ℕ) : Type 0 where
  pub unread : source.rest ≡ source.left
  pub unwritten : sink.after ≡ sink.before
  pub reason : (status ≡ 4) ⊎ ((status ≡ 2) × ((task : Task) → AsksTask words task → ⊥))
  pub said : status ≡ 4 → TookText errors no_memory

-- The task that the words ask for was performed, or nothing was read or written.
abbrev pub ServesWords : List Text → Reading → Writing → Writing → ℕ → Type 0
ServesWords words source sink errors status = ((task : Task) × AsksTask words task × Served task source sink errors status) ⊎ DidNothing words source sink errors status
