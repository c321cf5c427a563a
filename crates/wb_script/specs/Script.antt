-- What a script prints, and how it ends.
use Rattle.std.specs.Prelude.{◌≡◌, ℕ, ◌+◌, ◌≤◌, ◌^◌, List, [], ◌∷◌, ◌++◌, length, Bool, true, false, nat_le, nat_lt, ◌&&◌, ◌||◌, not, Option, Some, None, Result, Ok, Err, if◌then◌else◌, IsPermutation, ◌⊎◌, unwrap_or}
use Rattle.wb_names.specs.Values.{DrawopValue}
use Rattle.wb_commands.specs.declared.fault.LineFault.{LineFault}
use Rattle.wb_commands.specs.declared.fault.LineFault.TheVariants as faults
use Rattle.wb_script.specs.declared.fault.RunFault.{RunFault}
use Rattle.wb_script.specs.declared.fault.RunFault.TheVariants as run_faults
use Rattle.wb_script.specs.declared.running.Summary.{Summary}
use Rattle.wb_commands.specs.declared.command.Command.{Command}
use Rattle.wb_commands.specs.declared.command.Command.TheVariants.{Skip, Board, Arrive, Call, Question}
use Rattle.wb_lines.specs.Input.{InputLine, input_lines, content, most_bytes, BeginsWith}
use Rattle.wb_member.specs.Opened.{Opened, board_of, by_host}
use Rattle.wb_script.specs.Hosts.{script_host, taken, batch_text}
use Rattle.wb_commands.specs.Acts.{Act, does, fails, act}
use Rattle.wb_commands.specs.Parsing.{script_line_of}

-- the host, once it is open; how many workers take its batches, once that is known; and the arrivals of the present batch
pub record RunState : Type 0 where
  pub host : Option Opened
  pub workers : Option ℕ
  pub waiting : List DrawopValue

-- the number of workers may be known from the start
abbrev pub run_start : Option ℕ → RunState
run_start workers = record { host = None; workers = workers; waiting = [] }

-- no more than one, as far as is known
abbrev pub IsAlone : Option ℕ → Type 0
IsAlone None = Unit {0}
IsAlone (Some workers) = workers ≤ 1

-- Workers take a batch in any order, and one worker as it came.
pub record MayBeTaken (workers : Option ℕ) (batch order : List DrawopValue) : Type 0 where
  pub moved : IsPermutation batch order
  pub alone : IsAlone workers → order ≡ batch

-- something holds for some order in which the present batch may be taken
abbrev pub InSomeOrder : RunState → (List DrawopValue → Type 0) → Type 0
InSomeOrder s Holds = (order : List DrawopValue) × MayBeTaken s.workers s.waiting order × Holds order

-- ---- the end of the present batch, which is taken in this order

-- what it prints, and what it leads to
abbrev pub closing_text : RunState → List DrawopValue → List ℕ
closing_text s order = by_host s.host [] (λ host. batch_text (board_of host) order)

abbrev pub after_batch : RunState → List DrawopValue → RunState
after_batch s order = record { host = by_host s.host None (λ host. Some (taken order host)); workers = s.workers; waiting = [] }

-- A batch ends so, and then this follows: a line does something, or the script ends.
abbrev pub after_closing : {X : Type 0} → RunState → List DrawopValue → (RunState → List ℕ → X) → X
after_closing s order rest = rest (after_batch s order) (closing_text s order)

-- ---- what a line is to the batch of arrivals before it

-- What ends the batch before it: a board that is opened, a line that a host acts on, or one with a fault.
pub data Closing : Type 0 where
  Opens : ℕ → ℕ → ℕ → ℕ → Closing
  Acts : Command → Closing
  Faulty : LineFault → Closing

-- An arrival joins the batch, a skipped line leaves it as it is, and each other line ends it first.
pub data Part : Type 0 where
  Arrival : DrawopValue → Part
  Nothing : Part
  End : Closing → Part

abbrev pub part_of : Result Command LineFault → Part
part_of (Ok Skip) = Nothing
part_of (Ok (Arrive d)) = Arrival d
part_of (Ok (Board member cells workers seed)) = End (Opens member cells workers seed)
part_of (Ok (Call call)) = End (Acts (Call call))
part_of (Ok (Question query)) = End (Acts (Question query))
part_of (Err e) = End (Faulty e)

abbrev pub part_in : InputLine → Part
part_in line = part_of (script_line_of (content line))

-- ---- what a line does

-- It prints a text and leads to a state; or it is refused there.
pub data RunStep : Type 0 where
  moves_on : RunState → List ℕ → RunStep
  refused : RunState → List ℕ → LineFault → RunStep

abbrev pub step_by : Option ℕ → List ℕ → Act → Opened → RunStep
step_by workers text (does next printed) host = moves_on (record { host = Some next; workers = workers; waiting = [] }) (text ++ printed)
step_by workers text (fails e) host = refused (record { host = Some host; workers = workers; waiting = [] }) text e

-- At the state after a batch, and after its text. A board is opened once; a number of workers that was known before goes before that
-- of the board. If no board is open, a line that a host would act on is refused.
abbrev pub closing_step : RunState → List ℕ → Closing → RunStep
closing_step t text (Opens member cells workers seed) =
    by_host t.host (moves_on (record { host = Some (script_host member cells seed); workers = Some (unwrap_or t.workers workers); waiting = [] }) text) (λ host. refused t text faults.SecondBoard)
closing_step t text (Acts line) = by_host t.host (refused t text faults.NoBoard) (λ host. step_by t.workers text (act line host) host)
closing_step t text (Faulty e) = refused t text e

-- If no board is open, an arrival is refused. The present batch is taken in this order, if it ends here.
abbrev pub part_step : RunState → List DrawopValue → Part → RunStep
part_step s order (Arrival d) = by_host s.host (refused s [] faults.NoBoard) (λ host. moves_on (record { host = s.host; workers = s.workers; waiting = s.waiting ++ d ∷ [] }) [])
part_step s order Nothing = moves_on s []
part_step s order (End c) = after_closing s order (λ t text. closing_step t text c)

abbrev pub said_step : RunState → List DrawopValue → Result Command LineFault → RunStep
said_step s order said = part_step s order (part_of said)

abbrev pub step_of : RunState → List DrawopValue → List ℕ → RunStep
step_of s order bytes = said_step s order (script_line_of bytes)

-- what a script prints in all, and its end
pub data RunOutcome : Type 0 where
  prints : List ℕ → Result Summary RunFault → RunOutcome

-- an outcome, after a text that was printed before
abbrev pub printed_before : List ℕ → RunOutcome → RunOutcome
printed_before text (prints rest end) = prints (text ++ rest) end

-- how many drawops are held
abbrev pub held_count : RunState → ℕ
held_count s = by_host s.host 0 (λ host. length host.is.held)

-- the answer of a script that had `lines` lines, or ended with a fault
abbrev pub run_answer : RunState → Result ℕ RunFault → Result Summary RunFault
run_answer s (Ok lines) = Ok (record { lines = lines; held = held_count s })
run_answer s (Err e) = Err e

-- at the end the present batch ends
abbrev pub finish : RunState → List DrawopValue → Result ℕ RunFault → RunOutcome
finish s order ending = after_closing s order (λ t text. prints text (run_answer t ending))

-- the most lines of a script
abbrev pub most_lines : ℕ
most_lines = 2 ^ 20

-- a limit that a line passes, or that it is cut off
abbrev pub fault_at : Bool → ℕ → InputLine → Option RunFault
fault_at cut n line =
    if nat_lt n most_lines && nat_le (length line.bytes) most_bytes
    then (if line.ended || not cut then None else Some run_faults.Read)
    else Some run_faults.Endless

-- ---- by one thread, which takes each batch as it came

abbrev pub follow_step : ℕ → RunStep → (RunState → RunOutcome) → RunOutcome
follow_step number (moves_on t text) rest = printed_before text (rest t)
follow_step number (refused t text e) rest = printed_before text (finish t t.waiting (Err (run_faults.Line number e)))

-- A line is taken, or the script ends with its fault.
abbrev pub continue : Option RunFault → ℕ → RunState → List ℕ → (RunState → RunOutcome) → RunOutcome
continue None number s bytes rest = follow_step number (step_of s s.waiting bytes) rest
continue (Some e) number s bytes rest = finish s s.waiting (Err e)

-- From a state, after `n` lines, the outcome of the lines that are left. If the input is cut off, reading fails after them.
abbrev pub run_outcome_from : Bool → ℕ → RunState → List InputLine → RunOutcome
run_outcome_from cut n s [] = finish s s.waiting (if cut then Err run_faults.Read else Ok n)
run_outcome_from cut n s (line ∷ lines) = continue (fault_at cut n line) (n + 1) s (content line) (λ t. run_outcome_from cut (n + 1) t lines)

-- the outcome of an input, which is cut off if reading fails after it
abbrev pub run_outcome : Option ℕ → Bool → List ℕ → RunOutcome
run_outcome workers cut input = run_outcome_from cut 0 (run_start workers) (input_lines input)

-- ---- by workers, which take each batch in some order

-- it ends so, once the present batch is taken
abbrev pub Finishes : RunState → Result ℕ RunFault → RunOutcome → Type 0
Finishes s ending o = InSomeOrder s (λ order. o ≡ finish s order ending)

-- it is an outcome of what follows a step, after the text of the step
abbrev pub Proceeds : ℕ → (RunState → RunOutcome → Type 0) → RunOutcome → RunStep → Type 0
Proceeds number Rest o (moves_on t text) = (next : RunOutcome) × Rest t next × (o ≡ printed_before text next)
Proceeds number Rest o (refused t text e) = (next : RunOutcome) × Finishes t (Err (run_faults.Line number e)) next × (o ≡ printed_before text next)

abbrev pub Continues : Option RunFault → ℕ → RunState → List ℕ → (RunState → RunOutcome → Type 0) → RunOutcome → Type 0
Continues None number s bytes Rest o = InSomeOrder s (λ order. Proceeds number Rest o (step_of s order bytes))
Continues (Some e) number s bytes Rest o = Finishes s (Err e) o

-- It is an outcome of the lines that are left.
abbrev pub IsOutcomeFrom : Bool → ℕ → RunState → List InputLine → RunOutcome → Type 0
IsOutcomeFrom cut n s [] o = Finishes s (if cut then Err run_faults.Read else Ok n) o
IsOutcomeFrom cut n s (line ∷ lines) o = Continues (fault_at cut n line) (n + 1) s (content line) (λ t next. IsOutcomeFrom cut (n + 1) t lines next) o

-- It is an outcome of an input, by `workers` workers, or by those of the board if no number is given.
abbrev pub IsOutcome : Option ℕ → Bool → List ℕ → RunOutcome → Type 0
IsOutcome workers cut input o = IsOutcomeFrom cut 0 (run_start workers) (input_lines input) o

-- ---- a run that stops

-- an allocation or a thread that failed, or a failing sink, at which the text may stop anywhere
abbrev pub is_run_stop : RunFault → Bool
is_run_stop run_faults.Memory = true
is_run_stop run_faults.Write = true
is_run_stop run_faults.Start = true
is_run_stop e = false

abbrev pub IsRunStop : RunFault → Type 0
IsRunStop e = is_run_stop e ≡ true

-- the run stops within a text
abbrev pub StopsWithin : List ℕ → List ℕ → RunFault → Type 0
StopsWithin text written e = IsRunStop e × BeginsWith text written

-- The text of an outcome begins with what was written.
abbrev pub Begins : RunOutcome → List ℕ → Type 0
Begins (prints text end) written = BeginsWith text written

abbrev pub IsRunStopped : Result Summary RunFault → Type 0
IsRunStopped (Ok s) = ⊥
IsRunStopped (Err e) = IsRunStop e

-- A run meets an outcome: it wrote its text and answers its end; or an allocation, a thread or the sink failed, and it wrote a front of its text.
abbrev pub RunMeets : RunOutcome → List ℕ → Result Summary RunFault → Type 0
RunMeets (prints text end) written result = ((written ≡ text) × (result ≡ end)) ⊎ (IsRunStopped result × BeginsWith text written)
