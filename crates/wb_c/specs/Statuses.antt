-- Which status a call gives.
use Rattle.std.specs.Prelude.{ℕ, ◌+◌, Bool, true, false}
use Rattle.wb_names.specs.Faults.{field_code}
use Rattle.wb_codec.specs.Fault.{read_code}
use Rattle.wb_codec.specs.declared.fault.ReadFault.{ReadFault}
use Rattle.wb_keeper.specs.declared.keep_fault.KeepFault.{KeepFault}
use Rattle.wb_keeper.specs.declared.keep_fault.KeepFault.TheVariants.{Memory}
use Rattle.wb_keeping.specs.declared.kept_fault.KeptFault.{KeptFault}
use Rattle.wb_keeping.specs.declared.kept_fault.KeptFault.TheVariants.{Host, Listening, Ours, Numbers, Operation}
use Rattle.wb_judge.specs.declared.judge.AddFault.TheVariants.{Full, Twin}
use Rattle.wb_judging.specs.declared.judged_fault.JudgedFault.{JudgedFault}
use Rattle.wb_judging.specs.declared.judged_fault.JudgedFault.TheVariants.{Judge, Kept}

abbrev pub done : ℕ
done = 0

abbrev pub waits : ℕ
waits = 1

abbrev pub not_done : ℕ
not_done = 2

abbrev pub closed : ℕ
closed = 3

abbrev pub memory : ℕ
memory = 4

abbrev pub open_already : ℕ
open_already = 5

abbrev pub nothing : ℕ
nothing = 6

abbrev pub not_kept : ℕ
not_kept = 7

abbrev pub no_moment : ℕ
no_moment = 8

abbrev pub no_drawop : ℕ
no_drawop = 13

abbrev pub no_question : ℕ
no_question = 14

abbrev pub judged : ℕ
judged = 15

abbrev pub not_judged : ℕ
not_judged = 16

abbrev pub no_time : ℕ
no_time = 19

-- why a member refuses a call
abbrev pub kept_status : KeptFault → ℕ
kept_status (Host fault) = 9
kept_status Listening = 10
kept_status Ours = 11
kept_status Numbers = 12
kept_status (Operation fault) = 200 + field_code fault

-- why a judged member refuses one
abbrev pub judged_status : JudgedFault → ℕ
judged_status (Judge Twin) = 17
judged_status (Judge Full) = 18
judged_status (Kept fault) = kept_status fault

-- why bytes are not a datagram
abbrev pub read_status : ReadFault → ℕ
read_status fault = 100 + read_code fault

-- an allocation failed
abbrev pub is_memory_of : KeepFault → Bool
is_memory_of Memory = true
is_memory_of fault = false

abbrev pub is_memory : KeptFault → Bool
is_memory (Host fault) = is_memory_of fault
is_memory fault = false

abbrev pub is_memory_at_judged : JudgedFault → Bool
is_memory_at_judged (Judge fault) = false
is_memory_at_judged (Kept fault) = is_memory fault
