-- Statuses of failures, and ends that nothing was written to.
use Rattle.std.proofs.Common.{◌≡◌, ◌⊎◌, ℕ, List, [], ◌++◌, Option, Some, None, Result, Ok, Err, sym, ap, ◌∙◌, refl, append-nil, append_assoc, inl, inr, arith, codes, decimal}
use Rattle.std.specs.Io.KnownBytes.{Appends, Keeps}
use Rattle.clap.specs.Words.{Text, kind_of}
use Rattle.clap.specs.declared.error.Error.{Error}
use Rattle.clap.specs.declared.error.kind.ErrorKind.TheVariants.{OutOfMemory}
use Rattle.wb_lines.specs.Faults.{drive_text}
use Rattle.wb_lines.specs.declared.fault.DriveFault.{DriveFault}
use Rattle.wb_lines.specs.declared.fault.DriveFault.TheVariants as filter_faults
use Rattle.wb_script.specs.declared.fault.RunFault.{RunFault}
use Rattle.wb_script.specs.declared.fault.RunFault.TheVariants as run_faults
use Rattle.wb_filters.specs.Comments.{fault_text}
use Rattle.wb_filters.specs.declared.fault.LineFault.{LineFault}
use Rattle.wb_dialog.specs.declared.fault.HostFault.{HostFault}
use Rattle.wb_dialog.specs.declared.fault.HostFault.TheVariants as host_faults
use Rattle.wb.specs.CommandLine.{AsksTask}
use Rattle.wb.specs.Serving.{as_task, ended_status, failure_status, filter_status, filter_text, host_status, run_status}
use Rattle.wb.specs.declared.command.Task.{Task}
use Rattle.wb.specs.declared.serving.Failure.{Failure}
use Rattle.wb.specs.declared.serving.Failure.TheVariants as failures

pub kept_appends : (before after : Option (List ℕ)) → Keeps before after → Appends before after []
kept_appends None after same = tt
kept_appends (Some bytes) None same = absurd same
kept_appends (Some bytes) (Some same_bytes) same = same ∙ sym (append-nil bytes)

run_fails : (fault : RunFault) → run_status fault ≡ 0 → ⊥
run_fails (run_faults.Line number fault) e = absurd (omega (arith, e))
run_fails run_faults.Endless e = absurd (omega (arith, e))
run_fails run_faults.Read e = absurd (omega (arith, e))
run_fails run_faults.Write e = absurd (omega (arith, e))
run_fails run_faults.Memory e = absurd (omega (arith, e))
run_fails run_faults.Start e = absurd (omega (arith, e))

filter_fails : (fault : DriveFault LineFault) → filter_status fault ≡ 0 → ⊥
filter_fails (filter_faults.Line number fault) e = absurd (omega (arith, e))
filter_fails filter_faults.Endless e = absurd (omega (arith, e))
filter_fails filter_faults.Read e = absurd (omega (arith, e))
filter_fails filter_faults.Write e = absurd (omega (arith, e))
filter_fails filter_faults.Memory e = absurd (omega (arith, e))

host_fails : (fault : HostFault) → host_status fault ≡ 0 → ⊥
host_fails host_faults.Endless e = absurd (omega (arith, e))
host_fails host_faults.Read e = absurd (omega (arith, e))
host_fails host_faults.Write e = absurd (omega (arith, e))
host_fails host_faults.Memory e = absurd (omega (arith, e))

-- no failure has status 0
pub fails : (failure : Failure) → failure_status failure ≡ 0 → ⊥
fails (failures.Run fault) e = run_fails fault e
fails (failures.Filter fault) e = filter_fails fault e
fails (failures.Host fault) e = host_fails fault e

-- why nothing was done
pub reason : (words : List Text) (error : Error) (status : ℕ) → (status ≡ 4) ⊎ ((status ≡ 2) × (kind_of error ≡ OutOfMemory → ⊥))
    → (kind_of error ≡ OutOfMemory) ⊎ ((task : Task) → AsksTask words task → ⊥)
    → (status ≡ 4) ⊎ ((status ≡ 2) × ((task : Task) → AsksTask words task → ⊥))
reason words error status (inl four) refused = inl four
reason words error status (inr two) (inl memory) = absurd (two.1 memory)
reason words error status (inr two) (inr none) = inr (two.0, none)

-- such a status is no other
pub misused : (error : Error) (status n : ℕ) → (status ≡ 4) ⊎ ((status ≡ 2) × (kind_of error ≡ OutOfMemory → ⊥)) → (n ≡ 4 → ⊥) → (n ≡ 2 → ⊥) → status ≡ n → ⊥
misused error status n (inl four) no_four no_two e = no_four (sym e ∙ four)
misused error status n (inr two) no_four no_two e = no_two (sym e ∙ two.0)

-- reading or writing failed, by the status of a failure
pub run_lost : (fault : RunFault) → run_status fault ≡ 3 → (fault ≡ run_faults.Read) ⊎ (fault ≡ run_faults.Write)
run_lost (run_faults.Line number fault) e = absurd (omega (arith, e))
run_lost run_faults.Endless e = absurd (omega (arith, e))
run_lost run_faults.Read e = inl refl
run_lost run_faults.Write e = inr refl
run_lost run_faults.Memory e = absurd (omega (arith, e))
run_lost run_faults.Start e = absurd (omega (arith, e))

pub script_lost : {X : Type 0} (r : Result X RunFault) → ended_status (as_task failures.Run r) ≡ 3 → (r ≡ Err run_faults.Read) ⊎ (r ≡ Err run_faults.Write)
script_lost (Ok x) e = absurd (omega (arith, e))
script_lost (Err fault) e = elim (run_lost fault e) [ inl read ↦ inl (ap Err read) | inr write ↦ inr (ap Err write) ]

pub filter_lost : (fault : DriveFault LineFault) → filter_status fault ≡ 3 → (fault ≡ filter_faults.Read) ⊎ (fault ≡ filter_faults.Write)
filter_lost (filter_faults.Line number fault) e = absurd (omega (arith, e))
filter_lost filter_faults.Endless e = absurd (omega (arith, e))
filter_lost filter_faults.Read e = inl refl
filter_lost filter_faults.Write e = inr refl
filter_lost filter_faults.Memory e = absurd (omega (arith, e))

pub host_lost : (fault : HostFault) → host_status fault ≡ 3 → (fault ≡ host_faults.Read) ⊎ (fault ≡ host_faults.Write)
host_lost host_faults.Endless e = absurd (omega (arith, e))
host_lost host_faults.Read e = inl refl
host_lost host_faults.Write e = inr refl
host_lost host_faults.Memory e = absurd (omega (arith, e))

-- the text of a filter's fault, which is also that of its crate
pub said_of_filters : (fault : DriveFault LineFault) → drive_text (λ (e : LineFault). Some (fault_text e)) fault ≡ Some (filter_text fault)
said_of_filters (filter_faults.Line number fault) = ap (λ (t : List ℕ). Some (codes "line " ++ t)) (append_assoc (decimal number) (codes ": ") (fault_text fault))
said_of_filters filter_faults.Read = refl
said_of_filters filter_faults.Write = refl
said_of_filters filter_faults.Memory = refl
said_of_filters filter_faults.Endless = refl
