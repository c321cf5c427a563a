-- How a run ends, by how its driver does.
use Rattle.std.specs.Prelude.{ℕ, Bool, Result, Ok, Err, if◌then◌else◌}
use Rattle.wb_lines.specs.declared.fault.DriveFault.{DriveFault}
use Rattle.wb_lines.specs.declared.fault.DriveFault.TheVariants as drive_faults
use Rattle.wb_lines.specs.Driving.{Outcome as LinesOutcome, writes}
use Rattle.wb_commands.specs.declared.fault.LineFault.{LineFault}
use Rattle.wb_script.specs.declared.fault.RunFault.{RunFault}
use Rattle.wb_script.specs.declared.fault.RunFault.TheVariants as run_faults
use Rattle.wb_script.specs.declared.running.Summary.{Summary}
use Rattle.wb_script.specs.Checking.{check_answer}
use Rattle.wb_script.specs.Script.{RunState, RunOutcome, prints, run_answer}

-- why a run stops, if a thread may have been refused
abbrev pub ended_by : Bool → DriveFault LineFault → RunFault
ended_by refused (drive_faults.Line number e) = run_faults.Line number e
ended_by refused drive_faults.Read = run_faults.Read
ended_by refused drive_faults.Write = run_faults.Write
ended_by refused drive_faults.Memory = if refused then run_faults.Start else run_faults.Memory
ended_by refused drive_faults.Endless = run_faults.Endless

-- how a run ends, by how many drawops are held then
abbrev pub ended_with : ℕ → Bool → Result ℕ (DriveFault LineFault) → Result Summary RunFault
ended_with held refused (Ok lines) = Ok (record { lines = lines; held = held })
ended_with held refused (Err e) = Err (ended_by refused e)

-- the outcome of a script, of that of its driver and the state at its end
abbrev pub shown : LinesOutcome LineFault → RunState → RunOutcome
shown (writes text end) t = prints text (run_answer t (check_answer end))
