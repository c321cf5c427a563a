-- What a run makes of a script.
use Rattle.std.specs.Prelude.{ℕ, List, Bool, Option, Result}
use Rattle.wb_script.specs.declared.fault.RunFault.{RunFault}
use Rattle.wb_script.specs.declared.running.Summary.{Summary}
use Rattle.wb_lines.specs.Input.{input_lines}
use Rattle.wb_script.specs.Script.{IsAlone, RunOutcome, run_outcome, IsOutcome, RunMeets}
use Rattle.wb_script.specs.ScriptLaws.{workers_at_end}
use Rattle.wb_script.specs.Reordering.{IsReordered}

-- A run by `workers` workers, or by those of the board if no number is given, meets an outcome of its input, which is cut off if reading fails after it. By one worker that is the outcome of one thread.
-- By any number it is that of one thread for a script with the arrivals of each batch in some order.
pub record RunsScript (workers : Option ℕ) (cut : Bool) (input written : List ℕ) (result : Result Summary RunFault) : Type 0 where
  pub some : (o : RunOutcome) × IsOutcome workers cut input o × RunMeets o written result
  pub alone : IsAlone (workers_at_end workers (input_lines input)) → RunMeets (run_outcome workers cut input) written result
  pub reordered : (other : List ℕ) × IsReordered cut input other × RunMeets (run_outcome workers cut other) written result
