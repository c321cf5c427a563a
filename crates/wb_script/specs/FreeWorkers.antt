-- Laws of scripts whose arrivals do not clash, with cells for all names: how the workers share the work shows nowhere.
use Rattle.std.specs.Prelude.{◌≡◌, ℕ, List, Bool, Option}
use Rattle.wb_script.specs.Laws.{NoneClash, HasCells}
use Rattle.wb_lines.specs.Input.{input_lines}
use Rattle.wb_script.specs.Script.{RunOutcome, run_outcome, IsOutcome}
use Rattle.wb_script.specs.Shows.{arrivals_of, cells_of}

-- No two arrivals of an input clash, and the board that it opens has a cell for each of their names.
pub record HoldsAll (input : List ℕ) : Type 0 where
  pub clash : NoneClash (arrivals_of (input_lines input))
  pub room : HasCells (cells_of (input_lines input)) (arrivals_of (input_lines input))

-- Then whatever the number of workers, and in whatever order they take each batch, the outcome is that of one thread.
abbrev pub OrdersAreFree : Type 0
OrdersAreFree = (workers : Option ℕ) (cut : Bool) (input : List ℕ) (o : RunOutcome) → HoldsAll input → IsOutcome workers cut input o → o ≡ run_outcome workers cut input

-- So any two runs of it, each by its own number of workers, print the same and end the same.
abbrev pub WorkersAreFree : Type 0
WorkersAreFree = (workers others : Option ℕ) (cut : Bool) (input : List ℕ) (o p : RunOutcome) → HoldsAll input → IsOutcome workers cut input o → IsOutcome others cut input p → o ≡ p
