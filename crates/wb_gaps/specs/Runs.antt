-- Runs of numbers, source by source: what the walks for gaps and reports read.
use Rattle.std.specs.Prelude.{◌≡◌, ℕ, ◌<◌, ◌≤◌, ◌⊎◌, ◌↔◌, List, All, AllPairs, Contains, map}
use Rattle.wb_names.specs.Values.{DrawopValue}
use Rattle.wb_names.specs.History.{IsHeld}
use Rattle.wb_names.specs.declared.name.PageId.{PageId}
use Rattle.wb_gaps.specs.Starts.{run_of}
use Rattle.wb_gaps.specs.declared.run.Run.{Run}
use Rattle.wb_gaps.specs.declared.run.Runs.{Runs}

-- the number n of the source lies in a run
abbrev pub InRuns : List Run → ℕ → ℕ → Type 0
InRuns runs source n = (r : Run) × Contains runs r × (r.source ≡ source) × (r.first ≤ n) × (n ≤ r.last)

-- a run of a smaller source, or one that ends below the other's first number
pub record IsBelow (r s : Run) : Type 0 where
  pub order : (r.source < s.source) ⊎ ((r.source ≡ s.source) × (r.last < s.first))

-- runs of numbers from 1 on, ascending by source and number; two may touch
pub record AreRuns (runs : List Run) : Type 0 where
  pub counted : All (λ r. 1 ≤ r.first) runs
  pub filled : All (λ r. r.first ≤ r.last) runs
  pub ascending : AllPairs IsBelow runs

-- they hold exactly the numbers that are held on the page
pub record AreRunsOf (history : List DrawopValue) (page : PageId) (runs : List Run) : Type 0 where
  pub lawful : AreRuns runs
  pub held : (source n : ℕ) → InRuns runs source n ↔ IsHeld history page source n

-- what is left of runs
abbrev pub runs_left : Runs → List Run
runs_left runs = map run_of runs.ranges
