-- The last number of each source's runs, which is its greatest.
use Rattle.std.specs.Prelude.{ℕ, ◌<◌, ◌≤◌, List, Option, Some, None, Bool, false, nat_eq, All, AllPairs, length}
use Rattle.wb_names.specs.Values.{MarkValue}
use Rattle.wb_names.specs.Marks.{mark_of}
use Rattle.wb_gaps.specs.Greatest.{IsGreatest}
use Rattle.wb_gaps.specs.Runs.{InRuns}
use Rattle.wb_gaps.specs.declared.run.Run.{Run}

-- the next run is of this source
abbrev pub continues : ℕ → Option Run → Bool
continues source None = false
continues source (Some run) = nat_eq run.source source

-- one mark for each source of the runs, ascending, with its greatest number
pub record AreGreatest (runs : List Run) (marks : List MarkValue) : Type 0 where
  pub ascending : AllPairs (λ m n. m.source < n.source) marks
  pub positive : All (λ m. 1 ≤ m.high) marks
  pub greatest : (source : ℕ) → IsGreatest (InRuns runs source) (mark_of marks source)
  pub few : length marks ≤ length runs
