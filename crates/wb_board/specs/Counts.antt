-- How many cells a board can have, and how many workers take its drawops at a time.
use Rattle.std.specs.Prelude.{ℕ, ◌<◌, ◌≤◌}
use Rattle.wb_board.specs.declared.board.TheConstants.{MAX_WORKERS}
pub use Rattle.wb_history.specs.CellCounts.{IsCellCount}
pub use Rattle.wb_history.specs.declared.history.TheConstants.{MAX_CELLS}

-- one at least, and not too many
abbrev pub IsWorkerCount : ℕ → Type 0
IsWorkerCount workers = (0 < workers) × (workers ≤ MAX_WORKERS)
