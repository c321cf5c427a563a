-- How many cells a history can have.
use Rattle.std.specs.Prelude.{ℕ, ◌<◌, ◌≤◌}
use Rattle.wb_history.specs.declared.history.TheConstants.{MAX_CELLS}

-- one at least, and not too many
abbrev pub IsCellCount : ℕ → Type 0
IsCellCount cells = (0 < cells) × (cells ≤ MAX_CELLS)
