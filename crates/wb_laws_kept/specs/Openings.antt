-- How a program starts a self-managing member: `board`, then moments (`tick`), then `keep`.
use Rattle.std.specs.Prelude.{ℕ, ◌≤◌, ◌≡◌, List, [], ◌∷◌, true}
use Rattle.wb_recovery.specs.Timing.{are_constants}
use Rattle.wb_recovery.specs.declared.tuning.Tuning.{Tuning}
use Rattle.wb_board.specs.Counts.{MAX_CELLS}
use Rattle.wb_member.specs.Lines.{after_lines, ticks_at}
use Rattle.wb_member.specs.Opened.{Opened, opened_with, present}
use Rattle.wb_keeping.specs.Performing.{Keeping}
use Rattle.wb_policy.specs.Policy.{begun}

-- the constants of its timers, the cells of its board and its seed; the moments of its ticks;
-- its rate of reports, and for how long it listens
pub record Opening : Type 0 where
  pub constants : Tuning
  pub cells : ℕ
  pub seed : ℕ
  pub moments : List ℕ
  pub rate : ℕ
  pub listen : ℕ

-- the host of the member of a number, once it took in the moments
abbrev pub opened_host : ℕ → Opening → Opened
opened_host number o =
    after_lines (ticks_at o.moments) (opened_with o.constants number o.cells o.seed)

-- and once it is self-managing
abbrev pub opened : ℕ → Opening → Keeping
opened number o =
    let host = opened_host number o in
    record { host = host; policy = begun (present host) o.rate o.listen o.seed }

-- moments that do not go back, from one on
abbrev pub DoNotGoBack : ℕ → List ℕ → Type 0
DoNotGoBack now [] = Unit {0}
DoNotGoBack now (moment ∷ moments) = (now ≤ moment) × DoNotGoBack moment moments

-- Moments do not go back, constants are 1 to 16, and the board has no more cells than one can have.
pub record IsOpening (o : Opening) : Type 0 where
  pub moments : DoNotGoBack 0 o.moments
  pub in_range : are_constants o.constants ≡ true
  pub small : o.cells ≤ MAX_CELLS
