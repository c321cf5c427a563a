use Rattle.std.proofs.Common.{◌≡◌, ℕ, ◌<◌}
use Rattle.std.specs.Prelude.{slice_index}
use Rattle.wb_display.specs.Cells.{place}
use Rattle.wb_display.proofs.canvas.clear.Given as goal

abbrev pub invariant-loop-y : goal.invariant-loop-y
invariant-loop-y l = record {
  spaces : (x y : ℕ) → x < l.size.width → y < l.size.height → slice_index l.cells (place l.size.width x y) ≡ 32;
  feeds : (y : ℕ) → y < l.y → slice_index l.cells (place l.size.width l.size.width y) ≡ 10;
}
