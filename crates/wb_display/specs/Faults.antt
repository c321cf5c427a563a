-- The numbers of the faults.
use Rattle.std.specs.Prelude.{ℕ}
use Rattle.wb_display.specs.declared.canvas.CanvasFault.{CanvasFault}
use Rattle.wb_display.specs.declared.canvas.CanvasFault.TheVariants.{Size, Memory}

abbrev pub canvas_code : CanvasFault → ℕ
canvas_code Size = 1
canvas_code Memory = 2
