use Rattle.wb_display.proofs.Overlaying.{plotted}
use Rattle.wb_display.proofs.strokes.put.Goals as goal

pub returns : goal.returns
returns c = plotted _ _ _ _ _ _ c.requires.column c.requires.row c.requires.len
