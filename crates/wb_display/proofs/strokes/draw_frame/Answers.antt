use Rattle.wb_display.proofs.Overlaying.{frame_drawn}
use Rattle.wb_display.proofs.strokes.draw_frame.Goals as goal

pub returns : goal.returns
returns c = frame_drawn _ _ _ _ _ _ _ _ _ _ _ _ c.draw_row.ensures c.draw_row-2.ensures c.draw_column.ensures c.draw_column-2.ensures
