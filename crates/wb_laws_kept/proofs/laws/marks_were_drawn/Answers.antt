use Rattle.wb_laws_kept.proofs.Marks.{marks_were_drawn}
use Rattle.wb_laws_kept.proofs.laws.marks_were_drawn.Goals as goal

pub returns : goal.returns
returns c = marks_were_drawn
