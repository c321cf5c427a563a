use Rattle.std.proofs.Common.{refl}
use Rattle.wb_lines.proofs.FirstLines.{takes_next}
use Rattle.wb_lines.proofs.progress.Progress.next_first.Goals as goal

pub returns-clause-next : goal.returns-clause-next
returns-clause-next g c = takes_next g.S.Saying.says g.S.Saying.by c.take_first.result c.look.ensures.reads c.look.ensures.count.0 c.take_first.ensures.taken refl
