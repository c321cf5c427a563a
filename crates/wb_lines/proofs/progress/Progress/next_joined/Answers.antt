use Rattle.std.proofs.Common.{refl}
use Rattle.wb_lines.proofs.GroupedLines.{takes_joined}
use Rattle.wb_lines.proofs.progress.Progress.next_joined.Goals as goal

pub returns-then-joins-clause-joined : goal.returns-then-joins-clause-joined
returns-then-joins-clause-joined g c = takes_joined g.S.Saying.says g.S.Saying.by c.take_line.result c.look.ensures.reads (rw c.if-joins.true at c.joins.ensures) c.take_line.ensures.taken c.look.ensures.count.0 refl
