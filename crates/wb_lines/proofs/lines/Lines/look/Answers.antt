use Rattle.std.proofs.Common.{sym}
use Rattle.wb_lines.proofs.Moments.{Reads-none}
use Rattle.wb_lines.proofs.lines.Lines.look.Goals as goal

pub returns-then-not-matches-clause-reads : goal.returns-then-not-matches-clause-reads
returns-then-not-matches-clause-reads g c = Reads-none g.S.Saying.by _

pub returns-clause-reads : goal.returns-clause-reads
returns-clause-reads g c = rw (sym c.self-2.view_is) at c.find-seen.ensures.reads
