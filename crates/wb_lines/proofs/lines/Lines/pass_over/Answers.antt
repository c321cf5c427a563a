use Rattle.std.proofs.Common.{refl, sym}
use Rattle.wb_lines.proofs.LongLines.{passes}
use Rattle.wb_lines.proofs.lines.Lines.pass_over.Goals as goal

pub returns-clause-passes : goal.returns-clause-passes
returns-clause-passes g c =
    let unseen = rw (sym c.self.view_is) at c.requires.taken.0 in
    let few = rw (sym c.self.view_is) at c.requires.taken.1 in
    let r = c.pass_over-found.ensures.read in
    rw (sym c.self.view_is) (passes g.S.Saying.by r.0 r.1 c.pass_over-found.result unseen few r.2 c.pass_over-found.ensures.sends refl refl c.found_over.ensures c.pass_over-found.ensures.failed c.pass_over-found.ensures.unwritten r.3)
