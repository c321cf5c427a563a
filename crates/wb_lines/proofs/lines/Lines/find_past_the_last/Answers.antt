use Rattle.std.proofs.Common.{inl, inr, [], refl, sym}
use Rattle.wb_lines.proofs.Looking.{found_end, found_failure, found_many, found_nothing, empty_line}
use Rattle.wb_lines.proofs.lines.Lines.find_past_the_last.Goals as goal
use Rattle.wb_lines.proofs.lines.Lines.find_past_the_last.Goals.{in-End, in-Failed, in-Unwritten, in-Byte}

pub returns-clause-reads : goal.returns-clause-reads
returns-clause-reads g c =
    let unseen = rw (sym c.self.view_is) at c.requires.last.0 in
    let last = rw (sym c.self.view_is) at c.requires.last.1 in
    elim c.match-next_byte.branch [
      | in-End w ↦ let l = rw w.in-End.is at c.next_byte.ensures.read in rw (sym c.self.view_is, w.result-is) (found_end g.S.Saying.by l.0 unseen l.1 c.next_byte.ensures.sends refl refl refl l.2.0 l.2.2)
      | in-Failed w ↦ let l = rw w.in-Failed.is at c.next_byte.ensures.read in rw (sym c.self.view_is, w.result-is) (found_failure g.S.Saying.by l.0 [] unseen l.1 c.next_byte.ensures.sends refl refl refl (inr refl) empty_line l.2.0 l.2.1 l.2.2)
      | in-Unwritten w ↦ let l = c.next_byte.ensures.read in rw (sym c.self.view_is, w.result-is) (found_nothing g.S.Saying.by l.0 unseen l.1 c.next_byte.ensures.sends refl refl (inl (refl, (c.next_byte.ensures.unwritten w.in-Unwritten.is).0)))
      | in-Byte w ↦ let l = rw w.in-Byte.is at c.next_byte.ensures.read in rw (sym c.self.view_is, w.result-is) (found_many g.S.Saying.by l.0 _ unseen l.1 c.next_byte.ensures.sends refl refl refl last l.2)
    ]
