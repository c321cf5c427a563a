use Rattle.std.proofs.Common.{sym, ◌∙◌, refl, inl, [], ◌∷◌, append_assoc, append-nil}
use Rattle.wb_lines.proofs.Looking.{found_line, found_long, found_end, found_failure}
use Rattle.wb_lines.proofs.lines.Lines.find_line.Goals as goal

pub returns-in-Ok-Whole-clause-reads : goal.returns-in-Ok-Whole-clause-reads
returns-in-Ok-Whole-clause-reads g c =
    let unseen = rw (sym c.self.view_is) at c.requires.next.0 in
    let l = rw (c.in-Ok-Whole.is, c.in-Ok-Whole.field-0-is) at c.next_line.ensures.read in
    let said = rw c.read_line.ensures.line at c.read_line.ensures.said in
    rw (sym c.self.view_is, c.read_line.ensures.line) (found_line g.S.Saying.by g.S.Saying.says l.0 unseen l.1 c.next_line.ensures.sends refl refl said (l.2.1 ∙ sym (append_assoc c.next_line.new.line.items (10 ∷ []) c.next_line.new.self.bytes)))

pub returns-in-Ok-Last-clause-reads : goal.returns-in-Ok-Last-clause-reads
returns-in-Ok-Last-clause-reads g c =
    let unseen = rw (sym c.self.view_is) at c.requires.next.0 in
    let l = rw (c.in-Ok-Last.is, c.in-Ok-Last.field-0-is) at c.next_line.ensures.read in
    let said = rw c.read_line-in-Ok-Last.ensures.line at c.read_line-in-Ok-Last.ensures.said in
    rw (sym c.self.view_is, c.read_line-in-Ok-Last.ensures.line) (found_line g.S.Saying.by g.S.Saying.says l.0 unseen l.1 c.next_line.ensures.sends refl refl said (l.2.1 ∙ rw l.2.3 (sym (append-nil c.next_line.new.line.items) ∙ sym (append_assoc c.next_line.new.line.items [] []))))

pub returns-in-Ok-TooLong-clause-reads : goal.returns-in-Ok-TooLong-clause-reads
returns-in-Ok-TooLong-clause-reads g c =
    let unseen = rw (sym c.self.view_is) at c.requires.next.0 in
    let l = rw (c.in-Ok-TooLong.is, c.in-Ok-TooLong.field-0-is) at c.next_line.ensures.read in
    rw (sym c.self.view_is) (found_long g.S.Saying.by l.0 unseen l.1 c.next_line.ensures.sends refl refl refl l.2.2)

pub returns-in-Ok-End-clause-reads : goal.returns-in-Ok-End-clause-reads
returns-in-Ok-End-clause-reads g c =
    let unseen = rw (sym c.self.view_is) at c.requires.next.0 in
    let l = rw (c.in-Ok-End.is, c.in-Ok-End.field-0-is) at c.next_line.ensures.read in
    rw (sym c.self.view_is) (found_end g.S.Saying.by l.0 unseen l.1 c.next_line.ensures.sends refl refl refl l.2.0 l.2.2)

pub returns-in-Ok-Failed-clause-reads : goal.returns-in-Ok-Failed-clause-reads
returns-in-Ok-Failed-clause-reads g c =
    let unseen = rw (sym c.self.view_is) at c.requires.next.0 in
    let few = rw (sym c.self.view_is) at c.requires.next.1 in
    let l = rw (c.in-Ok-Failed.is, c.in-Ok-Failed.field-0-is) at c.next_line.ensures.read in
    rw (sym c.self.view_is) (found_failure g.S.Saying.by l.0 c.next_line.new.line.items unseen l.1 c.next_line.ensures.sends refl refl refl (inl few) l.2.0 l.2.1 l.2.2 l.2.3)
