use Rattle.std.proofs.lemmas.Grind.{common_steps}
use Rattle.wb_history.specs.Sizes.{row_words, drawop_steps}
use Rattle.std.proofs.Common.{◌+◌, ◌++◌, arith, subst, Option}
use Rattle.wb_history.specs.declared.claim.Claim.{Claim}
use Rattle.wb_history.specs.Cursors.{Sought}
use Rattle.wb_history.proofs.Lists.{at-lt}
use Rattle.wb_history.proofs.Walks.{answered, walk_on, answer_on, free_end}
use Rattle.wb_history.proofs.cells.CellTable.claim_with.Goals as goal

pub returns-in-Ok-Some-clause-done : goal.returns-in-Ok-Some-clause-done
returns-in-Ok-Some-clause-done c = grind (arith, common_steps, answered)

pub returns-in-Ok-clause-done : goal.returns-in-Ok-clause-done
returns-in-Ok-clause-done c =
    let s = subst (λ (o : Option Claim). Sought c.args.self.now.cells c.args.cursor.now c.args.drawop.now c.seek.new.cursor o) c.in-Ok-None.field-0-is c.in-Ok-None.ensures.done in
    let some_free = at-lt c.seek.new.cursor.free.items _ _ c.in-Some-last.ensures in
    let e = free_end c.args.self.now c.args.cursor.now s.0 c.seek.new.cursor c.requires.cursor.0 s.1 (omega arith) in
    (drawop_steps, (omega arith), answer_on c.args.cursor.now s.0 c.args.drawop.now 1 row_words c.seek.new.cursor c.publish_or_find.new.cursor c.in-Ok.claim c.requires.cursor.1 e.0 c.in-Ok.ensures.done)

pub returns-in-Err-publish_or_find-clause-done : goal.returns-in-Err-publish_or_find-clause-done
returns-in-Err-publish_or_find-clause-done c =
    let s = subst (λ (o : Option Claim). Sought c.args.self.now.cells c.args.cursor.now c.args.drawop.now c.seek.new.cursor o) c.in-Ok-None.field-0-is c.in-Ok-None.ensures.done in
    let some_free = at-lt c.seek.new.cursor.free.items _ _ c.in-Some-last.ensures in
    let e = free_end c.args.self.now c.args.cursor.now s.0 c.seek.new.cursor c.requires.cursor.0 s.1 (omega arith) in
    let w = c.in-Err-publish_or_find.ensures.done in
    let few = w.2 in
    (s.0 ++ w.0, 1 + w.1, (omega arith), walk_on _ _ _ 1 w.1 _ _ c.requires.cursor.1 e.0 w.3)
