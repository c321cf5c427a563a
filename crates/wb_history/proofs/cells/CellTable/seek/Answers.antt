use Rattle.std.proofs.lemmas.Grind.{common_steps}
use Rattle.std.proofs.lemmas.Result.{err_from_is_err_and}
use Rattle.std.proofs.Common.{ℕ, [], ◌∷◌, ◌++◌, arith, subst, Option, MatchOption}
use Rattle.wb_history.specs.Cursors.{AtEnd, ReadsOne}
use Rattle.wb_history.proofs.Walks.{walk_on, lacks_read}
use Rattle.wb_history.proofs.cells.CellTable.seek.Goals as goal

pub returns-in-Some-answer_at : goal.returns-in-Some-answer_at
returns-in-Some-answer_at c =
    let i = c.loop-place.invariant in
    let w = subst (λ (o : Option ℕ). MatchOption o (AtEnd c.args.self.now.cells c.loop-place.cursor [] c.next_drawop.new.cursor) (λ p. ReadsOne c.loop-place.cursor p c.next_drawop.new.cursor)) c.in-Some.is c.in_ok-place.ensures.done in
    record { done = (i.0.0 ++ w.0 ∷ [], walk_on _ _ _ 0 0 _ _ c.requires.cursor.1 i.0.1 w.1, c.in-Some-answer_at.ensures) }

pub loop-place-preserved : goal.loop-place-preserved
loop-place-preserved c =
    let i = c.loop-place.invariant in
    let w = subst (λ (o : Option ℕ). MatchOption o (AtEnd c.args.self.now.cells c.loop-place.cursor [] c.next_drawop.new.cursor) (λ p. ReadsOne c.loop-place.cursor p c.next_drawop.new.cursor)) c.in-Some.is c.in_ok-place.ensures.done in
    ((i.0.0 ++ w.0 ∷ [], walk_on _ _ _ 0 0 _ _ c.requires.cursor.1 i.0.1 w.1), lacks_read c.loop-place.cursor c.in-Some.place c.next_drawop.new.cursor _ w i.1 c.in_default-answer_at.ensures)

pub returns-in_err-place : goal.returns-in_err-place
returns-in_err-place c = grind (arith, common_steps, err_from_is_err_and, walk_on)
