use Rattle.std.proofs.Common.{rules, ◌≡◌, ℕ, ◌+◌, ◌-◌, [], ◌∷◌, ◌++◌, length, ap, sym, ◌∙◌, arith, subst, length-append, Option, MatchOption}
use Rattle.std.proofs.lemmas.Result.{err_from_is_err_and}
use Rattle.wb_history.specs.Cursors.{ReadsOne, Won}
use Rattle.wb_history.proofs.Walks.{walk_on, win_on, answered, lacks_read}
use Rattle.wb_history.proofs.cells.CellTable.contend.Goals as goal

pub returns-in_err-place : goal.returns-in_err-place
returns-in_err-place c =
    let p = err_from_is_err_and c.from_residual.result c.from_residual.ensures.1 in
    let i = c.loop-place.invariant in
    let e = c.in_err-place.ensures in
    let few = e.done.0 in
    rw p.1 record { done = (i.0.0 ++ [], 0 + (c.exchange.new.cursor.steps - c.loop-place.cursor.steps), (omega arith), walk_on _ _ _ 0 _ _ _ c.requires.cursor.1 i.0.1 e.done.1) }

pub returns-in-Some-answer_at : goal.returns-in-Some-answer_at
returns-in-Some-answer_at c =
    let i = c.loop-place.invariant in
    let w = subst (λ (o : Option ℕ). MatchOption o (Won c.loop-place.cursor [] c.args.drawop.now (length c.loop-place.cursor.seen.items) 1 c.exchange.new.cursor)
    (λ p. ReadsOne c.loop-place.cursor p c.exchange.new.cursor × (c.exchange.new.cursor.seat.me.0.stored ≡ c.loop-place.cursor.seat.me.0.stored))) c.in-Some.is c.in_ok-place.ensures.done in
    record { done = answered c.args.cursor.now c.args.drawop.now 0 c.exchange.new.cursor c.in-Some-answer_at.claim (i.0.0 ++ w.0.0 ∷ []) (walk_on _ _ _ 0 0 _ _ c.requires.cursor.1 i.0.1 w.0.1) c.in-Some-answer_at.ensures }

pub loop-place-preserved : goal.loop-place-preserved
loop-place-preserved c =
    let i = c.loop-place.invariant in
    let w = subst (λ (o : Option ℕ). MatchOption o (Won c.loop-place.cursor [] c.args.drawop.now (length c.loop-place.cursor.seen.items) 1 c.exchange.new.cursor)
    (λ p. ReadsOne c.loop-place.cursor p c.exchange.new.cursor × (c.exchange.new.cursor.seat.me.0.stored ≡ c.loop-place.cursor.seat.me.0.stored))) c.in-Some.is c.in_ok-place.ensures.done in
    ((i.0.0 ++ w.0.0 ∷ [], walk_on _ _ _ 0 0 _ _ c.requires.cursor.1 i.0.1 w.0.1), w.1 ∙ i.1, lacks_read c.loop-place.cursor c.in-Some.place c.exchange.new.cursor _ w.0 i.2 c.in_default-answer_at.ensures)

pub returns : goal.returns
returns c =
    let i = c.loop-place.invariant in
    let w : Won c.loop-place.cursor [] c.args.drawop.now (length c.loop-place.cursor.seen.items) 1 c.exchange.new.cursor = search rules in
    let e = win_on c.args.cursor.now i.0.0 [] c.args.drawop.now (length c.loop-place.cursor.seen.items) 0 1 c.loop-place.cursor c.exchange.new.cursor c.requires.cursor.1 i.0.1 w in
    let at : c.len.result - 1 ≡ length c.loop-place.cursor.seen.items =
    omega (arith, c.len.ensures, ap length w.seen, length-append (c.loop-place.cursor.seen.items ++ []) (c.args.drawop.now ∷ []), length-append c.loop-place.cursor.seen.items []) in
    record { done = (i.0.0 ++ [], subst (λ (k : ℕ). Won c.args.cursor.now (i.0.0 ++ []) c.args.drawop.now k 1 c.exchange.new.cursor) (sym at) e) }
