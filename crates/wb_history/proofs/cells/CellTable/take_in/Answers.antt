use Rattle.std.proofs.Common.{ℕ, List, ◌++◌, ◌∙◌, ap, arith, length, refl, sym}
use Rattle.wb_history.specs.Indexed.{SeenValue}
use Rattle.wb_history.proofs.Unions.{took_in, second_longer}
use Rattle.wb_history.proofs.cells.CellTable.take_in.Goals as goal

pub returns-then-len-clause-united : goal.returns-then-len-clause-united
returns-then-len-clause-united c =
    let h = c.args.cursor.now in
    let w = c.args.other.seat.me.0 in
    let o = c.requires.other.1 in
    let u = c.unite.ensures.seat in
    let f = c.confirm.ensures in
    let seen = ap (λ (m : SeenValue). m.items) c.replace.ensures.after ∙ sym o.seen in
    let long = ap length o.seen in
    took_in h w (record { seat = c.confirm.new.seat; seen = c.replace.new.dest; mine = c.append.new.to; free = c.append-2.new.self; steps = h.steps }) c.unite.new.seat.me _ f.found.0 c.requires.cursor.1 u.0.2 u.1 f.found.1 (f.seat.0 ∙ u.0.0) (f.seat.1 ∙ u.0.1) (seen ∙ sym (second_longer h.seen.items w.seen (omega arith)))
    (c.append.ensures ∙ ap (λ (l : List ℕ). h.mine.items ++ l) (c.as_slice.ensures.value ∙ sym o.mine)) (c.append-2.ensures ∙ ap (λ (l : List ℕ). h.free.items ++ l) (sym o.free)) refl
