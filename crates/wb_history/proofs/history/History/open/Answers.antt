use Rattle.std.proofs.lemmas.Grind.{common_steps}
use Rattle.std.proofs.Common.{sym, ap, arith}
use Rattle.atomic_table.specs.Table.{Me}
use Rattle.wb_names.specs.Values.{DrawopValue}
use Rattle.wb_history.specs.declared.knowledge.Knowledge.{Knowledge}
use Rattle.wb_history.proofs.Fronts.{none_are_fronts}
use Rattle.std.proofs.lemmas.List.FromFn.{length-range_with_len}
use Rattle.wb_history.proofs.Shows.{first_matches, sound}
use Rattle.wb_history.proofs.history.History.open.Goals as goal

pub invariant_of-pass : goal.invariant_of-pass
invariant_of-pass c =
    let m = c.in-Ok-make.ensures in
    let none = c.if-cells-eq0.false in
    let many = c.if-cells-gt-MAX_CELLS.false in
    let cells = ap (λ (x : Me DrawopValue Knowledge). x.0.cells) m.2 in
    let size = c.in-Ok-make.table.sized in
    let words = ap (λ z. z.words) m.1 in
    let same = m.0 in (
      (first_matches (record { seat = c.in-Ok-make.seat; seen = c.new.result; mine = c.new-2.result; free = c.in-Ok.free; steps = 0 }) c.args.cells (omega arith) m.2 c.new.ensures c.new-2.ensures.items c.in-Ok.ensures, (omega arith), (omega arith), (omega arith)),
      sym cells,
      none_are_fronts c.new-3.result.items c.new.result.items c.new-3.ensures.items,
    )

pub returns-clause-opened : goal.returns-clause-opened
returns-clause-opened c = grind (arith, common_steps, length-range_with_len, sound, invariant_of-pass)
