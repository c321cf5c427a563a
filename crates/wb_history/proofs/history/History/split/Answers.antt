use Rattle.std.proofs.lemmas.Grind.{common_steps}
use Rattle.std.proofs.Common.{refl, ap, arith}
use Rattle.atomic_table.specs.Table.{Me}
use Rattle.wb_names.specs.Values.{DrawopValue}
use Rattle.wb_history.specs.declared.knowledge.Knowledge.{Knowledge}
use Rattle.wb_history.proofs.Shows.{sound, sound_pass}
use Rattle.wb_history.proofs.Fronts.{none_are_fronts}
use Rattle.wb_history.proofs.Unions.{same_view}
use Rattle.wb_history.proofs.Portions.{left_matches, right_matches}
use Rattle.wb_history.proofs.history.History.split.Goals as goal

pub invariant_of-result : goal.invariant_of-result
invariant_of-result c =
    let i = c.pass.invariant in
    let n = c.cut-seat.ensures.new in
    let cells = ap (λ (m : Me DrawopValue Knowledge). m.0.cells) n.1 in
    let words = ap (λ z. z.words) n.0 in
    let size = i.0.1 in
    let some_cells = i.0.2 in
    let few_cells = i.0.3 in
    let same = i.1 in (
      (
        right_matches c.pass.inside.cursor (record { seat = c.cut-seat.result; seen = c.in-Ok.seen; mine = c.new.result; free = c.in-Ok-split_off.free; steps = 0 }) c.args.rows i.0.0 n.1 c.in-Ok.ensures.list c.new.ensures.items
            c.in-Ok-split_off.ensures.tail,
        (omega arith),
        (omega arith),
        (omega arith),
      ),
      (omega arith),
      none_are_fronts c.new-2.result.items c.in-Ok.seen.items c.new-2.ensures.items,
    )

pub invariant_of-pass-2 : goal.invariant_of-pass-2
invariant_of-pass-2 c =
    let i = c.pass.invariant in
    let n = c.cut-seat.ensures.seat in
    let cells = ap (λ (v : Knowledge). v.cells) n.1 in
    let words = ap (λ z. z.words) n.0.0 in
    let size = i.0.1 in
    let some_cells = i.0.2 in
    let few_cells = i.0.3 in
    let same = i.1 in (
      (
        left_matches c.pass.inside.cursor (record { seat = c.cut-seat.new.seat; seen = c.pass.inside.cursor.seen; mine = c.pass.inside.cursor.mine; free = c.split_off.new.self; steps = c.pass.inside.cursor.steps }) c.args.rows i.0.0 n.0.2 n.1 refl refl
            c.in-Ok-split_off.ensures.items,
        (omega arith),
        (omega arith),
        (omega arith),
      ),
      (omega arith),
      c.another.ensures.spares,
    )

pub returns-then-have-rows-clause-sound : goal.returns-then-have-rows-clause-sound
returns-then-have-rows-clause-sound c = (sound_pass c.pass.inside.cursor c.pass.view_is c.pass.invariant.0, tt)

pub returns-in_default-clause-sound : goal.returns-in_default-clause-sound
returns-in_default-clause-sound c = grind (arith, common_steps, sound)

pub returns-in_default-split_off-clause-sound : goal.returns-in_default-split_off-clause-sound
returns-in_default-split_off-clause-sound c = grind (arith, common_steps, same_view, sound)

pub returns-clause-sound : goal.returns-clause-sound
returns-clause-sound c = (
  sound (record { seat = c.cut-seat.new.seat; seen = c.pass.inside.cursor.seen; mine = c.pass.inside.cursor.mine; free = c.split_off.new.self; steps = c.pass.inside.cursor.steps }) (invariant_of-pass-2 c).0,
  sound (record { seat = c.cut-seat.result; seen = c.in-Ok.seen; mine = c.new.result; free = c.in-Ok-split_off.free; steps = 0 }) (invariant_of-result c).0,
)
