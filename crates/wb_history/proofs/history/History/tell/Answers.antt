use Rattle.std.proofs.lemmas.Grind.{common_steps}
use Rattle.std.proofs.Common.{List, ◌-◌, length, ◌∙◌, ap, subst, refl, sym, arith, take_all}
use Rattle.wb_names.specs.Values.{DrawopValue}
use Rattle.wb_history.specs.declared.knowledge.Knowledge.{Knowledge}
use Rattle.wb_history.specs.Indexed.{AreFronts}
use Rattle.wb_history.proofs.Fronts.{fronts_on}
use Rattle.wb_history.proofs.Portions.{left_matches}
use Rattle.wb_history.proofs.Shows.{sound, sound_pass, agree_on, on_ok, roomier}
use Rattle.wb_history.proofs.history.History.tell.Goals as goal

pub invariant_of-hearer : goal.invariant_of-hearer
invariant_of-hearer c =
    let i = c.hearer.invariant in
    let same = c.reserve.ensures.items in
    (roomier c.hearer.inside.cursor c.reserve.new.self same i.0, i.1, subst (λ (l : List DrawopValue). AreFronts c.hearer.inside.spares.items l) (sym same) i.2)

pub returns-in_err-reserve-clause-sound : goal.returns-in_err-reserve-clause-sound
returns-in_err-reserve-clause-sound c = grind (arith, common_steps, sound_pass, on_ok, sound, invariant_of-hearer)

pub invariant_of-teller : goal.invariant_of-teller
invariant_of-teller c =
    let h = c.teller.inside.cursor in
    let i = c.teller.invariant in
    let n = c.cut-message.ensures.seat in
    let cells = ap (λ (v : Knowledge). v.cells) n.1 in
    let words = ap (λ z. z.words) n.0.0 in
    let size = i.0.1 in
    let some_cells = i.0.2 in
    let few_cells = i.0.3 in
    let same = i.1 in (
      (left_matches h (record h { seat = c.cut-message.new.seat }) 0 i.0.0 n.0.2 n.1 refl refl (sym (take_all (length h.free.items - 0) h.free.items (omega arith))), (omega arith), (omega arith), (omega arith)),
      (omega arith),
      i.2,
    )

pub invariant_of-hearer-2 : goal.invariant_of-hearer-2
invariant_of-hearer-2 c =
    let h = record c.hearer.inside.cursor { seen = c.reserve.new.self } in
    let i = c.hearer.invariant in
    let same = c.reserve.ensures.items in
    let u = c.hear.ensures in (
      agree_on h c.hear.new.cursor (roomier c.hearer.inside.cursor c.reserve.new.self same i.0) u.matches u.seat u.cells,
      i.1 ∙ sym u.cells,
      fronts_on c.hearer.inside.spares.items h.seen.items c.hear.new.cursor.seen.items u.first (subst (λ (l : List DrawopValue). AreFronts c.hearer.inside.spares.items l) (sym same) i.2),
    )

pub returns-clause-sound : goal.returns-clause-sound
returns-clause-sound c = grind (arith, common_steps, sound, invariant_of-teller, invariant_of-hearer-2)
