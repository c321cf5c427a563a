use Rattle.std.proofs.Common.{arith, ◌∙◌, refl, sym}
use Rattle.std.proofs.lemmas.Grind.{common_steps}
use Rattle.wb_history.proofs.Fronts.{fronts_on}
use Rattle.wb_history.proofs.Shows.{sound, sound_pass, agree_on}
use Rattle.wb_history.proofs.Unions.{joined, same_view}
use Rattle.wb_history.proofs.history.History.join.Goals as goal

pub invariant_of-pass-2 : goal.invariant_of-pass-2
invariant_of-pass-2 c =
    let u = c.take_in-shorter.ensures.united in (
      agree_on c.pass.inside.cursor c.take_in-shorter.new.cursor c.pass.invariant.0 u.matches u.seat u.cells,
      c.pass.invariant.1 ∙ sym u.cells,
      c.keep.ensures c.take_in-shorter.new.cursor.seen.items (fronts_on c.pass.inside.spares.items c.pass.inside.cursor.seen.items c.take_in-shorter.new.cursor.seen.items u.first c.pass.invariant.2) c.take_in-shorter.ensures.front,
    )

pub returns-clause-joined : goal.returns-clause-joined
returns-clause-joined c =
    let p = same_view (record c.pass.inside.cursor { mine = c.reserve.new.self; free = c.reserve-2.new.self }) c.pass.inside.cursor refl refl c.reserve.ensures.items c.reserve-2.ensures.items refl in
    joined c.args.pass.now c.args.other _ c.other.inside.cursor c.take_in-shorter.new.cursor (p ∙ c.pass.view_is) c.other.view_is c.other.invariant.0.0 c.take_in-shorter.ensures.united

pub returns-then-is_err-clause-sound : goal.returns-then-is_err-clause-sound
returns-then-is_err-clause-sound c = grind (arith, common_steps, same_view, sound, sound_pass)

pub returns-then-is_err-2-clause-sound : goal.returns-then-is_err-2-clause-sound
returns-then-is_err-2-clause-sound c = grind (arith, common_steps, same_view, sound, sound_pass)

pub returns-clause-sound : goal.returns-clause-sound
returns-clause-sound c = (sound c.take_in-shorter.new.cursor (invariant_of-pass-2 c).0, tt)
